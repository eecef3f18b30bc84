-- The words that `list_words::list_block` takes are within their places.
use Rattle.std.proofs.Common.{sym}
use Rattle.std.proofs.lemmas.List.{length-take-le}
use Rattle.recording_writer.proofs.Chunks.{words_within}
use Rattle.list_words.proofs.list_block.Goals as goal

pub slice_bounds-words-end : goal.slice_bounds-words-end
slice_bounds-words-end g c = words_within _ _ _ _ c.words_of-count.ensures.0 c.words_of-count.ensures.1

pub slice_bounds-advance_all-end : goal.slice_bounds-advance_all-end
slice_bounds-advance_all-end g c =
    sym (length-take-le _ _ (words_within _ _ _ _ c.words_of-count.ensures.0 c.words_of-count.ensures.1))

pub slice_bounds-words-end-2 : goal.slice_bounds-words-end-2
slice_bounds-words-end-2 g c = words_within _ _ _ _ c.words_of-count.ensures.0 c.words_of-count.ensures.1

pub slice_bounds-print_lines-end : goal.slice_bounds-print_lines-end
slice_bounds-print_lines-end g c =
    sym (length-take-le _ _ (words_within _ _ _ _ c.words_of-count.ensures.0 c.words_of-count.ensures.1))
