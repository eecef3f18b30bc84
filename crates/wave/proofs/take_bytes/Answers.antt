-- The words that `wave::take_bytes` takes are within their places.
-- Assumes nothing.
use Rattle.std.proofs.Common.{sym}
use Rattle.std.proofs.lemmas.List.{length-take-le}
use Rattle.recording_writer.proofs.Chunks.{words_within}
use Rattle.wave.proofs.take_bytes.Goals as goal

pub slice_bounds-words-end : goal.slice_bounds-words-end
slice_bounds-words-end g c = words_within _ _ _ _ c.words_of-count.ensures.0 c.words_of-count.ensures.1

pub slice_bounds-write_block-end : goal.slice_bounds-write_block-end
slice_bounds-write_block-end g c =
    sym (length-take-le _ _ (words_within _ _ _ _ c.words_of-count.ensures.0 c.words_of-count.ensures.1))
