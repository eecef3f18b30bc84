-- `record::record_some` lends and writes what is within its buffers.
-- Assumes nothing.
use Rattle.std.proofs.Common.{sym}
use Rattle.std.proofs.lemmas.List.{length-take-le}
use Rattle.recording_writer.proofs.Chunks.{words_within, size_within}
use Rattle.record.proofs.record_some.Goals as goal

pub slice_bounds-words-end : goal.slice_bounds-words-end
slice_bounds-words-end c = words_within _ _ _ _ c.words_of-count.ensures.0 c.words_of-count.ensures.1

pub slice_bounds-write_blocks-end : goal.slice_bounds-write_blocks-end
slice_bounds-write_blocks-end c =
    sym (length-take-le _ _ (words_within _ _ _ _ c.words_of-count.ensures.0 c.words_of-count.ensures.1))

pub slice_bounds-out-end : goal.slice_bounds-out-end
slice_bounds-out-end c =
    let done = c.write_blocks-done in
    size_within _ _ _ _ done.result c.size_of-size.result done.ensures.0 done.ensures.1 c.size_of-size.ensures

pub slice_bounds-write_all-end : goal.slice_bounds-write_all-end
slice_bounds-write_all-end c =
    let done = c.write_blocks-done in
    sym (length-take-le _ _ (size_within _ _ _ _ done.result c.size_of-size.result done.ensures.0 done.ensures.1 c.size_of-size.ensures))
