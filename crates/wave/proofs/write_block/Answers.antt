-- What `wave::write_block` writes is within its buffer.
-- Assumes nothing.
use Rattle.std.proofs.Common.{sym}
use Rattle.std.proofs.lemmas.List.{length-take-le}
use Rattle.wave_run.proofs.Blocks.{block_within, ends_within}
use Rattle.wave.proofs.write_block.Goals as goal

pub slice_bounds-write-end : goal.slice_bounds-write-end
slice_bounds-write-end g c = ends_within (block_within _ _ _) c.write_block-done.ensures.0

pub slice_bounds-write-end-2 : goal.slice_bounds-write-end-2
slice_bounds-write-end-2 g c = sym (length-take-le _ _ (ends_within (block_within _ _ _) c.write_block-done.ensures.0))
