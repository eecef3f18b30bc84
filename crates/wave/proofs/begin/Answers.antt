-- What `wave::begin` writes is within its buffer.
-- Assumes nothing.
use Rattle.std.proofs.Common.{sym}
use Rattle.std.proofs.lemmas.List.{length-take-le}
use Rattle.wave_write.proofs.Laws.{begin_within}
use Rattle.wave_run.proofs.Blocks.{ends_within}
use Rattle.wave.proofs.begin.Goals as goal

pub slice_bounds-write-end : goal.slice_bounds-write-end
slice_bounds-write-end g c = ends_within (begin_within _ _ _) c.begin-end.ensures

pub slice_bounds-write-end-2 : goal.slice_bounds-write-end-2
slice_bounds-write-end-2 g c = sym (length-take-le _ _ (ends_within (begin_within _ _ _) c.begin-end.ensures))
