-- `wave_write::vector_line` meets its contract.
-- Assumes nothing.
use Rattle.wave_write.proofs.Laws.{wrote_none, vector_one, no_vector_text}
use Rattle.wave_write.proofs.vector_line.Goals as goal

pub returns-then-old-new : goal.returns-then-old-new
returns-then-old-new c = rw (no_vector_text c.args.k _ _ c.if-old-new.true) (wrote_none _ _)

pub returns : goal.returns
returns c = rw (vector_one c.args.k _ _ c.if-old-new.false, ← c.lowest.ensures) c.vector_text.ensures
