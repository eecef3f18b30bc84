-- `wave_write::level_line` meets its contract.
-- Assumes nothing.
use Rattle.wave_write.proofs.Laws.{wrote_none, level_text, no_level_text}
use Rattle.wave_write.proofs.level_line.Goals as goal

pub returns-then-old-new : goal.returns-then-old-new
returns-then-old-new c = rw (no_level_text c.args.k _ _ c.if-old-new.true) (wrote_none _ _)

pub returns : goal.returns
returns c = rw (level_text c.args.k _ _ c.if-old-new.false) c.change.ensures
