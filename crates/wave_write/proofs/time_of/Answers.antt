-- `wave_write::time_of` meets its contract.
-- Assumes nothing.
use Rattle.wave_write.specs.Lines.{time_of}
use Rattle.wave_write.proofs.time_of.Goals as goal

pub returns : goal.returns
unfolding time_of
returns c = simp (c.at_most-2.ensures.0, c.at_most.ensures.0)
