-- `vcd::refused` meets its contract.
-- Assumes nothing.
use Rattle.vcd.proofs.refused.Goals as goal

pub returns : goal.returns
returns c = simp c.start.ensures
