-- `registers::updated` meets its contract.
-- Assumes nothing.
use Rattle.registers.proofs.updated.Goals as goal

pub returns : goal.returns
returns c = simp (c.merge.ensures, c.write_mask.ensures)
