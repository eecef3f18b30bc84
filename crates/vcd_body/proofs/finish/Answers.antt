-- `vcd_body::finish` meets its contract.
-- Assumes nothing.
use Rattle.vcd_body.proofs.finish.Goals as goal

pub returns : goal.returns
returns c = simp (c.close.ensures, c.ended-e.ensures)
