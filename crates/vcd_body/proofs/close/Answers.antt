-- `vcd_body::close` meets its contract.
-- Assumes nothing.
use Rattle.vcd_body.proofs.close.Goals as goal

pub returns : goal.returns
returns c = simp c.start-next.ensures
