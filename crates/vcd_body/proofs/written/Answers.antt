-- `vcd_body::written` meets its contract.
-- Assumes nothing.
use Rattle.vcd_body.specs.Pieces.{turn_by}
use Rattle.vcd_body.proofs.written.Goals as goal

pub returns-then-put : goal.returns-then-put
unfolding turn_by
returns-then-put c = simp c.if-put.true

pub returns-else-put : goal.returns-else-put
unfolding turn_by
returns-else-put c = simp c.if-put.false
