-- `firmware_steps::register_read` meets its contract.
-- Assumes nothing.
use borrow.Author.Tests.{eq-eqb, ne_eqb}
use Rattle.firmware_steps.proofs.register_read.Goals as goal

pub returns-then-r-eq0 : goal.returns-then-r-eq0
returns-then-r-eq0 c = simp (eq-eqb _ _ c.if-r-eq0.true)

pub returns-else-r-eq0 : goal.returns-else-r-eq0
returns-else-r-eq0 c = simp (ne_eqb _ _ c.if-r-eq0.false)
