-- `plain_bus::level_fault` meets its contract.
-- Assumes nothing.
use borrow.Author.Tests.{lt-ltb, le-ltb}
use Rattle.plain_bus.proofs.level_fault.Goals as goal

pub returns-then-change-gt1 : goal.returns-then-change-gt1
returns-then-change-gt1 c = simp (lt-ltb _ _ c.if-change-gt1.true)

pub returns-else-change-gt1 : goal.returns-else-change-gt1
returns-else-change-gt1 c = simp (le-ltb _ _ c.if-change-gt1.false)
