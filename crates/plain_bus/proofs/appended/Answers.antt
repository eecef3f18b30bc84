-- `plain_bus::appended` meets its contract.
-- Assumes nothing.
use native.Mathlib.Omega.{arith}
use Rattle.plain_bus.proofs.appended.Goals as goal

pub returns-then-level : goal.returns-then-level
returns-then-level c = rw c.if-level.true (omega arith)

pub returns-else-level : goal.returns-else-level
returns-else-level c = rw c.if-level.false (omega arith)
