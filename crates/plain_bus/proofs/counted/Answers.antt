-- `plain_bus::counted` meets its contract.
-- Assumes nothing.
use native.Mathlib.Omega.{arith}
use borrow.Author.Tests.{lt-ltb, le-ltb}
use Rattle.plain_bus.proofs.counted.Goals as goal

pub returns-then-t-gt7 : goal.returns-then-t-gt7
returns-then-t-gt7 c = rw (lt-ltb _ _ c.if-t-gt7.true) (omega arith)

pub returns-else-t-gt7 : goal.returns-else-t-gt7
returns-else-t-gt7 c = rw (le-ltb _ _ c.if-t-gt7.false) (omega arith)
