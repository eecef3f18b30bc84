-- `plain_bus::put` meets its contract.
-- Assumes nothing.
use native.Mathlib.Omega.{arith}
use borrow.Author.Tests.{lt-ltb, le-ltb}
use Rattle.plain_bus.proofs.put.Goals as goal

pub bounds-places-n : goal.bounds-places-n
bounds-places-n c = omega (arith, rw (lt-ltb 7 _ c.if-t-gt7.true) at c.requires)

pub returns-then-t-gt7 : goal.returns-then-t-gt7
returns-then-t-gt7 c = simp (c.word.ensures, lt-ltb _ _ c.if-t-gt7.true)

pub returns-else-t-gt7 : goal.returns-else-t-gt7
returns-else-t-gt7 c = simp (le-ltb _ _ c.if-t-gt7.false)
