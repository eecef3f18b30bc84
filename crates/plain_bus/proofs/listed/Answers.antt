-- `plain_bus::listed` meets its contract.
-- Assumes nothing.
use mathlib.Core.Path.{refl}
use borrow.Author.Tests.{lt-ltb, le-ltb}
use Rattle.plain_bus.proofs.listed.Goals as goal

pub returns-then-places-n : goal.returns-then-places-n
returns-then-places-n c = rw (lt-ltb _ _ (rw c.count-n.ensures at c.if-places-n.true)) (refl, refl)

pub returns : goal.returns
returns c = rw (c.count-n.ensures, le-ltb _ _ (rw c.count-n.ensures at c.if-places-n.false)) (refl, c.list.ensures)
