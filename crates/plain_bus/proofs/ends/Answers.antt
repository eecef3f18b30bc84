-- `plain_bus::ends` meets its contract.
-- Assumes nothing.
use borrow.Author.Rules.{rules}
use borrow.Author.Tests.{eq-eqb, ne_eqb}
use Rattle.plain_bus.specs.Reading.{ends_by}
use Rattle.plain_bus.proofs.ends.Goals as goal

pub compared-requires : goal.compared-requires
unfolding ends_by
compared-requires c = search rules

pub is_own-requires : goal.is_own-requires
unfolding ends_by
is_own-requires c = search rules

pub returns-then-t-eq9 : goal.returns-then-t-eq9
unfolding ends_by
returns-then-t-eq9 c = simp (c.is_own.ensures, c.compared.ensures, eq-eqb _ _ c.if-t-eq9.true)

pub returns : goal.returns
unfolding ends_by
returns c = simp (ne_eqb _ _ c.if-t-eq9.false)
