-- `plain_bus::risen` meets its contract.
-- Assumes nothing.
use borrow.Author.Rules.{rules}
use borrow.Author.Tests.{lt-ltb, le-ltb}
use Rattle.plain_bus.specs.Reading.{risen_of}
use Rattle.plain_bus.proofs.risen.Goals as goal

pub appended-requires : goal.appended-requires
unfolding risen_of
appended-requires c = search rules

pub returns-then-rises-lt8 : goal.returns-then-rises-lt8
unfolding risen_of
returns-then-rises-lt8 c = simp (c.appended.ensures, lt-ltb _ _ c.if-rises-lt8.true)

pub returns-else-rises-lt8 : goal.returns-else-rises-lt8
unfolding risen_of
returns-else-rises-lt8 c = simp (le-ltb _ _ c.if-rises-lt8.false)
