-- `plain_bus::transfer_at` meets its contract.
-- Assumes nothing.
use borrow.Author.Rules.{rules}
use Rattle.plain_bus.specs.Reading.{transfer_at}
use Rattle.plain_bus.proofs.transfer_at.Goals as goal

pub is_start-requires : goal.is_start-requires
unfolding transfer_at
is_start-requires c = search rules

pub transfer_since-requires : goal.transfer_since-requires
unfolding transfer_at
transfer_since-requires c = search rules

pub returns-then-is_start : goal.returns-then-is_start
unfolding transfer_at
returns-then-is_start c = simp (c.transfer_since.ensures, ← c.is_start.ensures, c.if-is_start.true)

pub returns : goal.returns
unfolding transfer_at
returns c = simp (← c.is_start.ensures, c.if-is_start.false)
