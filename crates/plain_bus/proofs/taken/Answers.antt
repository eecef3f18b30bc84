-- `plain_bus::taken` meets its contract.
-- Assumes nothing.
use borrow.Author.Rules.{rules}
use Rattle.plain_bus.specs.Reading.{taken_at}
use Rattle.plain_bus.proofs.taken.Goals as goal

pub is_rise-requires : goal.is_rise-requires
unfolding taken_at
is_rise-requires c = search rules

pub level_before-requires : goal.level_before-requires
unfolding taken_at
level_before-requires c = search rules

pub risen-requires : goal.risen-requires
unfolding taken_at
risen-requires c = search rules

pub returns-then-is_rise : goal.returns-then-is_rise
unfolding taken_at
returns-then-is_rise c = simp (c.risen.ensures, c.level_before.ensures, ← c.is_rise.ensures, c.if-is_rise.true)

pub returns : goal.returns
unfolding taken_at
returns c = simp (← c.is_rise.ensures, c.if-is_rise.false)
