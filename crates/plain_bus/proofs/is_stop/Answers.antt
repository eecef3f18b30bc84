-- `plain_bus::is_stop` meets its contract.
-- Assumes nothing.
use borrow.Author.Rules.{rules}
use borrow.Author.Tests.{eq-eqb, ne_eqb}
use Rattle.plain_bus.specs.Plain.{stop_at}
use Rattle.plain_bus.proofs.is_stop.Goals as goal

pub level_before-requires : goal.level_before-requires
unfolding stop_at
level_before-requires c = search rules

pub level_before-requires-then-level_before : goal.level_before-requires-then-level_before
unfolding stop_at
level_before-requires-then-level_before c = search rules

pub returns-then-level_before : goal.returns-then-level_before
unfolding stop_at
returns-then-level_before c = simp (c.level_before-then-level_before.ensures, ← c.level_before.ensures, c.if-level_before.true, eq-eqb _ _ c.if-change-eq1.true, eq-eqb _ _ c.if-change-eq-SDA.true)

pub returns-else-level_before : goal.returns-else-level_before
unfolding stop_at
returns-else-level_before c = simp (← c.level_before.ensures, c.if-level_before.false, eq-eqb _ _ c.if-change-eq1.true, eq-eqb _ _ c.if-change-eq-SDA.true)

pub returns-else-change-eq1 : goal.returns-else-change-eq1
unfolding stop_at
returns-else-change-eq1 c = simp (ne_eqb _ _ c.if-change-eq1.false, eq-eqb _ _ c.if-change-eq-SDA.true)

pub returns-else-change-eq-SDA : goal.returns-else-change-eq-SDA
unfolding stop_at
returns-else-change-eq-SDA c = simp (ne_eqb _ _ c.if-change-eq-SDA.false)
