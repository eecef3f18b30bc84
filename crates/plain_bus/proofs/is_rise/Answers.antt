-- `plain_bus::is_rise` meets its contract.
-- Assumes nothing.
use borrow.Author.Rules.{rules}
use borrow.Author.Tests.{eq-eqb, ne_eqb}
use Rattle.plain_bus.specs.Plain.{rise_at}
use Rattle.plain_bus.proofs.is_rise.Goals as goal

pub level_before-requires : goal.level_before-requires
unfolding rise_at
level_before-requires c = search rules

pub returns-then-change-eq1 : goal.returns-then-change-eq1
unfolding rise_at
returns-then-change-eq1 c = simp (c.level_before.ensures, eq-eqb _ _ c.if-change-eq1.true, eq-eqb _ _ c.if-change-eq-SCL.true)

pub returns-else-change-eq1 : goal.returns-else-change-eq1
unfolding rise_at
returns-else-change-eq1 c = simp (ne_eqb _ _ c.if-change-eq1.false, eq-eqb _ _ c.if-change-eq-SCL.true)

pub returns-else-change-eq-SCL : goal.returns-else-change-eq-SCL
unfolding rise_at
returns-else-change-eq-SCL c = simp (ne_eqb _ _ c.if-change-eq-SCL.false)
