-- `plain_bus::fault_of` meets its contract.
-- Assumes nothing.
use borrow.Author.Rules.{rules}
use borrow.Author.Tests.{eq-eqb, ne_eqb}
use Rattle.plain_bus.specs.Reading.{fault_of}
use Rattle.plain_bus.proofs.fault_of.Goals as goal

pub level_fault-requires : goal.level_fault-requires
unfolding fault_of
level_fault-requires c = search rules

pub returns-then-line-eq-SDA : goal.returns-then-line-eq-SDA
unfolding fault_of
returns-then-line-eq-SDA c = simp (c.level_fault.ensures, eq-eqb _ _ c.if-line-eq-SDA.true)

pub level_fault-requires-then-line-eq-SCL : goal.level_fault-requires-then-line-eq-SCL
unfolding fault_of
level_fault-requires-then-line-eq-SCL c = search rules

pub returns-then-line-eq-SCL : goal.returns-then-line-eq-SCL
unfolding fault_of
returns-then-line-eq-SCL c = simp (c.level_fault-then-line-eq-SCL.ensures, eq-eqb _ _ c.if-line-eq-SCL.true, ne_eqb _ _ c.if-line-eq-SDA.false)

pub returns : goal.returns
unfolding fault_of
returns c = simp (ne_eqb _ _ c.if-line-eq-SCL.false, ne_eqb _ _ c.if-line-eq-SDA.false)
