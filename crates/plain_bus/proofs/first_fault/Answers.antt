-- `plain_bus::first_fault` meets its contract. The loop's invariant: the changes passed have none.
-- Assumes nothing.
use mathlib.Core.Path.{refl, sym, ◌∙◌}
use Rattle.plain_bus.proofs.Levels.{fault_more, fault_none}
use Rattle.plain_bus.proofs.first_fault.Goals as goal

pub loop-change-init : goal.loop-change-init
loop-change-init c = refl

pub loop-change-preserved : goal.loop-change-preserved
loop-change-preserved c = c.loop-change.invariant ∙ fault_more _ c.loop-change.change-index _ c.loop-change-test.true (sym c.fault_of.ensures ∙ c.in_default.is)

pub returns-in-Some : goal.returns-in-Some
returns-in-Some c = sym (c.loop-change.invariant ∙ fault_more _ c.loop-change.change-index _ c.loop-change-test.true (sym c.in-Some.ensures))

pub returns : goal.returns
returns c = sym (c.loop-change.invariant ∙ fault_none _ c.loop-change.change-index c.loop-change-test.false)
