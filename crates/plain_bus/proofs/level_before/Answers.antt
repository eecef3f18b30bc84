-- `plain_bus::level_before` meets its contract. The loop's invariant: the changes passed are not of the line.
-- Assumes nothing.
use mathlib.Core.Path.{refl, ◌∙◌}
use native.Mathlib.Omega.{arith}
use Rattle.plain_bus.proofs.Levels.{level_first, level_found, level_earlier}
use Rattle.plain_bus.proofs.level_before.Goals as goal

pub loop-i-init : goal.loop-i-init
loop-i-init c = refl

pub returns-then-changes-i : goal.returns-then-changes-i
returns-then-changes-i c = level_found _ _ c.loop-i.i _ (omega arith) c.if-changes-i.true ∙ c.loop-i.invariant

pub loop-i-preserved : goal.loop-i-preserved
loop-i-preserved c = level_earlier _ _ c.loop-i.i _ (omega arith) c.if-changes-i.false ∙ c.loop-i.invariant

pub returns : goal.returns
returns c = level_first _ _ c.loop-i.i (omega arith) ∙ c.loop-i.invariant
