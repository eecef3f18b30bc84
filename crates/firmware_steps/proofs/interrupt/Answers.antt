-- `firmware_steps::interrupt` meets its contract.
-- Assumes nothing.
use mathlib.Core.Path.{sym, ◌∙◌}
use Rattle.firmware_steps.proofs.Before.{enters, leaves}
use Rattle.firmware_steps.proofs.interrupt.Goals as goal

pub returns-then-is_due : goal.returns-then-is_due
returns-then-is_due c = enters _ _ _ _ (sym c.is_due.ensures ∙ c.if-is_due.true)
    _ c.interrupt-effect.ensures _ c.set_over.ensures _ c.clocked_after.ensures
    _ c.push.ensures _ c.below.ensures _ c.push-then-is_due.ensures
    _ c.below-then-is_due.ensures _ c.below-then-is_due-2.ensures _ c.pushed_p.ensures _ c.push-then-is_due-2.ensures

pub returns-else-is_due : goal.returns-else-is_due
returns-else-is_due c = leaves _ _ _ _ (sym c.is_due.ensures ∙ c.if-is_due.false)
