-- `firmware_steps::give` meets its contract.
-- Assumes nothing.
use mathlib.Core.Path.{refl}
use mathlib.Core.Bool.{true, false}
use Rattle.firmware_steps.proofs.Events.{gives}
use Rattle.firmware_steps.proofs.give.Goals as goal

pub returns-then-was_reset : goal.returns-then-was_reset
returns-then-was_reset c = gives true _ _ _ _ _ c.decode-event.ensures.0 _ c.was_reset.ensures c.if-was_reset.true _ c.reset.ensures _ c.advance-stepped.ensures

pub returns-else-was_reset : goal.returns-else-was_reset
returns-else-was_reset c = gives false _ _ _ _ _ c.decode-event.ensures.0 _ c.was_reset.ensures c.if-was_reset.false _ refl _ c.advance-stepped.ensures
