use mathlib.Core.Path.{refl}
use mathlib.Core.Bool.{true, false}
use Rattle.firmware_run.proofs.Parts.{occurs}
use Rattle.firmware_run.proofs.occur.Goals as goal

pub returns-then-reset : goal.returns-then-reset
returns-then-reset c =
    let d = c.advance_core-done.ensures in occurs true _ _ _ _ _ _ _ c.decode-event.ensures.0 _ c.was_reset-reset.ensures c.if-reset.true c.reset.ensures _ d.0 _ d.1 _ _ c.forget_by.ensures

pub returns-else-reset : goal.returns-else-reset
returns-else-reset c =
    let d = c.advance_core-done.ensures in occurs false _ _ _ _ _ _ _ c.decode-event.ensures.0 _ c.was_reset-reset.ensures c.if-reset.false refl _ d.0 _ d.1 _ _ c.forget_by.ensures
