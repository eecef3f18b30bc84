-- `wave_write::pin_line` meets its contract.
-- Assumes nothing.
use mathlib.Core.Path.{sym, ◌∙◌}
use Rattle.wave_write.proofs.Laws.{wrote_none, pin_text, no_pin_text}
use Rattle.wave_write.proofs.pin_line.Goals as goal

pub pin_code-requires : goal.pin_code-requires
pin_code-requires c = cc

pub returns-then-is_pin : goal.returns-then-is_pin
returns-then-is_pin c = rw (pin_text _ (sym c.is_pin.ensures ∙ c.if-is_pin.true), ← c.pin_code.ensures) c.change.ensures

pub returns : goal.returns
returns c = rw (no_pin_text _ (sym c.is_pin.ensures ∙ c.if-is_pin.false)) (wrote_none _ _)
