-- `wave_write::event_lines` meets its contract.
-- Assumes nothing.
use mathlib.Core.Path.{sym, ◌∙◌}
use Rattle.wave_write.proofs.Laws.{wrote_none, event_pin, event_quiet, event_watch}
use Rattle.wave_write.proofs.event_lines.Goals as goal

pub returns-then-is_pin : goal.returns-then-is_pin
returns-then-is_pin c = rw (event_pin c.args.w _ _ (sym c.is_pin.ensures ∙ c.if-is_pin.true), ← c.moves.ensures, ← c.time_of-t.ensures) c.changes.ensures

pub returns-then-same_watch : goal.returns-then-same_watch
returns-then-same_watch c = rw (event_quiet c.args.w _ _ (sym c.is_pin.ensures ∙ c.if-is_pin.false) (sym c.same_watch.ensures ∙ c.if-same_watch.true)) (wrote_none _ _)

pub returns : goal.returns
returns c = rw (event_watch c.args.w _ _ (sym c.is_pin.ensures ∙ c.if-is_pin.false) (sym c.same_watch.ensures ∙ c.if-same_watch.false), ← c.moves.ensures, ← c.time_of-t.ensures) c.changes-2.ensures
