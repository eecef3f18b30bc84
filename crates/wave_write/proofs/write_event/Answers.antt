-- `wave_write::write_event` meets its contract.
-- Assumes nothing.
use mathlib.Core.Path.{sym, ◌∙◌}
use Rattle.wave_write.proofs.Laws.{wrote_none, fits_room, event_room_lem, event_none, moved_room, moved_none}
use Rattle.wave_write.proofs.write_event.Goals as goal

pub event_lines-next-requires : goal.event_lines-next-requires
event_lines-next-requires c = fits_room _ _ 151 (sym c.fits.ensures ∙ c.if-fits.true)

pub returns-then-fits : goal.returns-then-fits
returns-then-fits c =
    let e = sym c.fits.ensures ∙ c.if-fits.true in
    (rw (event_room_lem _ _ c.args.w _ _ e) c.event_lines-next.ensures, c.moves.ensures ∙ sym (moved_room _ _ c.args.w _ _ e))

pub returns : goal.returns
returns c =
    let e = sym c.fits.ensures ∙ c.if-fits.false in
    (rw (event_none _ _ c.args.w _ _ e) (wrote_none _ _), sym (moved_none _ _ c.args.w c.args.word c.args.watch e))
