-- `wave_write::finish` meets its contract.
-- Assumes nothing.
use mathlib.Core.Path.{sym, ◌∙◌}
use Rattle.wave_write.proofs.Laws.{wrote_none, fits_room, end_room_lem, end_none}
use Rattle.wave_write.proofs.finish.Goals as goal

pub time_line-requires : goal.time_line-requires
time_line-requires c = fits_room _ _ 22 (sym c.fits.ensures ∙ c.if-fits.true)

pub returns-then-fits : goal.returns-then-fits
returns-then-fits c = rw (end_room_lem _ _ _ (sym c.fits.ensures ∙ c.if-fits.true), ← c.time_of.ensures) c.time_line.ensures

pub returns : goal.returns
returns c = rw (end_none _ _ _ (sym c.fits.ensures ∙ c.if-fits.false)) (wrote_none _ _)
