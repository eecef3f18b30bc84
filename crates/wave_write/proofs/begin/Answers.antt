-- `wave_write::begin` meets its contract.
-- Assumes nothing.
use mathlib.Core.Path.{sym, ◌∙◌}
use native.Mathlib.Omega.{arith}
use Rattle.wave_write.proofs.Laws.{wrote_none, fits_room, begin_room_lem, begin_none}
use Rattle.wave_write.proofs.begin.Goals as goal

pub begin_all-requires : goal.begin_all-requires
begin_all-requires c = omega (arith, fits_room _ 0 753 (sym c.fits.ensures ∙ c.if-fits.true))

pub returns-then-fits : goal.returns-then-fits
returns-then-fits c = rw (begin_room_lem _ _ _ (sym c.fits.ensures ∙ c.if-fits.true)) c.begin_all.ensures

pub returns : goal.returns
returns c = rw (begin_none _ _ _ (sym c.fits.ensures ∙ c.if-fits.false)) (wrote_none _ _)
