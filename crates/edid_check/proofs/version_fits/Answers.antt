-- `edid_check::version_fits` meets its contract.
-- Assumes nothing.
use mathlib.Core.Path.{refl}
use native.Mathlib.Omega.{arith}
use Rattle.edid_check.specs.Edid.{version_fits}
use Rattle.edid_check.proofs.version_fits.Goals as goal

pub bounds-block-18 : goal.bounds-block-18
unfolding version_fits
bounds-block-18 c = omega arith

pub bounds-block-19 : goal.bounds-block-19
unfolding version_fits
bounds-block-19 c = omega arith

pub bounds-block-19-2 : goal.bounds-block-19-2
unfolding version_fits
bounds-block-19-2 c = omega arith

pub returns : goal.returns
unfolding version_fits
returns c = refl
