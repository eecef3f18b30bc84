-- `edid_check::header_fits` meets its contract.
-- Assumes nothing.
use mathlib.Core.Path.{refl}
use native.Mathlib.Omega.{arith}
use Rattle.edid_check.specs.Block.{header_fits}
use Rattle.edid_check.proofs.header_fits.Goals as goal

pub bounds-block-0 : goal.bounds-block-0
unfolding header_fits
bounds-block-0 c = omega arith

pub bounds-block-1 : goal.bounds-block-1
unfolding header_fits
bounds-block-1 c = omega arith

pub bounds-block-2 : goal.bounds-block-2
unfolding header_fits
bounds-block-2 c = omega arith

pub bounds-block-3 : goal.bounds-block-3
unfolding header_fits
bounds-block-3 c = omega arith

pub bounds-block-4 : goal.bounds-block-4
unfolding header_fits
bounds-block-4 c = omega arith

pub bounds-block-5 : goal.bounds-block-5
unfolding header_fits
bounds-block-5 c = omega arith

pub bounds-block-6 : goal.bounds-block-6
unfolding header_fits
bounds-block-6 c = omega arith

pub bounds-block-7 : goal.bounds-block-7
unfolding header_fits
bounds-block-7 c = omega arith

pub returns : goal.returns
unfolding header_fits
returns c = refl
