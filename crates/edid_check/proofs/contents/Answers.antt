-- `edid_check::contents` meets its contract.
-- Assumes nothing.
use native.Mathlib.Omega.{arith}
use borrow.Author.Rules.{rules}
use Rattle.edid_check.specs.Edid.{contents}
use Rattle.edid_check.proofs.contents.Goals as goal

pub version_fits-requires : goal.version_fits-requires
unfolding contents
version_fits-requires c = search rules

pub sum_fits-requires : goal.sum_fits-requires
unfolding contents
sum_fits-requires c = search rules

pub bounds-block-19 : goal.bounds-block-19
unfolding contents
bounds-block-19 c = omega arith

pub bounds-block-20 : goal.bounds-block-20
unfolding contents
bounds-block-20 c = omega arith

pub input_verdict-requires : goal.input_verdict-requires
unfolding contents
input_verdict-requires c = search rules

pub returns-then-sum_fits : goal.returns-then-sum_fits
unfolding contents
returns-then-sum_fits c = simp (c.input_verdict.ensures, ← c.sum_fits.ensures, c.if-sum_fits.true, ← c.version_fits.ensures, c.if-version_fits.true)

pub returns-else-sum_fits : goal.returns-else-sum_fits
unfolding contents
returns-else-sum_fits c = simp (← c.sum_fits.ensures, c.if-sum_fits.false, ← c.version_fits.ensures, c.if-version_fits.true)

pub returns-else-version_fits : goal.returns-else-version_fits
unfolding contents
returns-else-version_fits c = simp (← c.version_fits.ensures, c.if-version_fits.false)
