-- `edid_check::depth_fits` meets its contract.
-- Assumes nothing.
use borrow.Author.Rules.{rules}
use Rattle.edid_check.specs.Edid.{depth_fits}
use Rattle.edid_check.proofs.depth_fits.Goals as goal

pub bit-requires : goal.bit-requires
unfolding depth_fits
bit-requires c = search rules

pub returns-then-bit : goal.returns-then-bit
unfolding depth_fits
returns-then-bit c = simp (← c.bit.ensures, c.if-bit.true)

pub returns-else-bit : goal.returns-else-bit
unfolding depth_fits
returns-else-bit c = simp (← c.bit.ensures, c.if-bit.false)
