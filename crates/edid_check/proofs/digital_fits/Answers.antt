-- `edid_check::digital_fits` meets its contract.
-- Assumes nothing.
use borrow.Author.Rules.{rules}
use Rattle.edid_check.specs.Edid.{digital_fits}
use Rattle.edid_check.proofs.digital_fits.Goals as goal

pub bit-requires : goal.bit-requires
unfolding digital_fits
bit-requires c = search rules

pub returns-then-bit : goal.returns-then-bit
unfolding digital_fits
returns-then-bit c = simp (← c.bit.ensures, c.if-bit.true)

pub returns-else-bit : goal.returns-else-bit
unfolding digital_fits
returns-else-bit c = simp (← c.bit.ensures, c.if-bit.false)
