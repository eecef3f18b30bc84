-- `edid_check::interface_fits` meets its contract.
-- Assumes nothing.
use borrow.Author.Rules.{rules}
use Rattle.edid_check.specs.Edid.{interface_fits}
use Rattle.edid_check.proofs.interface_fits.Goals as goal

pub bit-requires : goal.bit-requires
unfolding interface_fits
bit-requires c = search rules

pub returns-then-bit : goal.returns-then-bit
unfolding interface_fits
returns-then-bit c = simp (← c.bit.ensures, c.if-bit.true)

pub returns-else-bit : goal.returns-else-bit
unfolding interface_fits
returns-else-bit c = simp (← c.bit.ensures, c.if-bit.false)
