-- `edid_check::input_by_3` meets its contract.
-- Assumes nothing.
use borrow.Author.Rules.{rules}
use Rattle.edid_check.specs.Edid.{input_by3}
use Rattle.edid_check.proofs.input_by_3.Goals as goal

pub digital_fits-requires : goal.digital_fits-requires
unfolding input_by3
digital_fits-requires c = search rules

pub returns-then-digital_fits : goal.returns-then-digital_fits
unfolding input_by3
returns-then-digital_fits c = simp (← c.digital_fits.ensures, c.if-digital_fits.true)

pub returns-else-digital_fits : goal.returns-else-digital_fits
unfolding input_by3
returns-else-digital_fits c = simp (← c.digital_fits.ensures, c.if-digital_fits.false)
