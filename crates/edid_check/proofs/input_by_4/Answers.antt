-- `edid_check::input_by_4` meets its contract.
-- Assumes nothing.
use borrow.Author.Rules.{rules}
use Rattle.edid_check.specs.Edid.{input_by4}
use Rattle.edid_check.proofs.input_by_4.Goals as goal

pub depth_fits-requires : goal.depth_fits-requires
unfolding input_by4
depth_fits-requires c = search rules

pub interface_fits-requires : goal.interface_fits-requires
unfolding input_by4
interface_fits-requires c = search rules

pub returns-then-interface_fits : goal.returns-then-interface_fits
unfolding input_by4
returns-then-interface_fits c = simp (← c.interface_fits.ensures, c.if-interface_fits.true, ← c.depth_fits.ensures, c.if-depth_fits.true)

pub returns-else-interface_fits : goal.returns-else-interface_fits
unfolding input_by4
returns-else-interface_fits c = simp (← c.interface_fits.ensures, c.if-interface_fits.false, ← c.depth_fits.ensures, c.if-depth_fits.true)

pub returns-else-depth_fits : goal.returns-else-depth_fits
unfolding input_by4
returns-else-depth_fits c = simp (← c.depth_fits.ensures, c.if-depth_fits.false)
