-- `edid_check::check` meets its contract.
-- Assumes nothing.
use borrow.Author.Rules.{rules}
use borrow.Author.Tests.{eq-eqb, ne_eqb}
use Rattle.edid_check.specs.Edid.{verdict}
use Rattle.edid_check.proofs.Exactly.{judged}
use Rattle.edid_check.proofs.check.Goals as goal

pub header_fits-requires : goal.header_fits-requires
unfolding verdict
header_fits-requires c = search rules

pub contents-requires : goal.contents-requires
unfolding verdict
contents-requires c = search rules

pub returns-then-header_fits : goal.returns-then-header_fits
unfolding verdict
returns-then-header_fits c = judged _ _ (simp (c.contents.ensures, ← c.header_fits.ensures, c.if-header_fits.true, eq-eqb _ _ c.if-block-eq128.true))

pub returns-else-header_fits : goal.returns-else-header_fits
unfolding verdict
returns-else-header_fits c = judged _ _ (simp (← c.header_fits.ensures, c.if-header_fits.false, eq-eqb _ _ c.if-block-eq128.true))

pub returns-else-block-eq128 : goal.returns-else-block-eq128
unfolding verdict
returns-else-block-eq128 c = judged _ _ (simp (ne_eqb _ _ c.if-block-eq128.false))
