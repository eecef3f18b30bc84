-- `chip_rate_report::rate` meets its contract.
use mathlib.Core.Path.{refl, sym, ◌∙◌}
use borrow.Author.Rules.{rules}
use Rattle.rates.specs.Report.{rate_number}
use Rattle.chip_rate_report.specs.Report.{scan_report, rate_report}
use Rattle.chip_rate_report.proofs.Cases.{in_range, rate_says}
use Rattle.chip_rate_report.proofs.rate.Goals as goal

pub well_formed-requires : goal.well_formed-requires
unfolding rate_report scan_report rate_number
well_formed-requires c = search rules

pub field_rate-requires : goal.field_rate-requires
unfolding rate_report scan_report rate_number
field_rate-requires c = search rules

pub hsel-hsel-requires : goal.hsel-hsel-requires
unfolding rate_report scan_report rate_number
hsel-hsel-requires c = search rules

pub line_rate-requires : goal.line_rate-requires
unfolding rate_report scan_report rate_number
line_rate-requires c = search rules

pub returns-in-Field : goal.returns-in-Field
unfolding rate_report scan_report rate_number
returns-in-Field c =
    let formed = sym c.well_formed-2.ensures ∙ c.if-well_formed.true in
    rate_says _ _ _ (simp (c.field_rate.ensures.0, c.in-Field.is, formed)) (simp (c.field_rate.ensures.1.number, in_range _ _ refl formed, formed))

pub returns-in-Line : goal.returns-in-Line
unfolding rate_report scan_report rate_number
returns-in-Line c =
    let formed = sym c.well_formed-2.ensures ∙ c.if-well_formed.true in
    rate_says _ _ _ (simp (c.line_rate.ensures.0, c.hsel-hsel.ensures, c.in-Line.is, formed)) (simp (c.line_rate.ensures.1.number, in_range _ _ refl formed, formed))

pub returns-else-well_formed : goal.returns-else-well_formed
unfolding rate_report scan_report rate_number
returns-else-well_formed c =
    let formed = sym c.well_formed-2.ensures ∙ c.if-well_formed.false in
    rate_says _ _ _ (simp formed) (simp formed)
