-- `rates::line_rate` meets its contract.
use borrow.Author.Rules.{rules}
use mathlib.Core.Path.{sym, ◌∙◌}
use Rattle.sync.proofs.WellFormed.{fits}
use Rattle.rates.specs.Report.{line_report, rate_number}
use Rattle.rates.proofs.Cases.{line_says}
use Rattle.rates.proofs.line_rate.Goals as goal

pub well_sync-requires : goal.well_sync-requires
unfolding line_report rate_number
well_sync-requires c = search rules

pub by_field-requires : goal.by_field-requires
unfolding line_report rate_number
by_field-requires c =
    let h = fits _ (sym c.well_sync.ensures ∙ c.if-well_sync.true) in
    (h.lines.latch, h.periods.latch)

pub by_interval-requires : goal.by_interval-requires
unfolding line_report rate_number
by_interval-requires c = (fits _ (sym c.well_sync.ensures ∙ c.if-well_sync.true)).lines.latch

pub returns-then-hsel : goal.returns-then-hsel
unfolding line_report rate_number
returns-then-hsel c = line_says _ _ _ (simp (c.by_field.ensures.0, c.if-hsel.true, ← c.well_sync.ensures, c.if-well_sync.true)) (simp (c.by_field.ensures.1, ← c.well_sync.ensures, c.if-well_sync.true))

pub returns-else-hsel : goal.returns-else-hsel
unfolding line_report rate_number
returns-else-hsel c = line_says _ _ _ (simp (c.by_interval.ensures.0, c.if-hsel.false, ← c.well_sync.ensures, c.if-well_sync.true)) (simp (c.by_interval.ensures.1, ← c.well_sync.ensures, c.if-well_sync.true))

pub returns-else-well_sync : goal.returns-else-well_sync
unfolding line_report rate_number
returns-else-well_sync c = line_says _ _ _ (simp (← c.well_sync.ensures, c.if-well_sync.false)) (simp (← c.well_sync.ensures, c.if-well_sync.false))
