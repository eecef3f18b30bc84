-- `rates::field_rate` meets its contract.
use borrow.Author.Rules.{rules}
use Rattle.rates.specs.Report.{field_report, rate_number}
use Rattle.rates.proofs.Cases.{field_says}
use Rattle.rates.proofs.field_rate.Goals as goal

pub well_sync-requires : goal.well_sync-requires
unfolding field_report rate_number
well_sync-requires c = search rules

pub by_periods-requires : goal.by_periods-requires
unfolding field_report rate_number
by_periods-requires c = search rules

pub returns-then-well_sync : goal.returns-then-well_sync
unfolding field_report rate_number
returns-then-well_sync c = field_says _ _ (simp (c.by_periods.ensures.0, ← c.well_sync.ensures, c.if-well_sync.true)) (simp (c.by_periods.ensures.1.number, ← c.well_sync.ensures, c.if-well_sync.true))

pub returns-else-well_sync : goal.returns-else-well_sync
unfolding field_report rate_number
returns-else-well_sync c = field_says _ _ (simp (← c.well_sync.ensures, c.if-well_sync.false)) (simp (← c.well_sync.ensures, c.if-well_sync.false))
