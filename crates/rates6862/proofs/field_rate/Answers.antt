-- `rates6862::field_rate` meets its contract.
-- Assumes nothing.
use Rattle.rates6862.specs.Report.{field_report}
use Rattle.rates.specs.Report.{rate_number}
use Rattle.rates6862.proofs.Cases.{field_says}
use Rattle.rates6862.proofs.field_rate.Goals as goal

pub well_formed-requires : goal.well_formed-requires
unfolding field_report rate_number
well_formed-requires c = tt

pub by_periods-requires : goal.by_periods-requires
unfolding field_report rate_number
by_periods-requires c = tt

pub returns-then-well_formed : goal.returns-then-well_formed
unfolding field_report rate_number
returns-then-well_formed c = field_says _ _ (simp (c.by_periods.ensures.0, ← c.well_formed-2.ensures, c.if-well_formed.true)) (simp (c.by_periods.ensures.1.number, ← c.well_formed-2.ensures, c.if-well_formed.true))

pub returns-else-well_formed : goal.returns-else-well_formed
unfolding field_report rate_number
returns-else-well_formed c = field_says _ _ (simp (← c.well_formed-2.ensures, c.if-well_formed.false)) (simp (← c.well_formed-2.ensures, c.if-well_formed.false))
