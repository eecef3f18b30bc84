-- Rates computed at latches written by hand: the field, and the line by either setting of HSEL.
use mathlib.Core.Path.{◌≡◌, refl}
use mathlib.Core.Bool.{true, false}
use lib.Ieee.{round}
use Rattle.std.specs.Prelude.{Result, Err}
use Rattle.sync.specs.Sync.{well_sync}
use Rattle.rates.specs.Report.{by_periods, by_interval, by_field, field_report, line_report}
use Rattle.rates.specs.declared.NoRate.{NoRate}
use Rattle.rates.specs.declared.Rate.{Rate}
use Rattle.rates.specs.declared.NoRate.TheVariants.{NothingLatched, Overflow}
use Rattle.chip_cases.specs.Cases.{IsField, IsLine}
use Rattle.chip_rule_cases.specs.Rates.{latches}

-- HSEL 1: 525 lines in 2,000 periods of 8 µs are 32,812.5 Hz
pub line_by_field : IsLine (line_report (latches 525 false 2000 false) true) 65625 2
unfolding line_report by_field well_sync round
line_by_field = (refl, refl)

-- HSEL 0: 525 lines in 8.192 ms are 64,086.9140625 Hz, whatever VCNT
pub line_by_interval : IsLine (line_report (latches 525 false 0 true) false) 8203125 128
unfolding line_report by_interval well_sync round
line_by_interval = (refl, refl)

-- 500 periods of 8 µs are 250 Hz, whatever HCNT
pub field_by_periods : IsField (field_report (latches 0 true 500 false)) 250 1
unfolding field_report by_periods well_sync round
field_by_periods = (refl, refl)

-- overflow before nothing latched, each of a counter that the rate needs
pub no_rate : ◌≡◌ {A = Result Rate NoRate × Result Rate NoRate × Result Rate NoRate × Result Rate NoRate × Result Rate NoRate × Result Rate NoRate} (
  line_report (latches 0 true 2000 false) true,
  line_report (latches 0 false 2000 true) true,
  line_report (latches 525 false 0 false) true,
  line_report (latches 0 true 0 false) false,
  line_report (latches 0 false 0 true) false,
  field_report (latches 525 true 0 false),
)
    (Err Overflow, Err Overflow, Err NothingLatched, Err Overflow, Err NothingLatched, Err NothingLatched)
unfolding line_report field_report by_field by_interval by_periods well_sync
no_rate = refl
