-- The rate report of a chip (document 01, "Counting sync"): which case is told, and what each case says.
use Rattle.std.specs.Prelude.{ℕ, ◌≡◌, true, false, Result, Ok, Err}
use Rattle.bits.specs.Byte.{pick}
use Rattle.rates.specs.declared.NoRate.{NoRate}
use Rattle.rates.specs.declared.NoRate.TheVariants.{IllFormed, NothingLatched, Overflow}
use Rattle.rates.specs.declared.Rate.{Rate}
use Rattle.rates.specs.declared.Rate.TheVariants.{FieldRate, LineRate}
use Rattle.rates.specs.Report.{rate_number, field_report, line_report, FieldValues, LineValues}
use Rattle.chip.specs.declared.Chip.{Chip}
use Rattle.chip.specs.State.{hsel_of}
use Rattle.chip_well_formed.specs.WellFormed.{well_formed}
use Rattle.chip_rate_report.specs.declared.Scan.{Scan}
use Rattle.chip_rate_report.specs.declared.Scan.TheVariants.{Field, Line}

-- the report on a well formed chip: on the field, or on the line at the chip's HSEL
unfoldable pub scan_report : Chip → Scan → Result Rate NoRate
scan_report c Field = field_report c.core.sync
scan_report c Line = line_report c.core.sync (hsel_of c.core)

-- an ill formed state is told before all else
unfoldable pub rate_report : Chip → Scan → Result Rate NoRate
rate_report c scan = pick (well_formed c) (scan_report c scan) (Err IllFormed)

-- what a case says of the latches and overflow bits that the rate needs
unfoldable pub ScanValues : Chip → Scan → Result Rate NoRate → Type 0
ScanValues c Field r = FieldValues c.core.sync r
ScanValues c Line r = LineValues c.core.sync (hsel_of c.core) r

-- what a case says of the chip: that it is ill formed, or that it is not, and what the case says of that rate
unfoldable pub RateValues : Chip → Scan → Result Rate NoRate → Type 0
RateValues c scan (Err IllFormed) = well_formed c ≡ false
RateValues c scan (Err NothingLatched) = (well_formed c ≡ true) × ScanValues c scan (Err NothingLatched)
RateValues c scan (Err Overflow) = (well_formed c ≡ true) × ScanValues c scan (Err Overflow)
RateValues c scan (Ok (FieldRate x)) = (well_formed c ≡ true) × ScanValues c scan (Ok (FieldRate x))
RateValues c scan (Ok (LineRate x)) = (well_formed c ≡ true) × ScanValues c scan (Ok (LineRate x))

-- the number of a report: 8 where the chip is ill formed, and no other
abbrev pub number_at : Chip → ℕ
number_at c = pick (well_formed c) 0 8

-- the number and the values of a case
pub record RateCase (c : Chip) (scan : Scan) (r : Result Rate NoRate) : Type 0 where
  pub number : rate_number r ≡ number_at c
  pub values : RateValues c scan r
