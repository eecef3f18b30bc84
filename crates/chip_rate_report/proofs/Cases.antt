-- What the case of a report says holds of the chip reported on.
use mathlib.Core.Path.{◌≡◌, refl, sym, ◌∙◌}
use mathlib.Core.Bool.{Bool, true, false, true≢false}
use Rattle.std.specs.Prelude.{Result, Ok, Err}
use Rattle.bits.specs.Byte.{pick}
use Rattle.sync.specs.Sync.{well_sync}
use Rattle.rates.specs.declared.NoRate.{NoRate}
use Rattle.rates.specs.declared.NoRate.TheVariants.{IllFormed, NothingLatched, Overflow}
use Rattle.rates.specs.declared.Rate.{Rate}
use Rattle.rates.specs.declared.Rate.TheVariants.{FieldRate, LineRate}
use Rattle.rates.specs.Report.{rate_number, FieldValues, LineValues}
use Rattle.rates.proofs.Cases.{field_case, line_case}
use Rattle.chip.specs.declared.Chip.{Chip}
use Rattle.chip.specs.State.{hsel_of}
use Rattle.chip_well_formed.specs.WellFormed.{well_formed}
use Rattle.chip_rate_report.specs.declared.Scan.{Scan}
use Rattle.chip_rate_report.specs.declared.Scan.TheVariants.{Field, Line}
use Rattle.chip_rate_report.specs.Report.{scan_report, rate_report, ScanValues, RateValues, number_at, RateCase}

-- a chip whose counters are out of range is ill formed
out_of_range : (c : Chip) → well_sync c.core.sync ≡ false → well_formed c ≡ false
unfolding well_formed
out_of_range c e = simp e

field_scan : (c : Chip) → ScanValues c Field (scan_report c Field)
unfolding ScanValues scan_report
field_scan c = field_case c.core.sync

line_scan : (c : Chip) → ScanValues c Line (scan_report c Line)
unfolding ScanValues scan_report
line_scan c = line_case c.core.sync (hsel_of c.core)

scan_case : (c : Chip) (scan : Scan) → ScanValues c scan (scan_report c scan)
scan_case c Field = field_scan c
scan_case c Line = line_scan c

scan_ill_formed : (c : Chip) (scan : Scan) → ScanValues c scan (Err IllFormed) → well_formed c ≡ false
unfolding ScanValues FieldValues LineValues
scan_ill_formed c Field e = out_of_range c e
scan_ill_formed c Line e = out_of_range c e

-- at a well formed chip the rate's own case says it all
formed_case : (c : Chip) (scan : Scan) (r : Result Rate NoRate) → well_formed c ≡ true → ScanValues c scan r → RateValues c scan r
unfolding RateValues
formed_case c scan (Err IllFormed) h e = scan_ill_formed c scan e
formed_case c scan (Err NothingLatched) h e = (h, e)
formed_case c scan (Err Overflow) h e = (h, e)
formed_case c scan (Ok (FieldRate x)) h e = (h, e)
formed_case c scan (Ok (LineRate x)) h e = (h, e)

rate_by : (c : Chip) (scan : Scan) (formed : Bool) → well_formed c ≡ formed → RateValues c scan (pick formed (scan_report c scan) (Err IllFormed))
unfolding RateValues
rate_by c scan true h = formed_case c scan (scan_report c scan) h (scan_case c scan)
rate_by c scan false h = h

pub rate_case : (c : Chip) (scan : Scan) → RateValues c scan (rate_report c scan)
unfolding rate_report
rate_case c scan = rate_by c scan (well_formed c) refl

-- a well formed chip has its counters in range
pub in_range : (c : Chip) (formed : Bool) → well_sync c.core.sync ≡ formed → well_formed c ≡ true → well_sync c.core.sync ≡ true
in_range c true e h = e
in_range c false e h = absurd (true≢false (sym h ∙ out_of_range c e))

-- a rate that is the report, with its number and what its case says
pub rate_says : (c : Chip) (scan : Scan) (r : Result Rate NoRate) → r ≡ rate_report c scan → rate_number r ≡ number_at c
    → (r ≡ rate_report c scan) × RateCase c scan r
rate_says c scan r e n = (e, record { number = n; values = rw e (rate_case c scan) })

-- a report is told with 8 exactly at an ill formed chip, and with no number else
number_by : (c : Chip) (scan : Scan) (r : Result Rate NoRate) → RateValues c scan r → rate_number r ≡ pick (well_formed c) 0 8
unfolding RateValues rate_number
number_by c scan (Err IllFormed) e = rw e refl
number_by c scan (Err NothingLatched) e = rw e.0 refl
number_by c scan (Err Overflow) e = rw e.0 refl
number_by c scan (Ok (FieldRate x)) e = rw e.0 refl
number_by c scan (Ok (LineRate x)) e = rw e.0 refl

pub rate_number_lem : (c : Chip) (scan : Scan) → rate_number (rate_report c scan) ≡ pick (well_formed c) 0 8
rate_number_lem c scan = number_by c scan (rate_report c scan) (rate_case c scan)
