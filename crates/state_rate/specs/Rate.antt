-- The rate report on a state in a lent area (document 02, Wish 14): a word with the number in bits 31..24 and below it the case, and
-- the rate in a lent place.
use Rattle.std.specs.Prelude.{ℕ, List, eqb, Float, Result, Ok, Err}
use Rattle.bits.specs.Byte.{pick}
use Rattle.chip.specs.declared.Chip.{Chip}
use Rattle.rates.specs.declared.NoRate.{NoRate}
use Rattle.rates.specs.declared.NoRate.TheVariants.{IllFormed, NothingLatched, Overflow}
use Rattle.rates.specs.declared.Rate.{Rate}
use Rattle.rates.specs.Report.{in_hertz}
use Rattle.chip_rate_report.specs.declared.Scan.TheVariants.{Field, Line}
use Rattle.chip_rate_report.specs.Report.{rate_report}
use Rattle.state_area.specs.Area.{state_in}
use Rattle.state_calls.specs.Calls.{holds_state, refusal_word}

-- a report as a word: 0 where there is a rate, 1 nothing latched, 2 overflow; 8 in bits 31..24 for an ill formed state
unfoldable pub report_word : Result Rate NoRate → ℕ
report_word (Err IllFormed) = 0x08000000
report_word (Err NothingLatched) = 1
report_word (Err Overflow) = 2
report_word (Ok rate) = 0

-- the lent place after it: the rate, or what was there
unfoldable pub report_hertz : Result Rate NoRate → Float → Float
report_hertz (Err why) old = old
report_hertz (Ok rate) old = in_hertz rate

-- which rate: 0 of fields, 1 of lines; there is no other, which is 2
unfoldable pub rate_word : Chip → ℕ → ℕ
rate_word c which = pick (eqb which 0) (report_word (rate_report c Field)) (pick (eqb which 1) (report_word (rate_report c Line)) 0x02000000)

unfoldable pub rate_hertz : Chip → ℕ → Float → Float
rate_hertz c which old = pick (eqb which 0) (report_hertz (rate_report c Field) old) (pick (eqb which 1) (report_hertz (rate_report c Line) old) old)

-- on an area
unfoldable pub rate_in : List ℕ → ℕ → ℕ
rate_in s which = pick (holds_state s) (rate_word (state_in s) which) (refusal_word s)

unfoldable pub hertz_in : List ℕ → ℕ → Float → Float
hertz_in s which old = pick (holds_state s) (rate_hertz (state_in s) which old) old
