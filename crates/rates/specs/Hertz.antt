-- Rates in Hz as doubles of IEEE 754 (document 01, "Counting sync", rate report). Lines and periods of 8 µs stay two types.
use Rattle.std.specs.Prelude.{ℕ, ◌*◌, false, T, pos, Float}
use Rattle.std.specs.Float.{binary64}
use Rattle.std.specs.Float.Ieee.{round, of_int, le}
use Rattle.std.specs.Float.Ieee.Exact.{HasValue}
use Rattle.sync.specs.declared.LatchedLines.{LatchedLines}
use Rattle.sync.specs.declared.LatchedPeriods.{LatchedPeriods}

-- the double nearest to a / b, ties to even: one rounding
abbrev pub quotient : ℕ → ℕ → Float
quotient a b = round binary64 false a b

-- x is the fraction a / b, with nothing lost
abbrev pub Exactly : Float → ℕ → ℕ → Type 0
Exactly x a b = HasValue x false a b

-- low ≤ x ≤ high
abbrev pub Between : ℕ → ℕ → Float → Type 0
Between low high x = T (le (of_int binary64 (pos low)) x) × T (le x (of_int binary64 (pos high)))

-- the field rate: periods in a second by periods in a field
abbrev pub field_hz : LatchedPeriods → Float
field_hz v = quotient 125000 v.0

-- the line rate at HSEL 0: lines in 8.192 ms, by that time
abbrev pub interval_hz : LatchedLines → Float
interval_hz h = quotient (h.0 * 15625) 128

-- the line rate at HSEL 1: lines in a field times 125,000, by periods in that field
abbrev pub line_hz : LatchedLines → LatchedPeriods → Float
line_hz h v = quotient (h.0 * 125000) v.0
