-- What the calls for C and Rust answer and leave of the numbers that are lent.
use Rattle.std.specs.Prelude.{ℕ, true, List, eqb, length, Float, Result, Ok, Err}
use Rattle.std.specs.Float.{binary64}
use Rattle.std.specs.Float.Ieee.{round}
use Rattle.bits.specs.Byte.{pick}
use Rattle.rates.specs.Hertz.{quotient}
use Rattle.rates.specs.declared.NoRate.{NoRate}
use Rattle.rates.specs.declared.NoRate.TheVariants.{IllFormed, NothingLatched, Overflow}
use Rattle.rates.specs.declared.Rate.{Rate}
use Rattle.rates.specs.Report.{in_hertz}
use Rattle.numbers6862.specs.Numbers.{call, told, field}

-- the number given back and the numbers left: another length than twelve is told before all else, and nothing is written
unfoldable pub lent : List ℕ → ℕ → ℕ → ℕ × List ℕ
lent n code value = pick (eqb (length n) 12) (told n (call n code value)) (15, n)

-- a whole number below zero
abbrev pub minus : ℕ → Float
minus n = round binary64 true n 1

-- a report as one double: the rate in Hz, which is 7 or more, or a number below that says why there is none
unfoldable pub hertz : Result Rate NoRate → Float
hertz (Err IllFormed) = minus 8
hertz (Err NothingLatched) = quotient 0 1
hertz (Err Overflow) = minus 1
hertz (Ok rate) = in_hertz rate

unfoldable pub field_lent : List ℕ → Float
field_lent n = pick (eqb (length n) 12) (hertz (field n)) (minus 15)
