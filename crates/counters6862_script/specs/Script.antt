-- A script: a line a call on the twelve numbers, with what is told after each. The first malformed line ends it.
use Rattle.std.specs.Prelude.{ℕ, ◌+◌, ◌%◌, Float, true, false, List, [], ◌∷◌, eqb, ltb, set, Option, Some, None, Result, Ok, Err}
use Rattle.std.specs.Float.{binary64}
use Rattle.std.specs.Float.Ieee.{of_bits, to_bits, lt}
use Rattle.bits.specs.Byte.{pick}
use Rattle.rates.specs.declared.NoRate.{NoRate}
use Rattle.rates.specs.declared.Rate.{Rate}
use Rattle.rates.specs.Report.{rate_number, in_hertz}
use Rattle.numbers6862.specs.Numbers as numbers
use Rattle.counters6862_orders.specs.declared.Reader.{Reader}
use Rattle.counters6862_orders.specs.declared.Found.{Found}
use Rattle.counters6862_orders.specs.declared.Found.TheVariants.{Within, Ended}
use Rattle.counters6862_orders.specs.declared.Order.{Order}
use Rattle.counters6862_orders.specs.declared.Order.TheVariants as order
use Rattle.counters6862_orders.specs.Line as line
use Rattle.counters6862_orders.specs.Orders.{order_of}
use Rattle.counters6862_script.specs.declared.Event.TheVariants.{Nothing, Answer, Report, Malformed}
use Rattle.counters6862_script.specs.declared.Progress.{Progress}
use Rattle.counters6862_script.specs.declared.Step.{Step}

-- one more; the largest number of 64 bits stands
unfoldable pub one_more : ℕ → ℕ
one_more n = pick (ltb n 18446744073709551615) (n + 1) n

-- before the first byte: twelve zeros, which are no state, and line 1
unfoldable pub opened : Progress
opened =
    record {
      numbers = 0 ∷ 0 ∷ 0 ∷ 0 ∷ 0 ∷ 0 ∷ 0 ∷ 0 ∷ 0 ∷ 0 ∷ 0 ∷ 0 ∷ [];
      reader = line.line_start;
      line = 1;
      ended = false;
    }

abbrev pub with_reader : Progress → Reader → Progress
with_reader p r = record { numbers = p.numbers; reader = r; line = p.line; ended = p.ended }

-- the next line, with these numbers
abbrev pub next_line : Progress → List ℕ → Progress
next_line p n = record { numbers = n; reader = line.line_start; line = one_more p.line; ended = p.ended }

-- a malformed line ends the script, at its own number
abbrev pub stopped : Progress → Step
stopped p = record { progress = record { numbers = p.numbers; reader = p.reader; line = p.line; ended = true }; event = Malformed }

-- a call, the report, and a number put in its place: an order's place is below twelve and its number has 16 bits, so that the remainders
-- change neither
abbrev pub called_with : Progress → ℕ → ℕ → Step
called_with p code value =
    let done = numbers.told p.numbers (numbers.call p.numbers code value) in
    record { progress = next_line p done.1; event = Answer done.0 }

abbrev pub reported : Progress → Step
reported p = record { progress = next_line p p.numbers; event = Report (rate_number (numbers.field p.numbers)) (numbers.field p.numbers) }

abbrev pub put_at : Progress → ℕ → ℕ → Step
put_at p place value = record { progress = next_line p (set p.numbers (place % 12) (value % 65536)); event = Answer 0 }

unfoldable pub obeyed : Option Order → Progress → Step
obeyed (Some (order.Call code value)) p = called_with p code value
obeyed (Some order.Field) p = reported p
obeyed (Some (order.Put place value)) p = put_at p place value
obeyed None p = stopped p

-- a byte within a line, or the end of one that is passed over
unfoldable pub within : Progress → ℕ → Reader → Step
within p b r = pick (eqb b 10) (record { progress = next_line p p.numbers; event = Nothing }) (record { progress = with_reader p r; event = Nothing })

unfoldable pub found : Option Found → Progress → ℕ → Step
found (Some (Within r)) p b = within p b r
found (Some (Ended line)) p b = obeyed (order_of line) p
found None p b = stopped p

-- a byte of the script
unfoldable pub next : Progress → ℕ → Step
next p b = pick p.ended (record { progress = p; event = Nothing }) (found (line.next p.reader b) p b)

-- ---- the rate's 64 bits

-- of a rate above 0, which every rate that is reported is; 0 stands for no rate
unfoldable pub positive_bits : Float → ℕ
positive_bits x = pick (lt (of_bits binary64 0) x) (to_bits binary64 x) 0

unfoldable pub rate_bits : Result Rate NoRate → ℕ
rate_bits (Err why) = 0
rate_bits (Ok rate) = positive_bits (in_hertz rate)
