-- A state of the counters as twelve numbers, and calls by number on them: what the C interface and the program go by.
use Rattle.std.specs.Prelude.{ℕ, Bool, ◌&&◌, List, [], ◌∷◌, eqb, ltb, get_or, Option, Some, None, Result, Ok, Err}
use Rattle.bits.specs.Byte.{pick, num}
use Rattle.sync6862.specs.declared.Part.{Part}
use Rattle.sync6862.specs.declared.Part.TheVariants.{Nt6861, Nt6862}
use Rattle.sync6862.specs.declared.Counters.{Counters}
use Rattle.sync6862.specs.declared.Call.{Call}
use Rattle.sync6862.specs.declared.Call.TheVariants.{Hsynci, Vsynci, Enhsel, Hsel, ClearH, ClearV}
use Rattle.sync6862.specs.declared.Refusal.{Refusal}
use Rattle.sync6862.specs.declared.Refusal.TheVariants.{NoSuchCall, OutOfRange, IllFormed}
use Rattle.sync6862.specs.Unit.{chip_number, well_formed, answer, refusal_number, fresh, fresh_number, number_of}
use Rattle.sync6862_laws.specs.Counting.{run, clocks}
use Rattle.rates.specs.declared.NoRate.{NoRate}
use Rattle.rates.specs.declared.NoRate.TheVariants as no-rate
use Rattle.rates.specs.declared.Rate.{Rate}
use Rattle.rates6862.specs.Report.{field_report}
use Rattle.numbers6862.specs.declared.Asked.{Asked}
use Rattle.numbers6862.specs.declared.Asked.TheVariants.{Do, Clocks}

-- ---- the twelve numbers: chip, HSYNCI, VSYNCI, HCNT, its overflow bit, VCNT, its overflow bit, H latch, V latch, interval, HSEL, ENHSEL

-- 0 on the NT6861, which has no ENHSEL
unfoldable pub enhsel_number : Part → ℕ
enhsel_number Nt6861 = 0
enhsel_number (Nt6862 enhsel) = num enhsel

unfoldable pub numbers_of : Counters → List ℕ
numbers_of s =
    chip_number s.part
    ∷ num s.hsynci
    ∷ num s.vsynci
    ∷ s.sync.lines.count.0
    ∷ num s.sync.lines.overflow
    ∷ s.sync.periods.count.0
    ∷ num s.sync.periods.overflow
    ∷ s.sync.lines.latch.0
    ∷ s.sync.periods.latch.0
    ∷ s.sync.interval
    ∷ num s.hsel
    ∷ enhsel_number s.part
    ∷ []

-- ---- reading them back

-- levels and bits are 0 or 1
unfoldable pub bits_fit : List ℕ → Bool
bits_fit n = (((ltb (get_or n 1 0) 2 && ltb (get_or n 2 0) 2) && ltb (get_or n 4 0) 2) && ltb (get_or n 6 0) 2) && ltb (get_or n 10 0) 2

-- the chip, by its number and ENHSEL
unfoldable pub part_of : ℕ → ℕ → Option Part
part_of chip enhsel =
    pick (eqb chip 6861) (pick (eqb enhsel 0) (Some Nt6861) None)
    (pick (eqb chip 6862) (pick (ltb enhsel 2) (Some (Nt6862 (eqb enhsel 1))) None) None)

unfoldable pub state_of : Part → List ℕ → Counters
state_of part n =
    record {
      part = part;
      hsynci = eqb (get_or n 1 0) 1;
      vsynci = eqb (get_or n 2 0) 1;
      hsel = eqb (get_or n 10 0) 1;
      sync = record {
        lines = record { count = record { 0 = get_or n 3 0 }; latch = record { 0 = get_or n 7 0 }; overflow = eqb (get_or n 4 0) 1 };
        periods = record { count = record { 0 = get_or n 5 0 }; latch = record { 0 = get_or n 8 0 }; overflow = eqb (get_or n 6 0) 1 };
        interval = get_or n 9 0;
      };
    }

-- numbers that are no well formed state are none
unfoldable pub offered_as : Counters → Option Counters
offered_as s = pick (well_formed s) (Some s) None

unfoldable pub read_as : Option Part → List ℕ → Option Counters
read_as (Some part) n = offered_as (state_of part n)
read_as None n = None

unfoldable pub read : List ℕ → Option Counters
read n = pick (bits_fit n) (read_as (part_of (get_or n 0 0) (get_or n 11 0)) n) None

-- ---- calls by number

-- a level or a bit is 0 or 1; a clear comes with 0
unfoldable pub with_bit : ℕ → Call → Result Asked Refusal
with_bit value call = pick (ltb value 2) (Ok (Do call)) (Err OutOfRange)

unfoldable pub alone : ℕ → Call → Result Asked Refusal
alone value call = pick (eqb value 0) (Ok (Do call)) (Err OutOfRange)

-- the NT6861 refuses ENHSEL whatever its value
unfoldable pub enhsel_asked : Part → ℕ → Result Asked Refusal
enhsel_asked Nt6861 value = Ok (Do (Enhsel (eqb value 1)))
enhsel_asked (Nt6862 enhsel) value = with_bit value (Enhsel (eqb value 1))

-- 1 HSYNCI, 2 VSYNCI, 3 so many clocks, 4 ENHSEL, 5 HSEL, 6 clear H, 7 clear V; another there is not
unfoldable pub asked : Part → ℕ → ℕ → Result Asked Refusal
asked part call value =
    pick (eqb call 1) (with_bit value (Hsynci (eqb value 1)))
    (pick (eqb call 2) (with_bit value (Vsynci (eqb value 1)))
    (pick (eqb call 3) (Ok (Clocks value))
    (pick (eqb call 4) (enhsel_asked part value)
    (pick (eqb call 5) (with_bit value (Hsel (eqb value 1)))
    (pick (eqb call 6) (alone value ClearH)
    (pick (eqb call 7) (alone value ClearV) (Err NoSuchCall)))))))

-- ---- what a call leaves, or why it is refused

unfoldable pub given : Asked → Counters → Result Counters Refusal
given (Do call) s = answer s call
given (Clocks times) s = Ok (run s (clocks times))

abbrev pub given_as : Result Asked Refusal → Counters → Result Counters Refusal
given_as (Ok wish) s = given wish s
given_as (Err why) s = Err why

-- ill formed before all else that a state is asked for
unfoldable pub given_to : Option Counters → ℕ → ℕ → Result Counters Refusal
given_to (Some s) code value = given_as (asked s.part code value) s
given_to None code value = Err IllFormed

-- call 0 asks for a fresh state and is offered none
unfoldable pub after : List ℕ → ℕ → ℕ → Result Counters Refusal
after n code value = pick (eqb code 0) (fresh value) (given_to (read n) code value)

unfoldable pub written_as : Result Counters Refusal → Result (List ℕ) Refusal
written_as (Ok s) = Ok (numbers_of s)
written_as (Err why) = Err why

-- the twelve numbers after a call: a fresh state takes the place of whatever they were
unfoldable pub call : List ℕ → ℕ → ℕ → Result (List ℕ) Refusal
call n code value = written_as (after n code value)

-- the number given back, and the numbers left: a refusal leaves them as they were
abbrev pub told : List ℕ → Result (List ℕ) Refusal → ℕ × List ℕ
told n (Ok next) = (0, next)
told n (Err why) = (refusal_number why, n)

-- ---- the numbers, exactly when each is given

unfoldable pub asked_number : Result Asked Refusal → Counters → ℕ
asked_number (Ok (Do call)) s = number_of s call
asked_number (Ok (Clocks times)) s = 0
asked_number (Err why) s = refusal_number why

unfoldable pub offered_number : Option Counters → ℕ → ℕ → ℕ
offered_number (Some s) code value = asked_number (asked s.part code value) s
offered_number None code value = 8

-- 23 or 0 for a fresh state; else 8 before all, then 1 for no such call, 2 for ENHSEL on the NT6861, 3 for a value outside its range
unfoldable pub call_number : List ℕ → ℕ → ℕ → ℕ
call_number n code value = pick (eqb code 0) (fresh_number (fresh value)) (offered_number (read n) code value)

-- ---- the field rate: numbers that are no well formed state are ill formed

unfoldable pub field_offered : Option Counters → Result Rate NoRate
field_offered (Some s) = field_report s
field_offered None = Err no-rate.IllFormed

unfoldable pub field : List ℕ → Result Rate NoRate
field n = field_offered (read n)
