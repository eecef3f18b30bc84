-- 0, 2, 3 and 7, each exactly when; and what each leaves.
-- Assumes nothing.
use Prim.Native.Nat.{ℕ}
use mathlib.Core.Path.{◌≡◌, refl, sym}
use mathlib.Core.Bool.{Bool, true, false, true≢false}
use mathlib.Core.List.{List, ◌++◌, map}
use native.Mathlib.Omega.{arith}
use lib.Dec.{eqb, ltb}
use lib.ListN.{length, drop}
use Rattle.std.specs.Prelude.{Some, None}
use Rattle.std.specs.declared.option.Option.{Option}
use Rattle.plain_bus.specs.Plain.{addresses}
use Rattle.plain_bus.specs.Reading.{first_fault, number_of, reading_by, number_by, reading, word_of, written, places_left, ReadingCase}
use Rattle.plain_bus.specs.declared.Fault.{Fault}
use Rattle.plain_bus.specs.declared.Fault.TheVariants.{OtherLine, OtherLevel}
use Rattle.plain_bus.specs.declared.Reading.{Reading}
use Rattle.plain_bus.specs.declared.Reading.TheVariants.{Listed, BadLine, BadLevel, TooFewPlaces}
use Rattle.plain_bus.specs.Numbers.{Exactly}

exactly_by : (fault : Option Fault) (room count : ℕ) (short : Bool) → ltb room count ≡ short → Exactly (number_of (reading_by fault room count)) fault short
exactly_by None room count true e = rw e (record { zero = refl; two = refl; three = refl; seven = refl })
exactly_by None room count false e = rw e (record { zero = refl; two = refl; three = refl; seven = refl })
exactly_by (Some OtherLine) room count short e = record { zero = refl; two = refl; three = refl; seven = refl }
exactly_by (Some OtherLevel) room count short e = record { zero = refl; two = refl; three = refl; seven = refl }

-- 2 and 3 by the first bad change; then 7 where there are fewer places than addresses; else 0
pub exactly : (own : ℕ) (cs places : List ℕ) → Exactly (number_of (reading own cs places)) (first_fault cs) (ltb (length places) (length (addresses own cs)))
unfolding reading
exactly own cs places = exactly_by (first_fault cs) (length places) (length (addresses own cs)) (ltb (length places) (length (addresses own cs))) refl

untouched_by : (r : Reading) (words places : List ℕ) → eqb (number_of r) 0 ≡ false → written r words places ≡ places
untouched_by (Listed count) words places e = absurd (true≢false e)
untouched_by BadLine words places e = refl
untouched_by BadLevel words places e = refl
untouched_by TooFewPlaces words places e = refl

-- a refusal writes nothing
pub refused_untouched : (own : ℕ) (cs places : List ℕ) → eqb (number_of (reading own cs places)) 0 ≡ false → places_left own cs places ≡ places
unfolding places_left
refused_untouched own cs places e = untouched_by (reading own cs places) (map word_of (addresses own cs)) places e

listed_by : (fault : Option Fault) (room count : ℕ) (words places : List ℕ) (short : Bool) → ltb room count ≡ short → eqb (number_of (reading_by fault room count)) 0 ≡ true
    → (reading_by fault room count ≡ Listed count) × (written (reading_by fault room count) words places ≡ words ++ drop count places)
listed_by None room count words places true s e = absurd (true≢false (sym (rw s at e)))
listed_by None room count words places false s e = rw s (refl, refl)
listed_by (Some OtherLine) room count words places short s e = absurd (true≢false (sym e))
listed_by (Some OtherLevel) room count words places short s e = absurd (true≢false (sym e))

-- with 0 all addresses are listed, and places past them keep their content
pub all_listed : (own : ℕ) (cs places : List ℕ) → eqb (number_of (reading own cs places)) 0 ≡ true
    → (reading own cs places ≡ Listed (length (addresses own cs))) × (places_left own cs places ≡ map word_of (addresses own cs) ++ drop (length (addresses own cs)) places)
unfolding reading places_left
all_listed own cs places e = listed_by (first_fault cs) (length places) (length (addresses own cs)) (map word_of (addresses own cs)) places _ refl e

-- ---- the contract of the reading

values_by : (fault : Option Fault) (room count : ℕ) (short : Bool) → ltb room count ≡ short → number_of (reading_by fault room count) ≡ 0 → reading_by fault room count ≡ Listed count
values_by None room count true e z = let no : ⊥ = omega (arith, rw e at z) in absurd no
values_by None room count false e z = rw e
values_by (Some OtherLine) room count short e z = let no : ⊥ = omega arith in absurd no
values_by (Some OtherLevel) room count short e z = let no : ⊥ = omega arith in absurd no

given_values : (own : ℕ) (cs places : List ℕ) → number_of (reading own cs places) ≡ 0 → reading own cs places ≡ Listed (length (addresses own cs))
unfolding reading
given_values own cs places = values_by (first_fault cs) (length places) (length (addresses own cs)) (ltb (length places) (length (addresses own cs))) refl

-- an answer and places that are the definitions', with the answer's number
pub read_case : (own : ℕ) (cs places left : List ℕ) (r : Reading) → (r ≡ reading own cs places) × (left ≡ places_left own cs places)
    → number_of r ≡ number_by (first_fault cs) (ltb (length places) (length (addresses own cs)))
    → (r ≡ reading own cs places) × (left ≡ places_left own cs places) × ReadingCase own cs places r
read_case own cs places left r e n = (e.0, e.1, record { number = n; values = rw e.0 (given_values own cs places) })

-- the number of a list without a fault, by the places
good_by : (room count : ℕ) (short : Bool) → ltb room count ≡ short → number_of (reading_by None room count) ≡ number_by None (ltb room count)
good_by room count true e = rw e
good_by room count false e = rw e

-- the answer to a list without a fault
pub good_case : (own : ℕ) (cs places left : List ℕ) (r : Reading) → first_fault cs ≡ None → (r ≡ reading_by None (length places) (length (addresses own cs)))
    × (left ≡ written (reading_by None (length places) (length (addresses own cs))) (map word_of (addresses own cs)) places)
    → (r ≡ reading own cs places) × (left ≡ places_left own cs places) × ReadingCase own cs places r
unfolding reading places_left
good_case own cs places left r f e =
    read_case own cs places left r (rw f e) (rw (f, e.0) (good_by (length places) (length (addresses own cs)) (ltb (length places) (length (addresses own cs))) refl))
