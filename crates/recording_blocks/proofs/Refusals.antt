-- The numbers of reader and writer: each exactly when, and what an accepted block has.
-- Assumes nothing.
use mathlib.Core.Path.{◌≡◌, refl, sym, ap, ◌∙◌}
use mathlib.Core.Bool.{Bool, true, false, not, ◌&&◌}
use mathlib.Core.List.{List, ◌++◌}
use Prim.Native.Nat.{ℕ, ◌<◌, ◌≤◌}
use native.Mathlib.Omega.{arith}
use borrow.Author.Tests.{ltb-true, ltb-false, eqb-true, lt-ltb, le-ltb, eq-eqb, ne_eqb}
use lib.Dec.{eqb, ltb}
use lib.ListN.{length, take, drop}
use Rattle.bits.specs.Byte.{pick}
use Rattle.recording_blocks.specs.Bytes.{all_zero, sum}
use Rattle.std.specs.Prelude.{Result, Ok, Err}
use Rattle.recording_blocks.specs.Block.{number_of, count_of, sum_of, all_words, unused, refusal, fault_of, fault_number, words_counted, block_read, places_left, number_given, read_number, BlockCase, write_number, area_left}
use Rattle.recording_blocks.specs.declared.BlockFault.{BlockFault}
use Rattle.recording_blocks.specs.declared.BlockFault.TheVariants.{Places, Short, Sum, Number, Count, Unused}
use Rattle.recording_blocks.specs.Refusals.{Numbers, Good}

-- ---- the reader

abbrev tested : Bool → Bool → Bool → Bool → Bool → ℕ
tested short added numbered counted zero = pick short 10 (pick added (pick numbered (pick counted (pick zero 0 14) 13) 12) 11)

by_tests : (short added numbered counted zero : Bool) → Numbers (tested short added numbered counted zero) short added numbered counted zero
by_tests true added numbered counted zero = record { ten = refl; eleven = refl; twelve = refl; thirteen = refl; fourteen = refl; none = refl }
by_tests false false numbered counted zero = record { ten = refl; eleven = refl; twelve = refl; thirteen = refl; fourteen = refl; none = refl }
by_tests false true false counted zero = record { ten = refl; eleven = refl; twelve = refl; thirteen = refl; fourteen = refl; none = refl }
by_tests false true true false zero = record { ten = refl; eleven = refl; twelve = refl; thirteen = refl; fourteen = refl; none = refl }
by_tests false true true true false = record { ten = refl; eleven = refl; twelve = refl; thirteen = refl; fourteen = refl; none = refl }
by_tests false true true true true = record { ten = refl; eleven = refl; twelve = refl; thirteen = refl; fourteen = refl; none = refl }

pub numbers : (due : ℕ) (b : List ℕ)
    → Numbers (refusal due b) (ltb (length b) 512) (eqb (sum_of b) (sum (take 508 b))) (eqb (number_of b) due) (ltb (count_of b) 127) (all_zero (unused b))
unfolding refusal
numbers due b = by_tests (ltb (length b) 512) (eqb (sum_of b) (sum (take 508 b))) (eqb (number_of b) due) (ltb (count_of b) 127) (all_zero (unused b))

-- a refusal is one of five numbers
range_of : (short added numbered counted zero : Bool) → (tested short added numbered counted zero ≡ 0 → ⊥)
    → (10 ≤ tested short added numbered counted zero) × (tested short added numbered counted zero ≤ 14)
range_of true added numbered counted zero h = (omega arith, omega arith)
range_of false false numbered counted zero h = (omega arith, omega arith)
range_of false true false counted zero h = (omega arith, omega arith)
range_of false true true false zero h = (omega arith, omega arith)
range_of false true true true false h = (omega arith, omega arith)
range_of false true true true true h = absurd (h refl)

pub refusal_range : (due : ℕ) (b : List ℕ) → (refusal due b ≡ 0 → ⊥) → (10 ≤ refusal due b) × (refusal due b ≤ 14)
unfolding refusal
refusal_range due b = range_of (ltb (length b) 512) (eqb (sum_of b) (sum (take 508 b))) (eqb (number_of b) due) (ltb (count_of b) 127) (all_zero (unused b))

all_hold : (short added numbered counted zero : Bool) → tested short added numbered counted zero ≡ 0
    → (short ≡ false) × ((added ≡ true) × ((numbered ≡ true) × ((counted ≡ true) × (zero ≡ true))))
all_hold true added numbered counted zero e = absurd (omega arith)
all_hold false false numbered counted zero e = absurd (omega arith)
all_hold false true false counted zero e = absurd (omega arith)
all_hold false true true false zero e = absurd (omega arith)
all_hold false true true true false e = absurd (omega arith)
all_hold false true true true true e = (refl, (refl, (refl, (refl, refl))))

pub good : (due : ℕ) (b : List ℕ) → refusal due b ≡ 0 → Good due b
unfolding refusal
good due b e =
    let t = all_hold (ltb (length b) 512) (eqb (sum_of b) (sum (take 508 b))) (eqb (number_of b) due) (ltb (count_of b) 127) (all_zero (unused b)) e in
    record {
      full = ltb-false _ _ t.0;
      added = eqb-true _ _ t.1.0;
      numbered = eqb-true _ _ t.1.1.0;
      counted = ltb-true _ _ t.1.1.1.0;
      zero = t.1.1.1.1;
    }

-- the number that each way through the tests gives
module _ (due : ℕ) (b : List ℕ) where
  pub gives_ten : length b < 512 → 10 ≡ refusal due b
  unfolding refusal
  gives_ten h = rw (lt-ltb _ _ h)

  module _ (full : 512 ≤ length b) (x s : ℕ) (p : x ≡ sum_of b) (q : s ≡ sum (take 508 b)) where
    pub gives_eleven : (x ≡ s → ⊥) → 11 ≡ refusal due b
    unfolding refusal
    gives_eleven h = rw (le-ltb _ _ full, ne_eqb (sum_of b) (sum (take 508 b)) (λ e. h (p ∙ e ∙ sym q)))

    module _ (added : x ≡ s) (n : ℕ) (r : n ≡ number_of b) where
      sums : eqb (sum_of b) (sum (take 508 b)) ≡ true
      sums = eq-eqb _ _ (sym p ∙ added ∙ q)

      pub gives_twelve : (n ≡ due → ⊥) → 12 ≡ refusal due b
      unfolding refusal
      gives_twelve h = rw (le-ltb _ _ full, sums, ne_eqb (number_of b) due (λ e. h (r ∙ e)))

      module _ (numbered : n ≡ due) (k : ℕ) (c : k ≡ count_of b) where
        pub gives_thirteen : 127 ≤ k → 13 ≡ refusal due b
        unfolding refusal
        gives_thirteen h = rw (le-ltb _ _ full, sums, eq-eqb (number_of b) due (sym r ∙ numbered), le-ltb (count_of b) 127 (rw c at h))

        pub gives_rest : k < 127 → (zero : Bool) → zero ≡ all_zero (drop k (all_words b)) → pick zero 0 14 ≡ refusal due b
        unfolding refusal
        gives_rest h zero z =
            let u : all_zero (unused b) ≡ zero = ap (λ (j : ℕ). all_zero (drop j (all_words b))) (sym c) ∙ sym z in
            rw (le-ltb _ _ full, sums, eq-eqb (number_of b) due (sym r ∙ numbered), lt-ltb (count_of b) 127 (rw c at h), u)

-- what the tests give, by the number of the refusal
pub counted_by : (due : ℕ) (b : List ℕ) (n : ℕ) → n ≡ refusal due b → pick (eqb n 0) (Ok (count_of b)) (Err (fault_of n)) ≡ words_counted due b
unfolding words_counted
counted_by due b n p = ap (λ (m : ℕ). pick (eqb m 0) (Ok (count_of b)) (Err (fault_of m))) p

counted_words : (none : Bool) (k n : ℕ) (f : BlockFault) → Ok k ≡ pick none (Ok n) (Err f) → (none ≡ true) × (k ≡ n)
counted_words true k n f e = (refl, cc)
counted_words false k n f e = cc

counted_fault : (none : Bool) (n : ℕ) (f g : BlockFault) → Err f ≡ pick none (Ok n) (Err g) → (none ≡ false) × (f ≡ g)
counted_fault true n f g e = cc
counted_fault false n f g e = (refl, cc)

-- what the reader gives and leaves
module _ (due : ℕ) (b places : List ℕ) where
  pub read_refused : (f : BlockFault) → Err f ≡ words_counted due b → (Err f ≡ block_read due b places) × (places ≡ places_left due b places)
  unfolding words_counted block_read places_left
  read_refused f e =
      let t = counted_fault (eqb (refusal due b) 0) (count_of b) f (fault_of (refusal due b)) e in
      rw (t.0, t.1) (refl, refl)

  module _ (k : ℕ) (e : Ok k ≡ words_counted due b) where
    pub accepted : (refusal due b ≡ 0) × (k ≡ count_of b)
    unfolding words_counted
    accepted =
        let t = counted_words (eqb (refusal due b) 0) k (count_of b) (fault_of (refusal due b)) e in
        (eqb-true _ _ t.0, t.1)

    pub read_seven : length places < k → (Err Places ≡ block_read due b places) × (places ≡ places_left due b places)
    unfolding block_read places_left
    read_seven h = rw (eq-eqb _ 0 accepted.0, ← accepted.1, lt-ltb _ _ h) (refl, refl)

    pub read_words_lem : k ≤ length places → (new : List ℕ) → new ≡ take k (all_words b) ++ drop k places
        → (Ok k ≡ block_read due b places) × (new ≡ places_left due b places)
    unfolding block_read places_left
    read_words_lem h new p = rw (eq-eqb _ 0 accepted.0, ← accepted.1, le-ltb _ _ h) (refl, p)

-- no fault has the number 0
some_number : (f : BlockFault) → fault_number f ≡ 0 → ⊥
some_number Places z = omega arith
some_number Short z = omega arith
some_number Sum z = omega arith
some_number Number z = omega arith
some_number Count z = omega arith
some_number Unused z = omega arith

-- an answer with the number 0 is the words
words_by : (none short : Bool) (n k : ℕ) → number_given (pick none (pick short (Err Places) (Ok k)) (Err (fault_of n))) ≡ 0
    → pick none (pick short (Err Places) (Ok k)) (Err (fault_of n)) ≡ Ok k
words_by true true n k z = let no : ⊥ = omega arith in absurd no
words_by true false n k z = refl
words_by false short n k z = absurd (some_number (fault_of n) z)

words_given_lem : (due : ℕ) (b places : List ℕ) → number_given (block_read due b places) ≡ 0 → block_read due b places ≡ Ok (count_of b)
unfolding block_read
words_given_lem due b places = words_by (eqb (refusal due b) 0) (ltb (length places) (count_of b)) (refusal due b) (count_of b)

-- the number of the answer is that of the refusal, or 7
numbered_by : (short added numbered counted zero few : Bool) (k : ℕ)
    → number_given (pick (eqb (tested short added numbered counted zero) 0) (pick few (Err Places) (Ok k)) (Err (fault_of (tested short added numbered counted zero))))
    ≡ pick (eqb (tested short added numbered counted zero) 0) (pick few 7 0) (tested short added numbered counted zero)
numbered_by true added numbered counted zero few k = refl
numbered_by false false numbered counted zero few k = refl
numbered_by false true false counted zero few k = refl
numbered_by false true true false zero few k = refl
numbered_by false true true true false few k = refl
numbered_by false true true true true true k = refl
numbered_by false true true true true false k = refl

number_lem : (due : ℕ) (b places : List ℕ) → number_given (block_read due b places) ≡ read_number due b places
unfolding block_read refusal
number_lem due b places =
    numbered_by (ltb (length b) 512) (eqb (sum_of b) (sum (take 508 b))) (eqb (number_of b) due) (ltb (count_of b) 127) (all_zero (unused b))
    (ltb (length places) (count_of b)) (count_of b)

-- the contract of the reader for an answer and places that are the definitions'
pub read_case : (due : ℕ) (b places left : List ℕ) (r : Result ℕ BlockFault) → (r ≡ block_read due b places) × (left ≡ places_left due b places)
    → (r ≡ block_read due b places) × (left ≡ places_left due b places) × BlockCase due b places r
read_case due b places left r e = (e.0, e.1, record { number = rw e.0 (number_lem due b places); values = rw e.0 (words_given_lem due b places) })

-- ---- the writer

write_tests : (many sized : Bool) (n : ℕ) → n ≡ pick many 16 (pick sized 0 17)
    → (eqb n 16 ≡ many) × ((eqb n 17 ≡ (not many && not sized)) × (eqb n 0 ≡ (not many && sized)))
write_tests true sized n e = rw e (refl, (refl, refl))
write_tests false true n e = rw e (refl, (refl, refl))
write_tests false false n e = rw e (refl, (refl, refl))

pub write_numbers : (ws area : List ℕ)
    → (eqb (write_number ws area) 16 ≡ ltb 126 (length ws))
    × ((eqb (write_number ws area) 17 ≡ (not (ltb 126 (length ws)) && not (eqb (length area) 512)))
    × (eqb (write_number ws area) 0 ≡ (not (ltb 126 (length ws)) && eqb (length area) 512)))
unfolding write_number
write_numbers ws area = write_tests (ltb 126 (length ws)) (eqb (length area) 512) (write_number ws area) refl

-- a refused writer leaves the area as it was
left : (many sized : Bool) (area block : List ℕ) → (eqb (pick many 16 (pick sized 0 17)) 0 ≡ false) → pick many area (pick sized block area) ≡ area
left true sized area block e = refl
left false true area block e = cc
left false false area block e = refl

pub write_refused : (number : ℕ) (ws area : List ℕ) → eqb (write_number ws area) 0 ≡ false → area_left number ws area ≡ area
unfolding write_number area_left
write_refused number ws area e = left (ltb 126 (length ws)) (eqb (length area) 512) area _ e
