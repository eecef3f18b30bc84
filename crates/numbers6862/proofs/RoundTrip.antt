-- A well formed state is read back from its numbers, and twelve numbers that are read as a state are that state's: so the numbers that are
-- ill formed are exactly those that no well formed state is written as.
-- Assumes nothing.
use Prim.Native.Nat.{ℕ, ◌<◌}
use mathlib.Core.Path.{◌≡◌, refl, sym, ap, ◌∙◌}
use mathlib.Core.Bool.{Bool, true, false}
use mathlib.Core.List.{List, [], ◌∷◌}
use native.Mathlib.Omega.{arith}
use lib.Dec.{eqb, ltb}
use lib.ListN.{length, get_or}
use borrow.Author.Tests.{eqb-true, ltb-true}
use Rattle.bits.specs.Byte.{pick, num}
use Rattle.bits.proofs.Finite.{both}
use Rattle.bits.proofs.Level.{eqb_num, num_eqb}
use Rattle.sync6862.specs.declared.Part.{Part}
use Rattle.sync6862.specs.declared.Part.TheVariants.{Nt6861, Nt6862}
use Rattle.sync6862.specs.declared.Counters.{Counters}
use Rattle.sync6862.specs.Unit.{chip_number, well_formed}
use Rattle.std.specs.Prelude.{Option, Some, None}
use Rattle.numbers6862.specs.Numbers.{enhsel_number, numbers_of, bits_fit, part_of, state_of, offered_as, read_as, read}

-- ---- what is written is read back

num_fits : (b : Bool) → ltb (num b) 2 ≡ true
num_fits true = refl
num_fits false = refl

bits_written : (s : Counters) → bits_fit (numbers_of s) ≡ true
unfolding bits_fit numbers_of
bits_written s = simp num_fits

part_written : (part : Part) → part_of (chip_number part) (enhsel_number part) ≡ Some part
unfolding part_of chip_number enhsel_number
part_written Nt6861 = refl
part_written (Nt6862 true) = refl
part_written (Nt6862 false) = refl

state_written : (s : Counters) → state_of s.part (numbers_of s) ≡ s
unfolding state_of numbers_of
state_written s = simp eqb_num

named_written : (s : Counters) → part_of (get_or (numbers_of s) 0 0) (get_or (numbers_of s) 11 0) ≡ Some s.part
unfolding numbers_of
named_written s = part_written s.part

pub written_read : (s : Counters) → well_formed s ≡ true → read (numbers_of s) ≡ Some s
unfolding read read_as offered_as
written_read s w = rw (bits_written s, named_written s, state_written s, w)

-- ---- what is read as a state is that state's numbers

picked : (t : Bool) (x : Option Counters) (s : Counters) → pick t x None ≡ Some s → (t ≡ true) × (x ≡ Some s)
picked true x s h = (refl, h)
picked false x s h = (cc, cc)

record Names (m n : ℕ) (part : Part) : Type 0 where
  chip : chip_number part ≡ m
  enhsel : enhsel_number part ≡ n

chosen : (t : Bool) (x : Option Part) (part : Part) → pick t x None ≡ Some part → (t ≡ true) × (x ≡ Some part)
chosen true x part h = (refl, h)
chosen false x part h = (cc, cc)

old_named : (m n : ℕ) (part : Part) → m ≡ 6861 → pick (eqb n 0) (Some Nt6861) None ≡ Some part → Names m n part
unfolding chip_number enhsel_number
old_named m n part e h =
    let k = chosen (eqb n 0) (Some Nt6861) part h in
    let same : part ≡ Nt6861 = cc k.1 in
    record { chip = rw same (sym e); enhsel = rw same (sym (eqb-true n 0 k.0)) }

new_named : (m n : ℕ) (part : Part) → m ≡ 6862 → pick (ltb n 2) (Some (Nt6862 (eqb n 1))) None ≡ Some part → Names m n part
unfolding chip_number enhsel_number
new_named m n part e h =
    let k = chosen (ltb n 2) (Some (Nt6862 (eqb n 1))) part h in
    let same : part ≡ Nt6862 (eqb n 1) = cc k.1 in
    record { chip = rw same (sym e); enhsel = rw same (num_eqb n (ltb-true n 2 k.0)) }

named_by : (old : Bool) (m n : ℕ) (part : Part) → eqb m 6861 ≡ old
    → pick old (pick (eqb n 0) (Some Nt6861) None) (pick (eqb m 6862) (pick (ltb n 2) (Some (Nt6862 (eqb n 1))) None) None) ≡ Some part → Names m n part
named_by true m n part e h = old_named m n part (eqb-true m 6861 e) h
named_by false m n part e h = let k = chosen (eqb m 6862) _ part h in new_named m n part (eqb-true m 6862 k.0) k.1

named : (m n : ℕ) (part : Part) → part_of m n ≡ Some part → Names m n part
unfolding part_of
named m n part h = named_by (eqb m 6861) m n part refl h

-- what reading has found of twelve numbers
record Found (n : List ℕ) (s : Counters) : Type 0 where
  bits : bits_fit n ≡ true
  names : Names (get_or n 0 0) (get_or n 11 0) s.part
  state : state_of s.part n ≡ s
  well : well_formed s ≡ true

found_state : (part : Part) (n : List ℕ) (s : Counters) → bits_fit n ≡ true → Names (get_or n 0 0) (get_or n 11 0) part → offered_as (state_of part n) ≡ Some s → Found n s
unfolding offered_as state_of
found_state part n s b k h =
    let p = picked (well_formed (state_of part n)) (Some (state_of part n)) s h in
    let same : state_of part n ≡ s = cc p.1 in
    let of_part : part ≡ s.part = ap (λ (x : Counters). x.part) same in
    record { bits = b; names = rw of_part at k; state = rw of_part at same; well = rw same at p.0 }

found_as : (x : Option Part) (n : List ℕ) (s : Counters) → bits_fit n ≡ true → part_of (get_or n 0 0) (get_or n 11 0) ≡ x → read_as x n ≡ Some s → Found n s
unfolding read_as
found_as (Some part) n s b e h = found_state part n s b (named _ _ part e) h
found_as None n s b e h = absurd (let z : ◌≡◌ {A = ℕ} 0 1 = cc in omega arith)

found : (n : List ℕ) (s : Counters) → read n ≡ Some s → Found n s
unfolding read
found n s h =
    let p = picked (bits_fit n) (read_as (part_of (get_or n 0 0) (get_or n 11 0)) n) s h in
    found_as (part_of (get_or n 0 0) (get_or n 11 0)) n s p.0 refl p.1

-- a state that is read is well formed
pub read_well : (n : List ℕ) (s : Counters) → read n ≡ Some s → well_formed s ≡ true
read_well n s h = (found n s h).well

-- twelve numbers are their entries
pub twelve : (n : List ℕ) → length n ≡ 12
    → (get_or n 0 0 ∷ get_or n 1 0 ∷ get_or n 2 0 ∷ get_or n 3 0 ∷ get_or n 4 0 ∷ get_or n 5 0 ∷ get_or n 6 0 ∷ get_or n 7 0 ∷ get_or n 8 0 ∷ get_or n 9 0 ∷ get_or n 10 0 ∷ get_or n 11 0 ∷ []) ≡ n
twelve [] size = absurd (omega arith)
twelve (a ∷ []) size = absurd (omega arith)
twelve (a ∷ b ∷ []) size = absurd (omega arith)
twelve (a ∷ b ∷ c ∷ []) size = absurd (omega arith)
twelve (a ∷ b ∷ c ∷ d ∷ []) size = absurd (omega arith)
twelve (a ∷ b ∷ c ∷ d ∷ e ∷ []) size = absurd (omega arith)
twelve (a ∷ b ∷ c ∷ d ∷ e ∷ f ∷ []) size = absurd (omega arith)
twelve (a ∷ b ∷ c ∷ d ∷ e ∷ f ∷ g ∷ []) size = absurd (omega arith)
twelve (a ∷ b ∷ c ∷ d ∷ e ∷ f ∷ g ∷ h ∷ []) size = absurd (omega arith)
twelve (a ∷ b ∷ c ∷ d ∷ e ∷ f ∷ g ∷ h ∷ i ∷ []) size = absurd (omega arith)
twelve (a ∷ b ∷ c ∷ d ∷ e ∷ f ∷ g ∷ h ∷ i ∷ j ∷ []) size = absurd (omega arith)
twelve (a ∷ b ∷ c ∷ d ∷ e ∷ f ∷ g ∷ h ∷ i ∷ j ∷ k ∷ []) size = absurd (omega arith)
twelve (a ∷ b ∷ c ∷ d ∷ e ∷ f ∷ g ∷ h ∷ i ∷ j ∷ k ∷ l ∷ []) size = refl
twelve (a ∷ b ∷ c ∷ d ∷ e ∷ f ∷ g ∷ h ∷ i ∷ j ∷ k ∷ l ∷ m ∷ rest) size = absurd (omega arith)

-- the entries that the bits are
record Bits (n : List ℕ) : Type 0 where
  hsynci : get_or n 1 0 < 2
  vsynci : get_or n 2 0 < 2
  overflow_h : get_or n 4 0 < 2
  overflow_v : get_or n 6 0 < 2
  hsel : get_or n 10 0 < 2

bits_of : (n : List ℕ) → bits_fit n ≡ true → Bits n
unfolding bits_fit
bits_of n h =
    let four = both _ _ h in
    let three = both _ _ four.0 in
    let two = both _ _ three.0 in
    let one = both _ _ two.0 in
    record {
      hsynci = ltb-true _ _ one.0;
      vsynci = ltb-true _ _ one.1;
      overflow_h = ltb-true _ _ two.1;
      overflow_v = ltb-true _ _ three.1;
      hsel = ltb-true _ _ four.1;
    }

entries : (n : List ℕ) (part : Part) → Bits n → Names (get_or n 0 0) (get_or n 11 0) part → length n ≡ 12 → numbers_of (state_of part n) ≡ n
unfolding numbers_of state_of
entries n part b k h =
    rw (
      k.chip,
      k.enhsel,
      num_eqb (get_or n 1 0) b.hsynci,
      num_eqb (get_or n 2 0) b.vsynci,
      num_eqb (get_or n 4 0) b.overflow_h,
      num_eqb (get_or n 6 0) b.overflow_v,
      num_eqb (get_or n 10 0) b.hsel,
    ) (twelve n h)

pub read_written : (n : List ℕ) (s : Counters) → length n ≡ 12 → read n ≡ Some s → numbers_of s ≡ n
read_written n s l h =
    let f = found n s h in
    ap numbers_of (sym f.state) ∙ entries n s.part (bits_of n f.bits) f.names l

-- ill formed numbers are those of no well formed state
pub ill_formed_none : (n : List ℕ) (s : Counters) → read n ≡ None → well_formed s ≡ true → numbers_of s ≡ n → ⊥
ill_formed_none n s h w e =
    let same : read n ≡ Some s = rw e at (written_read s w) in
    let z : ◌≡◌ {A = ℕ} 0 1 = cc in
    omega arith
