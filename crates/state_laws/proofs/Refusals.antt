-- When an area is refused: with 15 exactly where its length is not 128, then with 8 exactly where no well formed state is written as its bytes;
-- both before all others, and the area keeps its bytes.
-- Assumes nothing.
use Prim.Native.Nat.{ℕ}
use mathlib.Core.Path.{◌≡◌, refl, sym, ◌∙◌}
use mathlib.Core.Bool.{Bool, true, false, true≢false}
use mathlib.Core.List.{List}
use native.Mathlib.Omega.{arith}
use lib.Dec.{eqb}
use lib.ListN.{length}
use borrow.Author.Tests.{eq-eqb, ne_eqb, eqb-true}
use Rattle.bits.specs.Byte.{pick}
use Rattle.chip.specs.declared.Chip.{Chip}
use Rattle.chip_well_formed.specs.WellFormed.{well_formed}
use Rattle.state_bytes.specs.Layout.{bytes_of, state_of}
use Rattle.state_area.specs.declared.AreaFault.TheVariants.{WrongLength, IllFormed}
use Rattle.state_area.specs.Area.{accepted, holds, refused, loaded, number_of, number_in, store_number, store_left}
use Rattle.state_area.proofs.Accepted.{accepted_written, exactly}
use Rattle.state_calls.specs.Calls.{holds_state, step_area, step_answer, run_number, run_area, run_places}
use Rattle.state_calls.proofs.Steps.{step_refused, run_refused}
use Rattle.state_laws.specs.Bytes.{WrittenAsNone}

-- ---- the number, by the two tests

number_15 : (a b : Bool) (c : Chip) → number_of (pick a (pick b (holds c) (refused IllFormed)) (refused WrongLength)) ≡ 15 → a ≡ false
number_15 true true c h = absurd (omega (arith, h))
number_15 true false c h = absurd (omega (arith, h))
number_15 false b c h = refl

number_8 : (a b : Bool) (c : Chip) → number_of (pick a (pick b (holds c) (refused IllFormed)) (refused WrongLength)) ≡ 8 → (a ≡ true) × (b ≡ false)
number_8 true true c h = absurd (omega (arith, h))
number_8 true false c h = (refl, refl)
number_8 false b c h = absurd (omega (arith, h))

-- ---- reading an area

pub fifteen : (s : List ℕ) → (length s ≡ 128 → ⊥) → number_in s ≡ 15
unfolding loaded
fifteen s h = rw (ne_eqb (length s) 128 h)

pub only_fifteen : (s : List ℕ) → number_in s ≡ 15 → length s ≡ 128 → ⊥
unfolding loaded
only_fifteen s h l = true≢false (sym (eq-eqb (length s) 128 l) ∙ number_15 (eqb (length s) 128) (accepted s) (state_of s) h)

not_accepted : (s : List ℕ) → WrittenAsNone s → (b : Bool) → accepted s ≡ b → accepted s ≡ false
not_accepted s n true e = absurd (n (state_of s) (accepted_written s e).1 (accepted_written s e).0)
not_accepted s n false e = e

pub eight : (s : List ℕ) → length s ≡ 128 → WrittenAsNone s → number_in s ≡ 8
unfolding loaded
eight s l n = rw (eq-eqb (length s) 128 l, not_accepted s n (accepted s) refl)

pub only_eight : (s : List ℕ) → number_in s ≡ 8 → (length s ≡ 128) × WrittenAsNone s
unfolding loaded
only_eight s h =
    let z = number_8 (eqb (length s) 128) (accepted s) (state_of s) h in
    (eqb-true (length s) 128 z.0, λ c w e. true≢false (sym (exactly s c w e).0 ∙ z.1))

-- ---- the step and the list call on such an area, whatever the words are

refused_by_lem : (s : List ℕ) (n : ℕ) → number_in s ≡ n → eqb n 0 ≡ false → holds_state s ≡ false
refused_by_lem s n h z = rw h z

module _ (s : List ℕ) (h : length s ≡ 128 → ⊥) where
  pub step_fifteen : (w : ℕ) → (step_answer s w ≡ 0x0F000000) × (step_area s w ≡ s)
  step_fifteen w =
      let z = step_refused s (refused_by_lem s 15 (fifteen s h) refl) w in
      (rw (fifteen s h) at z.1, z.0)

  pub run_fifteen : (ws ps : List ℕ) → (run_number s ws ps ≡ 15) × (run_area s ws ps ≡ s) × (run_places s ws ps ≡ ps)
  run_fifteen ws ps =
      let z = run_refused s (refused_by_lem s 15 (fifteen s h) refl) ws ps in
      (z.2 ∙ fifteen s h, z.0, z.1)

module _ (s : List ℕ) (l : length s ≡ 128) (n : WrittenAsNone s) where
  pub step_eight : (w : ℕ) → (step_answer s w ≡ 0x08000000) × (step_area s w ≡ s)
  step_eight w =
      let z = step_refused s (refused_by_lem s 8 (eight s l n) refl) w in
      (rw (eight s l n) at z.1, z.0)

  pub run_eight : (ws ps : List ℕ) → (run_number s ws ps ≡ 8) × (run_area s ws ps ≡ s) × (run_places s ws ps ≡ ps)
  run_eight ws ps =
      let z = run_refused s (refused_by_lem s 8 (eight s l n) refl) ws ps in
      (z.2 ∙ eight s l n, z.0, z.1)

-- ---- writing a state out: 15 for the length of the area, then 8 for an ill formed state

pub store_fifteen : (c : Chip) (s : List ℕ) → (length s ≡ 128 → ⊥) → (store_number c s ≡ 15) × (store_left c s ≡ s)
unfolding store_number store_left
store_fifteen c s h = (rw (ne_eqb (length s) 128 h), rw (ne_eqb (length s) 128 h))

pub store_eight : (c : Chip) (s : List ℕ) → length s ≡ 128 → well_formed c ≡ false → (store_number c s ≡ 8) × (store_left c s ≡ s)
unfolding store_number store_left
store_eight c s l w = (rw (eq-eqb (length s) 128 l, w), rw (eq-eqb (length s) 128 l, w))

pub store_done : (c : Chip) (s : List ℕ) → length s ≡ 128 → well_formed c ≡ true → (store_number c s ≡ 0) × (store_left c s ≡ bytes_of c)
unfolding store_number store_left
store_done c s l w = (rw (eq-eqb (length s) 128 l, w), rw (eq-eqb (length s) 128 l, w))
