-- The numbers 1 to 3 are each given when document 01 says so and not otherwise, and what a word decodes to is in range.
use mathlib.Core.Path.{◌≡◌, refl}
use mathlib.Core.Bool.{Bool, true, false, not, ◌&&◌, ◌||◌}
use Prim.Native.Nat.{ℕ, ◌<◌}
use native.Mathlib.Omega.{arith}
use lib.Dec.{eqb, ltb}
use borrow.Author.Tests.{ltb-true, ltb-false, not-false}
use Rattle.bits.specs.Byte.{pick}
use Rattle.bits.proofs.Level.{pick_by}
use Rattle.std.specs.Prelude.{Ok, Err}
use Rattle.events.specs.Decoded.{Decoded}
use Rattle.events.specs.declared.Event.{Event}
use Rattle.events.specs.declared.Event.TheVariants.{Read, Write, Pin, Clock, Polarity}
use Rattle.events.specs.declared.Refusal.TheVariants.{NoEvent, NoPlace, BadByte}
use Rattle.events.specs.Word.{kind, field_a, field_b, event, is_pin, no_event, no_place, bad_byte, decode, number_of, InRange}

number_event : (w : ℕ) → number_of (Ok (event w)) ≡ 0
unfolding event
number_event w =
    let P : Event → Type 0 = λ (e : Event). number_of (Ok e) ≡ 0 in
    pick_by P (eqb (kind w) 1) (λ _. refl)
    (λ _. pick_by P (eqb (kind w) 2) (λ _. refl)
    (λ _. pick_by P (eqb (kind w) 3) (λ _. refl)
    (λ _. pick_by P (eqb (kind w) 4) (λ _. refl) (λ _. refl))))

-- the number of the first of three tests that holds
abbrev first : Bool → Bool → Bool → ℕ
first s t u = pick s 1 (pick t 2 (pick u 3 0))

number_first : (s t u : Bool) (e : Decoded) → number_of e ≡ 0 → number_of (pick s (Err NoEvent) (pick t (Err NoPlace) (pick u (Err BadByte) e))) ≡ first s t u
number_first true t u e h = refl
number_first false true u e h = refl
number_first false false true e h = refl
number_first false false false e h = h

-- when the first test that holds has a number, for each number that there is
first_is : (s t u : Bool) →
    (eqb (first s t u) 1 ≡ s)
    × (eqb (first s t u) 2 ≡ (not s && t))
    × (eqb (first s t u) 3 ≡ (not s && (not t && u)))
    × (eqb (first s t u) 0 ≡ (not s && (not t && not u)))
first_is true t u = (refl, refl, refl, refl)
first_is false true u = (refl, refl, refl, refl)
first_is false false true = (refl, refl, refl, refl)
first_is false false false = (refl, refl, refl, refl)

module _ (w : ℕ) where
  pub number_is : number_of (decode w) ≡ first (no_event w) (no_place w) (bad_byte w)
  unfolding decode
  number_is = number_first (no_event w) (no_place w) (bad_byte w) (Ok (event w)) (number_event w)

  pub refused_1 : eqb (number_of (decode w)) 1 ≡ no_event w
  refused_1 = rw number_is (first_is (no_event w) (no_place w) (bad_byte w)).0

  pub refused_2 : eqb (number_of (decode w)) 2 ≡ (not (no_event w) && no_place w)
  refused_2 = rw number_is (first_is (no_event w) (no_place w) (bad_byte w)).1

  pub refused_3 : eqb (number_of (decode w)) 3 ≡ (not (no_event w) && (not (no_place w) && bad_byte w))
  refused_3 = rw number_is (first_is (no_event w) (no_place w) (bad_byte w)).2

  -- number 0: none of the three applies
  pub accepted : eqb (number_of (decode w)) 0 ≡ (not (no_event w) && (not (no_place w) && not (bad_byte w)))
  accepted = rw number_is (first_is (no_event w) (no_place w) (bad_byte w)).3

-- the event of a kind, over the tests of its kind, where it has a place with this A
in_range_by : (one two three four : Bool) (a b : ℕ) → b < 256 →
    pick one (ltb 0x25 a) (pick two (ltb 0x25 a) (pick three (not (is_pin a)) (pick four (ltb 3 a) (ltb 1 a)))) ≡ false →
    InRange (Ok (pick one (Read a) (pick two (Write a b) (pick three (Pin a (eqb b 1)) (pick four (Clock a) (Polarity (eqb a 1) (eqb b 1)))))))
in_range_by true _ _ _ a b hb h = omega (arith, ltb-false 0x25 a h)
in_range_by false true _ _ a b hb h = (omega (arith, ltb-false 0x25 a h), hb)
in_range_by false false true _ a b hb h = not-false (is_pin a) h
in_range_by false false false true a b hb h = omega (arith, ltb-false 3 a h)
in_range_by false false false false a b hb h = tt

pub decode_in_range : (w : ℕ) → InRange (decode w)
unfolding decode event no_place
decode_in_range w =
    pick_by InRange (no_event w) (λ _. (tt, omega arith, omega arith))
    (λ _. pick_by InRange (no_place w) (λ _. (tt, omega arith, omega arith))
    (λ h. pick_by InRange (bad_byte w) (λ _. (tt, omega arith, omega arith))
    (λ _. in_range_by (eqb (kind w) 1) (eqb (kind w) 2) (eqb (kind w) 3) (eqb (kind w) 4) (field_a w) (field_b w) (omega arith) h)))

pin_by : (low high : Bool) (a : ℕ) → (low ≡ true → a < 29) → (low || (high && ltb a 29)) ≡ true → a < 29
pin_by true high a p h = p refl
pin_by false true a p h = ltb-true a 29 h
pin_by false false a p h = let z : ◌≡◌ {A = ℕ} 0 1 = cc in omega arith

pub pin_lt : (a : ℕ) → is_pin a ≡ true → a < 29
pin_lt a h = pin_by (ltb a 15) (ltb 15 a) a (λ l. omega (arith, ltb-true a 15 l)) h
