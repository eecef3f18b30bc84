-- A bit of an or, of an and, of a complement, of a write under a mask, and of a byte with one bit put.
-- Assumes nothing.
use mathlib.Core.Path.{◌≡◌, refl, ap, ◌∙◌}
use mathlib.Core.Bool.{Bool, true, false, not, ◌&&◌, ◌||◌, beq}
use Prim.Native.Nat.{ℕ, ◌-◌, ◌/◌, ◌%◌, ◌^◌, ◌<◌}
use native.Mathlib.Omega.{arith}
use lib.Dec.{T, eqb}
use lib.Bits.{bit_and, bit_or, or_shr, or_mod, and_shr, and_mod}
use Rattle.bits.specs.Byte.{pick, bit, merge, with_bit}
use Rattle.bits.specs.Finite.{all_below}
use Rattle.bits.proofs.Finite.{at_each_pair, beq_eq}
use Rattle.bits.proofs.Weight.{weight_lt}

-- ---- all numbers, all bits

-- a law of two digits, from its four cases
digits : (f : ℕ → ℕ → Bool) → T (all_below (λ u. all_below (f u) 2) 2) → (a b : ℕ) → T (f (a % 2) (b % 2))
digits f t a b = at_each_pair f 2 2 t (a % 2) (b % 2) (omega arith) (omega arith)

pub bit_or_lem : (k a b : ℕ) → bit k (bit_or a b) ≡ (bit k a || bit k b)
unfolding bit
bit_or_lem k a b =
    ap (λ (n : ℕ). eqb (n % 2) 1) (or_shr a b k) ∙ ap (λ (n : ℕ). eqb n 1) (or_mod (a / 2 ^ k) (b / 2 ^ k) 1)
    ∙ beq_eq _ _ (digits (λ u v. beq (eqb (bit_or u v) 1) (eqb u 1 || eqb v 1)) tt (a / 2 ^ k) (b / 2 ^ k))

pub bit_and_lem : (k a b : ℕ) → bit k (bit_and a b) ≡ (bit k a && bit k b)
unfolding bit
bit_and_lem k a b =
    ap (λ (n : ℕ). eqb (n % 2) 1) (and_shr a b k) ∙ ap (λ (n : ℕ). eqb n 1) (and_mod (a / 2 ^ k) (b / 2 ^ k) 1)
    ∙ beq_eq _ _ (digits (λ u v. beq (eqb (bit_and u v) 1) (eqb u 1 && eqb v 1)) tt (a / 2 ^ k) (b / 2 ^ k))

-- ---- bytes: laws computed at each byte and bit

pub bit_not : (k m : ℕ) → k < 8 → m < 256 → bit k (255 - m) ≡ not (bit k m)
unfolding bit
bit_not k m hk hm = beq_eq _ _ (at_each_pair (λ k m. beq (bit k (255 - m)) (not (bit k m))) 8 256 tt k m hk hm)

-- the weight of bit k has bit k alone
pub bit_of_weight : (j k : ℕ) → j < 8 → k < 8 → bit j (2 ^ k) ≡ eqb j k
unfolding bit
bit_of_weight j k hj hk = beq_eq _ _ (at_each_pair (λ j k. beq (bit j (2 ^ k)) (eqb j k)) 8 8 tt j k hj hk)

merged : (m n o : Bool) → ((o && not m) || (n && m)) ≡ pick m n o
merged true true true = refl
merged true true false = refl
merged true false true = refl
merged true false false = refl
merged false true true = refl
merged false true false = refl
merged false false true = refl
merged false false false = refl

-- a write under a mask, bit by bit
pub bit_merge : (k mask old new : ℕ) → k < 8 → mask < 256 → bit k (merge mask old new) ≡ pick (bit k mask) (bit k new) (bit k old)
unfolding merge
bit_merge k mask old new hk hm =
    rw (bit_or_lem, bit_and_lem k old (255 - mask), bit_and_lem k new mask, bit_not k mask hk hm) (merged (bit k mask) (bit k new) (bit k old))

put : (v p x : Bool) → pick v (x || p) (x && not p) ≡ pick p v x
put true true true = refl
put true true false = refl
put true false true = refl
put true false false = refl
put false true true = refl
put false true false = refl
put false false true = refl
put false false false = refl

bit_pick : (j : ℕ) (v : Bool) (a b : ℕ) → bit j (pick v a b) ≡ pick v (bit j a) (bit j b)
bit_pick j true a b = refl
bit_pick j false a b = refl

-- a byte with bit k put to v: v at bit k, as before elsewhere
pub bit_with_bit : (j k x : ℕ) (v : Bool) → j < 8 → k < 8 → bit j (with_bit x k v) ≡ pick (eqb j k) v (bit j x)
unfolding with_bit
bit_with_bit j k x v hj hk =
    let e : k % 8 ≡ k = omega arith in
    rw (e, bit_pick, bit_or_lem, bit_and_lem, bit_not j (2 ^ k) hj (weight_lt k hk), bit_of_weight j k hj hk) (put v (eqb j k) (bit j x))
