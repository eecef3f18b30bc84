-- A law of small numbers, from a test that antt computes at each of them.
-- Assumes nothing.
use mathlib.Core.Path.{◌≡◌, refl}
use mathlib.Core.Bool.{Bool, true, false, ◌&&◌, ◌||◌, beq, and-false}
use mathlib.Core.Logic.{◌⊎◌, inl, inr, ⊎_elim}
use Prim.Native.Nat.{ℕ, zero, suc, ◌+◌, ◌-◌, ◌<◌, ◌≤◌}
use native.Mathlib.Nat.{not-suc-le-zero, le_of_suc-le-suc, eq-or-lt_of_le, eq-zero-or-pos}
use native.Mathlib.Omega.{arith}
use native.Mathlib.Numerals.{add-one}
use lib.Dec.{T}
use Rattle.bits.specs.Finite.{all_below}

-- ---- a test of two Bools, of their equality

pub and_left : (a b : Bool) → T (a && b) → T a
and_left true b t = tt
and_left false b t = t

pub and_right : (a b : Bool) → T (a && b) → T b
and_right true b t = t
and_right false b t = absurd t

-- both sides of an and that is true
pub both : (a b : Bool) → (a && b) ≡ true → (a ≡ true) × (b ≡ true)
both true b h = (refl, h)
both false b h = (h, cc)

-- both sides of an or that is false
pub neither : (a b : Bool) → (a || b) ≡ false → (a ≡ false) × (b ≡ false)
neither true b h = (h, cc)
neither false b h = (refl, h)

-- where one side of an or is false, the other holds
pub or_right : (a b : Bool) → a ≡ false → T (a || b) → T b
or_right a b e t = rw e at t

pub T_true : (b : Bool) → T b → b ≡ true
T_true true t = refl
T_true false t = absurd t

pub true_T : (b : Bool) → b ≡ true → T b
true_T b e = rw e tt

pub beq_eq : (a b : Bool) → T (beq a b) → a ≡ b
beq_eq true true t = refl
beq_eq true false t = absurd t
beq_eq false true t = absurd t
beq_eq false false t = refl

-- ---- at each number below n

-- a number is below n or not
pub lt_or_le : (i n : ℕ) → (i < n) ⊎ (n ≤ i)
lt_or_le i n = ⊎_elim (λ (e : n - i ≡ 0). inr (omega arith)) (λ (h : 0 < n - i). inl (omega arith)) (eq-zero-or-pos (n - i))

pub at_each : (f : ℕ → Bool) (n : ℕ) → T (all_below f n) → (i : ℕ) → i < n → T (f i)
at_each f zero t i h = absurd (not-suc-le-zero h)
at_each f (suc n) t i h =
    ⊎_elim
    (λ (p : i ≡ n). rw p (and_left (f n) (all_below f n) t))
    (λ (p : i < n). at_each f n (and_right (f n) (all_below f n) t) i p)
    (eq-or-lt_of_le (le_of_suc-le-suc h))

pub at_each_pair : (f : ℕ → ℕ → Bool) (m n : ℕ) → T (all_below (λ i. all_below (f i) n) m) → (i j : ℕ) → i < m → j < n → T (f i j)
at_each_pair f m n t i j hi hj = at_each (f i) n (at_each (λ i. all_below (f i) n) m t i hi) j hj

-- what holds at each number below n passes the test
pub all_true : (f : ℕ → Bool) (n : ℕ) → ((i : ℕ) → i < n → f i ≡ true) → all_below f n ≡ true
all_true f zero h = refl
all_true f (suc n) h = rw (h n (omega arith), all_true f n (λ i p. h i (omega arith)))

-- one number more, as a loop counts
pub all_more : (f : ℕ → Bool) (n : ℕ) → all_below f n ≡ true → f n ≡ true → all_below f (n + 1) ≡ true
all_more f n a e = rw (add-one, e) a

-- a number at which it fails
pub all_false : (f : ℕ → Bool) (n i : ℕ) → i < n → f i ≡ false → all_below f n ≡ false
all_false f zero i h e = absurd (not-suc-le-zero h)
all_false f (suc n) i h e =
    ⊎_elim
    (λ (p : i ≡ n). rw (← p, e))
    (λ (p : i < n). rw (all_false f n i p e) (and-false (f n)))
    (eq-or-lt_of_le (le_of_suc-le-suc h))
