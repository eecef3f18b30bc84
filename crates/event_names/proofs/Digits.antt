-- Hex digits both ways, over the count of digits.
-- Assumes nothing.
use mathlib.Core.Path.{◌≡◌, refl, sym, ap, ◌∙◌}
use mathlib.Core.Bool.{Bool, false}
use Prim.Native.Nat.{ℕ, zero, suc, ◌+◌, ◌-◌, ◌*◌, ◌/◌, ◌%◌, ◌<◌, ◌≤◌}
use native.Mathlib.Omega.{arith}
use lib.Dec.{eqb, ltb, eqb→eq}
use borrow.Author.Tests.{eqb-true, ltb-true, ltb-false, lt-ltb, le-ltb, ne_eqb}
use Rattle.bits.proofs.Level.{pick_by}
use Rattle.bits.proofs.Finite.{at_each, T_true}
use Rattle.std.specs.Prelude.{Option, Some, None, Result, Ok, Err}
use mathlib.Core.Logic.{⊎_elim}
use Rattle.bits.proofs.Finite.{lt_or_le}
use Rattle.std.specs.Result.{OkIff, result_ok}
use Rattle.std.proofs.lemmas.Result.{OkIff-at_ok, OkIff-at_err}
use Rattle.hex_digits.specs.Hex.{hex_digit}
use Rattle.event_names.specs.Digits.{below, digit_of, hex, joined, unhex}

same_digit : ℕ → Bool
same_digit d = eqb (digit_of (hex_digit d)) d

pub digit_hex : (d : ℕ) → d < 16 → digit_of (hex_digit d) ≡ d
unfolding same_digit digit_of
digit_hex d h = eqb→eq (digit_of (hex_digit d)) d (at_each same_digit 16 tt d h)

pub hex_small : (d : ℕ) → d < 16 → hex_digit d < 256
hex_small d h = pick_by (λ (x : ℕ). x < 256) (ltb d 10) (λ _. omega arith) (λ _. omega arith)

pub hex_some : (d : ℕ) → 47 < hex_digit d
hex_some d = pick_by (λ (x : ℕ). 47 < x) (ltb d 10) (λ _. omega arith) (λ _. omega arith)

low_digit : (c : ℕ) → 48 ≤ c → c < 58 → hex_digit (c - 48) ≡ c
low_digit c a b = rw (lt-ltb (c - 48) 10 (omega arith)) (omega arith)

high_digit : (c : ℕ) → 65 ≤ c → hex_digit (c - 55) ≡ c
high_digit c a = rw (le-ltb (c - 55) 10 (omega arith)) (omega arith)

pub hex_digit_lem : (c : ℕ) → digit_of c < 16 → hex_digit (digit_of c) ≡ c
unfolding digit_of
hex_digit_lem c =
    let P : ℕ → Type 0 = λ (d : ℕ). d < 16 → hex_digit d ≡ c in
    pick_by P (ltb c 48) (λ _ h. absurd (omega arith))
    (λ a. pick_by P (ltb c 58) (λ b _. low_digit c (ltb-false c 48 a) (ltb-true c 58 b))
    (λ _. pick_by P (ltb c 65) (λ _ h. absurd (omega arith))
    (λ d. pick_by P (ltb c 71) (λ _ _. high_digit c (ltb-false c 65 d))
    (λ _ h. absurd (omega arith)))))

-- how many numbers n digits have
abbrev pub room : ℕ → ℕ
room zero = 1
room (suc n) = room n * 16

high_part : (high low : ℕ) → low < 256 → (high * 256 + low) / 256 ≡ high
high_part high low h = omega arith

low_part : (high low : ℕ) → low < 256 → (high * 256 + low) % 256 ≡ low
low_part high low h = omega arith

pub hex_high : (n w : ℕ) → hex (suc n) w / 256 ≡ hex n (w / 16)
unfolding hex
hex_high n w = high_part (hex n (w / 16)) (hex_digit (w % 16)) (hex_small (w % 16) (omega arith))

pub hex_low : (n w : ℕ) → hex (suc n) w % 256 ≡ hex_digit (w % 16)
unfolding hex
hex_low n w = low_part (hex n (w / 16)) (hex_digit (w % 16)) (hex_small (w % 16) (omega arith))

both_parts : (w : ℕ) → w < 4294967296 → joined (w / 16) (w % 16) ≡ w
unfolding joined
both_parts w h = rw (lt-ltb (w / 16) 268435456 (omega arith), lt-ltb (w % 16) 16 (omega arith)) (omega arith)

-- n digits are read as they were written
pub unhex_hex : (n w : ℕ) → w < room n → w < 4294967296 → unhex n (hex n w) ≡ w
unfolding unhex hex
unhex_hex zero w h k = omega arith
unhex_hex (suc n) w h k =
    rw (hex_high n w, hex_low n w, unhex_hex n (w / 16) (omega arith) (omega arith), digit_hex (w % 16) (omega arith)) (both_parts w k)

joined_parts : (x y : ℕ) → joined x y < 4294967296 → (x < 268435456) × (y < 16) × (joined x y ≡ x * 16 + y)
unfolding joined
joined_parts x y =
    let P : ℕ → Type 0 = λ (j : ℕ). j < 4294967296 → (x < 268435456) × (y < 16) × (j ≡ x * 16 + y) in
    pick_by P (ltb x 268435456)
    (λ a. pick_by P (ltb y 16) (λ b _. (ltb-true x 268435456 a, ltb-true y 16 b, refl)) (λ _ h. absurd (omega arith)))
    (λ _ h. absurd (omega arith))

zero_part : (t : ℕ) → unhex 0 t < 4294967296 → 0 ≡ t
unfolding unhex
zero_part t = pick_by (λ (x : ℕ). x < 4294967296 → 0 ≡ t) (eqb t 0) (λ e _. sym (eqb-true t 0 e)) (λ _ h. absurd (omega arith))

zero_read : (t : ℕ) → hex 0 t ≡ 0
unfolding hex
zero_read t = refl

hex_joined : (n x y : ℕ) → y < 16 → hex (suc n) (x * 16 + y) ≡ hex n x * 256 + hex_digit y
unfolding hex
hex_joined n x y h =
    let a : (x * 16 + y) / 16 ≡ x = omega arith in
    let b : (x * 16 + y) % 16 ≡ y = omega arith in
    simp (a, b)

-- and what is read as n digits was written so
pub hex_unhex : (n t : ℕ) → unhex n t < 4294967296 → hex n (unhex n t) ≡ t
unfolding unhex
hex_unhex zero t h = zero_read (unhex 0 t) ∙ zero_part t h
hex_unhex (suc n) t h =
    let x : ℕ = unhex n (t / 256) in
    let y : ℕ = digit_of (t % 256) in
    let parts : (x < 268435456) × (y < 16) × (joined x y ≡ x * 16 + y) = joined_parts x y h in
    ap (hex (suc n)) parts.2
    ∙ hex_joined n x y parts.1
    ∙ rw (hex_unhex n (t / 256) (omega arith), hex_digit_lem (t % 256) parts.1) (omega arith)

-- ---- one digit more, as the recursions of the code meet it

pub unhex_none : (n t : ℕ) → n ≡ 0 → t ≡ 0 → 0 ≡ unhex n t
unfolding unhex
unhex_none n t e f = rw (e, f) refl

pub unhex_left : (n t : ℕ) → n ≡ 0 → (t ≡ 0 → ⊥) → 4294967296 ≡ unhex n t
unfolding unhex
unhex_left n t e f = rw (e, ne_eqb t 0 f) refl

pub unhex_one : (n t : ℕ) → (n ≡ 0 → ⊥) → joined (unhex (n - 1) (t / 256)) (digit_of (t % 256)) ≡ unhex n t
unfolding unhex
unhex_one zero t f = absurd (f refl)
unhex_one (suc n) t f = let e : suc n - 1 ≡ n = omega arith in rw e refl

pub hex_none : (n w : ℕ) → n ≡ 0 → 0 ≡ hex n w
unfolding hex
hex_none n w e = rw e refl

pub hex_one : (n w : ℕ) → (n ≡ 0 → ⊥) → hex (n - 1) (w / 16) * 256 + hex_digit (w % 16) ≡ hex n w
unfolding hex
hex_one zero w f = absurd (f refl)
hex_one (suc n) w f = let e : suc n - 1 ≡ n = omega arith in rw e refl

-- how many tokens of n bytes there are
abbrev pub tokens_of : ℕ → ℕ
tokens_of zero = 1
tokens_of (suc n) = tokens_of n * 256

pub hex_below : (n w : ℕ) → hex n w < tokens_of n
unfolding hex
hex_below zero w = omega arith
hex_below (suc n) w = omega (arith, hex_below n (w / 16), hex_small (w % 16) (omega arith))

pub hex_positive : (n w : ℕ) → 0 < hex (suc n) w
unfolding hex
hex_positive n w = omega (arith, hex_some (w % 16))

few : ℕ → Bool
few n = ltb (tokens_of n) 72057594037927937

-- seven digits leave a byte free
pub hex_fits : (n w : ℕ) → n < 8 → hex n w < 72057594037927936
unfolding few
hex_fits n w h = omega (arith, hex_below n w, ltb-true (tokens_of n) 72057594037927937 (T_true (few n) (at_each few 8 tt n h)))

-- ---- as the code meets them, with an option for a number that is none

ltb-not : (x l : ℕ) → (x < l → ⊥) → ltb x l ≡ false
ltb-not x l f = ⊎_elim (λ (h : x < l). absurd (f h)) (λ (h : l ≤ x). le-ltb x l h) (lt_or_le x l)

-- a number that is tried as a smaller type
pub fitting : {E : Type 0} (l x : ℕ) (r : Result ℕ E) → OkIff r (x < l) x → result_ok r ≡ below l x
fitting {E} l x (Ok y) h = let p : (x < l) × (y ≡ x) = OkIff-at_ok {E = E} (Ok y) (x < l) x y h refl in rw (p.1, lt-ltb x l p.0) refl
fitting {E} l x (Err e) h = rw (ltb-not x l (OkIff-at_err {E = E} (Err e) (x < l) x e h refl)) refl

pub some_below : (l x n : ℕ) → Some x ≡ below l n → (n < l) × (x ≡ n)
some_below l x n = pick_by (λ (o : Option ℕ). Some x ≡ o → (n < l) × (x ≡ n)) (ltb n l) (λ t e. (ltb-true n l t, cc)) (λ _ e. absurd (let z : ◌≡◌ {A = ℕ} 0 1 = cc in omega arith))

pub none_below : (l n : ℕ) → None ≡ below l n → l ≤ n
none_below l n = pick_by (λ (o : Option ℕ). None ≡ o → l ≤ n) (ltb n l) (λ _ e. absurd (let z : ◌≡◌ {A = ℕ} 0 1 = cc in omega arith)) (λ t _. ltb-false n l t)

above : (l n : ℕ) → l ≤ n → None ≡ below l n
above l n h = rw (le-ltb n l h) refl

joined_high : (x y : ℕ) → 268435456 ≤ x → 4294967296 ≤ joined x y
unfolding joined
joined_high x y h = rw (le-ltb x 268435456 h) (omega arith)

joined_low : (x y : ℕ) → 16 ≤ y → 4294967296 ≤ joined x y
unfolding joined
joined_low x y h = pick_by (λ (j : ℕ). 4294967296 ≤ j) (ltb x 268435456) (λ _. rw (le-ltb y 16 h) (omega arith)) (λ _. omega arith)

-- the digits before the last one are none
pub unhex_high : (n t : ℕ) → (n ≡ 0 → ⊥) → None ≡ below 4294967296 (unhex (n - 1) (t / 256)) → None ≡ below 4294967296 (unhex n t)
unhex_high n t f e = above _ _ (rw (unhex_one n t f) at (joined_high (unhex (n - 1) (t / 256)) (digit_of (t % 256)) (omega (arith, none_below _ _ e))))

-- the last digit is none
pub unhex_low : (n t : ℕ) → (n ≡ 0 → ⊥) → None ≡ below 16 (digit_of (t % 256)) → None ≡ below 4294967296 (unhex n t)
unhex_low n t f e = above _ _ (rw (unhex_one n t f) at (joined_low (unhex (n - 1) (t / 256)) (digit_of (t % 256)) (none_below _ _ e)))

pub unhex_both : (n t x y : ℕ) (r : Option ℕ) → (n ≡ 0 → ⊥) → Some x ≡ below 4294967296 (unhex (n - 1) (t / 256)) → Some y ≡ below 16 (digit_of (t % 256))
    → r ≡ below 4294967296 (joined x y) → r ≡ below 4294967296 (unhex n t)
unhex_both n t x y r f a b e =
    rw ((some_below _ _ _ a).1, (some_below _ _ _ b).1, unhex_one n t f) at e

pub digit_small : (c y : ℕ) → Some y ≡ below 16 (digit_of c) → y < 16
digit_small c y e = let p = some_below _ _ _ e in omega arith
