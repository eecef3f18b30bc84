-- Quotients and products of doubles, by the fractions that they equal.
use mathlib.Core.Path.{◌≡◌, sym, ap, ◌∙◌, subst}
use mathlib.Core.Bool.{Bool, true, false, not}
use Prim.Native.Nat.{ℕ, ◌+◌, ◌*◌, ◌^◌, ◌≤◌, ◌<◌}
use native.Mathlib.Nat.{le_trans, lt_of_lt_of_le, ne_of_gt, mul-one, one-mul, mul_comm, mul_assoc, mul-pos, mul-mul-mul_comm}
use native.Mathlib.Omega.{arith}
use lib.Dec.{T, eqb, ltb→lt, lit<, lit≤}
use lib.IntN.{pos}
use lib.Pow.{pow-add, pow_pos, pow_mono, shl_lt}
use lib.Ieee.{Float, nan, inf, fin, binary64, round, div, mul, of_int}
use lib.Ieee.Exact.{HasValue, round_exact}
use lib.Ieee.Back.{round_whole}
use lib.Ieee.Bits.{cond_no}
use borrow.Author.Tests.{ne_eqb}
use lib.Ieee.Scale.{round_same}
use lib.Ieee.Positive.{num, den, positive, den_pos, value→cross, own_value, value_pos, positive_of_value, mul_at}

num_pos : (x : Float) → T (positive x) → 0 < num x
num_pos x p = value_pos x (num x) (den x) p (den_pos x) (own_value x p)

div_is : (x y : Float) → T (positive x) → T (positive y) → div binary64 x y ≡ round binary64 false (num x * den y) (num y * den x)
unfolding div
div_is nan y p q = absurd p
div_is (inf s) y p q = absurd p
div_is (fin true m e) y p q = absurd p
div_is (fin false m e) nan p q = absurd q
div_is (fin false m e) (inf t) p q = absurd q
div_is (fin false m e) (fin true n d) p q = absurd q
div_is (fin false m e) (fin false n d) p q = cond_no (eqb n 0) _ _ (subst (λ (t : Bool). T (not t)) (sym (ne_eqb n 0 (ne_of_gt (ltb→lt 0 n q)))) tt)

-- a / c divided by b / d, rounded once
pub div_at : (x y : Float) (a c b d : ℕ) → T (positive x) → T (positive y) → 0 < b → 0 < c → HasValue x false a c → HasValue y false b d → div binary64 x y ≡ round binary64 false (a * d) (b * c)
div_at x y a c b d p q B C h k =
    div_is x y p q
    ∙ round_same binary64 false (num x * den y) (num y * den x) (a * d) (b * c) (mul-pos (num_pos y q) (den_pos x)) (mul-pos B C)
    (ap (λ (z : ℕ). num x * den y * z) (mul_comm b c)
    ∙ mul-mul-mul_comm (num x) (den y) c b
    ∙ ap (λ (z : ℕ). z * (den y * b)) (value→cross x a c h)
    ∙ ap (λ (z : ℕ). a * den x * z) (mul_comm (den y) b ∙ sym (value→cross y b d k) ∙ mul_comm (num y) d)
    ∙ mul-mul-mul_comm a (den x) d (num y)
    ∙ ap (λ (z : ℕ). a * d * z) (mul_comm (den x) (num y)))

-- a number of 16 bits as a double is that number
pub whole_exact : (n : ℕ) → n ≤ 65535 → HasValue (of_int binary64 (pos n)) false n 1
unfolding of_int
whole_exact n h = round_whole binary64 false n (le_trans h (lit≤ tt))

-- the double k, a whole number, divided by the latch n
pub div_whole : (x : Float) (k n : ℕ) → HasValue x false k 1 → 0 < k → 0 < n → n ≤ 65535 → div binary64 x (of_int binary64 (pos n)) ≡ round binary64 false k n
div_whole x k n h K N s =
    let y = of_int binary64 (pos n) in
    div_at x y k 1 n 1 (positive_of_value x k 1 h K) (positive_of_value y n 1 (whole_exact n s) N) N (lit< tt) h (whole_exact n s)
    ∙ ap (λ (z : ℕ). round binary64 false z (n * 1)) (mul-one k)
    ∙ ap (λ (z : ℕ). round binary64 false k z) (mul-one n)

-- the latch n times the double a / 2 ^ t: that fraction, rounded once
pub mul_whole : (x : Float) (a t n : ℕ) → HasValue x false a (2 ^ t) → 0 < a → 0 < n → n ≤ 65535 → mul binary64 (of_int binary64 (pos n)) x ≡ round binary64 false (n * a) (2 ^ t)
mul_whole x a t n h A N s =
    let y = of_int binary64 (pos n) in
    mul_at binary64 y x n 1 a (2 ^ t) (positive_of_value y n 1 (whole_exact n s) N) (positive_of_value x a (2 ^ t) h A) (lit< tt) (pow_pos t) (whole_exact n s) h
    ∙ ap (λ (z : ℕ). round binary64 false (n * a) z) (one-mul (2 ^ t))

-- q / 2 ^ t, for a q below 2 ^ 53, is a double
pub dyadic_exact : (q t j : ℕ) → j + t ≡ 1074 → q < 2 ^ 53 → HasValue (round binary64 false q (2 ^ t)) false q (2 ^ t)
dyadic_exact q t j e small =
    let k : 53 + j ≤ 1074 + 1024 = omega arith in
    round_exact binary64 false q (2 ^ t) q j (pow_pos t) small (lt_of_lt_of_le (shl_lt 53 j small) (pow_mono k))
    (ap (λ (z : ℕ). q * 2 ^ z) (sym e) ∙ ap (λ (z : ℕ). q * z) (pow-add 2 j t) ∙ sym (mul_assoc q (2 ^ j) (2 ^ t)))

-- the latch n times the double a / 2 ^ t is their product, where that is below 2 ^ 53
pub mul_whole_exact : (x : Float) (a t n j : ℕ) → HasValue x false a (2 ^ t) → 0 < a → 0 < n → n ≤ 65535 → j + t ≡ 1074 → n * a < 2 ^ 53 → HasValue (mul binary64 (of_int binary64 (pos n)) x) false (n * a) (2 ^ t)
mul_whole_exact x a t n j h A N s e small = rw (mul_whole x a t n h A N s) (dyadic_exact (n * a) t j e small)
