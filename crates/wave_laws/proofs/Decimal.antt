-- A number that is printed and read is the number.
-- Assumes nothing.
use Rattle.std.specs.Prelude.{Ok}
use Rattle.vcd_text.specs.Token.{Number}
use mathlib.Core.Bool.{Bool, true, false}
use mathlib.Core.Path.{◌≡◌, refl, sym, ap, ◌∙◌}
use mathlib.Core.List.{List, [], ◌∷◌, ◌++◌}
use Prim.Native.Nat.{ℕ, zero, suc, ◌+◌, ◌-◌, ◌*◌, ◌/◌, ◌%◌, ◌<◌, ◌≤◌}
use native.Mathlib.Omega.{arith}
use lib.ListN.{length, length-append}
use lib.Dec.{ltb}
use borrow.Author.Tests.{lt-ltb, le-ltb, ltb-true, ltb-false}
use Rattle.bits.specs.Byte.{pick}
use Rattle.vcd_text.specs.Token.{number_of, grown_by, longer_by, digits_from, decimal_of}
use Rattle.vcd_text.proofs.Laws.{decimal_some}
use Rattle.wave_write.specs.Decimal.{decimal_to, decimal}

digits_append : (xs ys : List ℕ) (n : Number) → digits_from n (xs ++ ys) ≡ digits_from (digits_from n xs) ys
unfolding digits_from
digits_append [] ys n = refl
digits_append (x ∷ xs) ys n = digits_append xs ys (longer_by n x)

-- a digit more
digit_step : (m d : ℕ) → d < 10 → m * 10 + d < 18446744073709551616 → longer_by (Ok m) (48 + d) ≡ Ok (m * 10 + d)
unfolding longer_by grown_by number_of
digit_step m d h k =
    let z : 48 + d - 48 ≡ d = omega arith in
    simp (le-ltb (48 + d) 48 (omega arith), lt-ltb (48 + d) 58 (omega arith), z, lt-ltb (m * 10 + d) 18446744073709551616 k)

last_digit : (m n : ℕ) → m ≡ n / 10 → n < 18446744073709551616 → longer_by (Ok m) (48 + n % 10) ≡ Ok n
last_digit m n e h =
    let z : m * 10 + n % 10 ≡ n = omega arith in
    digit_step m (n % 10) (omega arith) (omega arith) ∙ ap Ok z

-- the numbers of k + 1 digits at most
ceiling : ℕ → ℕ
ceiling zero = 10
ceiling (suc k) = ceiling k * 10

first_digit : (n : ℕ) → n < 10 → digits_from (Ok 0) ((48 + n % 10) ∷ []) ≡ Ok n
unfolding digits_from
first_digit n h = last_digit 0 n (omega arith) (omega arith)

more_digits : (k n : ℕ) (b : Bool) → ltb n 10 ≡ b → n < 18446744073709551616 → digits_from (Ok 0) (decimal_to k (n / 10)) ≡ Ok (n / 10)
    → digits_from (Ok 0) (pick b ((48 + n % 10) ∷ []) (decimal_to k (n / 10) ++ ((48 + n % 10) ∷ []))) ≡ Ok n
unfolding digits_from
more_digits k n true e h ih = first_digit n (ltb-true n 10 e)
more_digits k n false e h ih =
    digits_append (decimal_to k (n / 10)) ((48 + n % 10) ∷ []) (Ok 0) ∙ rw ih (last_digit (n / 10) n refl h)

digits_read : (k n : ℕ) → n < ceiling k → n < 18446744073709551616 → digits_from (Ok 0) (decimal_to k n) ≡ Ok n
unfolding decimal_to ceiling
digits_read zero n h l = first_digit n h
digits_read (suc k) n h l = more_digits k n (ltb n 10) refl l (digits_read k (n / 10) (omega arith) (omega arith))

some_digit : (b : Bool) (d : ℕ) (ds : List ℕ) → length (pick b (d ∷ []) (ds ++ (d ∷ []))) ≡ 0 → ⊥
some_digit true d ds e = omega arith
some_digit false d ds e = omega (arith, simp length-append at e)

decimal_solid : (n : ℕ) → length (decimal n) ≡ 0 → ⊥
unfolding decimal_to
decimal_solid n e = some_digit (ltb n 10) (48 + n % 10) (decimal_to 18 (n / 10)) e

pub decimal_read : (n : ℕ) → n < 18446744073709551616 → decimal_of (decimal n) ≡ Ok n
unfolding ceiling
decimal_read n h = sym (decimal_some (decimal n) (decimal_solid n)) ∙ digits_read 19 n (omega arith) h
