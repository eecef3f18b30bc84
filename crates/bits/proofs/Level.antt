-- A choice under its test, and a level as a number and back.
use mathlib.Core.Path.{◌≡◌, refl, sym}
use mathlib.Core.Bool.{Bool, true, false}
use Prim.Native.Nat.{ℕ, ◌<◌}
use native.Mathlib.Omega.{arith}
use lib.Dec.{eqb}
use borrow.Author.Tests.{eqb-true, eqb-false}
use Rattle.bits.specs.Byte.{pick, num}

-- what holds of both outcomes, each under its test, holds of the choice
pub pick_by : {A : Type 0} (P : A → Type 0) (t : Bool) {x y : A} → (t ≡ true → P x) → (t ≡ false → P y) → P (pick t x y)
pick_by P true p q = p refl
pick_by P false p q = q refl

pub eqb_num : (v : Bool) → eqb (num v) 1 ≡ v
eqb_num true = refl
eqb_num false = refl

num_by : (v : Bool) (n : ℕ) → (v ≡ true → n ≡ 1) → (v ≡ false → n ≡ 0) → num v ≡ n
num_by true n p q = sym (p refl)
num_by false n p q = sym (q refl)

pub num_eqb : (n : ℕ) → n < 2 → num (eqb n 1) ≡ n
num_eqb n h = num_by (eqb n 1) n (eqb-true n 1) (λ d. omega (arith, eqb-false n 1 d))
