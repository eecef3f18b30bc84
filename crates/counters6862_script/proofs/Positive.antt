-- What is above another number is a number.
-- Assumes nothing.
use Prim.Native.Nat.{ℕ}
use mathlib.Core.Path.{◌≡◌}
use mathlib.Core.Bool.{true, not}
use native.Mathlib.Omega.{arith}
use lib.Dec.{T}
use lib.Ieee.{Float, nan, inf, fin, lt, is_nan}

-- nothing is below a NaN
below_nan : (y : Float) → lt y nan ≡ true → ⊥
unfolding lt
below_nan nan h = let z : ◌≡◌ {A = ℕ} 0 1 = cc in omega arith
below_nan (inf s) h = let z : ◌≡◌ {A = ℕ} 0 1 = cc in omega arith
below_nan (fin s m e) h = let z : ◌≡◌ {A = ℕ} 0 1 = cc in omega arith

pub above_number : (y x : Float) → lt y x ≡ true → T (not (is_nan x))
unfolding is_nan
above_number y nan h = absurd (below_nan y h)
above_number y (inf s) h = tt
above_number y (fin s m e) h = tt
