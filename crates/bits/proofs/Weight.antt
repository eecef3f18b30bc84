-- The weight of a bit of a byte, 2 ^ k, fits a byte.
-- Assumes nothing.
use mathlib.Core.Path.{◌≡◌, ◌∙◌}
use Prim.Native.Nat.{ℕ, ◌*◌, ◌%◌, ◌^◌, ◌<◌}
use native.Mathlib.Omega.{arith}
use lib.Dec.{lit<}
use lib.Pow.{shl_exact, pow-lt}

-- bit k of a byte has the weight 1 shifted left by k, which loses nothing
pub weight_byte : (k : ℕ) → 1 * 2 ^ (k % 8) % 256 ≡ 2 ^ (k % 8)
weight_byte k = shl_exact {a = 1} 1 (k % 8) 8 (lit< tt) (omega arith) ∙ omega arith

-- and is a byte
pub weight_lt : (k : ℕ) → k < 8 → 2 ^ k < 256
weight_lt k h = pow-lt {i = k} {j = 8} h
