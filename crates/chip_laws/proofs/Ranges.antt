-- Numbers of k bits stay so: an or, a write under a mask, a bit that is put.
-- Assumes nothing.
use mathlib.Core.Bool.{Bool, true, false}
use Prim.Native.Nat.{ℕ, ◌-◌, ◌%◌, ◌^◌, ◌<◌}
use native.Mathlib.Omega.{arith}
use lib.Bits.{bit_and, and_le_l, and_le_r, or_lt}
use Rattle.bits.specs.Byte.{pick, merge, with_bit}

pub and_below : (k a b : ℕ) → a < 2 ^ k → bit_and a b < 2 ^ k
and_below k a b h = omega (arith, and_le_l a b)

-- under a mask of k bits
pub merge_below : (k mask old new : ℕ) → mask < 2 ^ k → old < 2 ^ k → merge mask old new < 2 ^ k
unfolding merge
merge_below k mask old new hm ho =
    or_lt k (bit_and old (255 - mask)) (bit_and new mask) (omega (arith, and_le_l old (255 - mask))) (omega (arith, and_le_r new mask))

-- a bit below the k-th
pub with_bit_below : (k x j : ℕ) (v : Bool) → 2 ^ (j % 8) < 2 ^ k → x < 2 ^ k → with_bit x j v < 2 ^ k
unfolding with_bit
with_bit_below k x j true hj hx = or_lt k x (2 ^ (j % 8)) hx hj
with_bit_below k x j false hj hx = and_below k x (255 - 2 ^ (j % 8)) hx

-- either of two
pub pick_below : (t : Bool) (a b n : ℕ) → a < n → b < n → pick t a b < n
pick_below true a b n p q = p
pick_below false a b n p q = q
