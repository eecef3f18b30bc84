-- What a write under a mask keeps and what it takes, over the mask; and that bytes stay bytes.
-- Assumes nothing.
use mathlib.Core.Path.{◌≡◌}
use mathlib.Core.Bool.{Bool, true, false}
use Prim.Native.Nat.{ℕ, ◌-◌, ◌<◌}
use native.Mathlib.Omega.{arith}
use lib.Dec.{eqb, eqb→eq}
use lib.Bits.{bit_and, bit_or, and_self, and_zero_r, or_zero_r, or_zero_l, and_le_r}
use Rattle.bits.specs.Byte.{num, merge}
use Rattle.bits.proofs.Finite.{at_each}
use Rattle.bits.proofs.Distrib.{and_or, and_assoc}

-- ---- the mask and its complement

pub complement_and : (mask : ℕ) → mask < 256 → bit_and (255 - mask) mask ≡ 0
complement_and mask h = eqb→eq _ _ (at_each (λ m. eqb (bit_and (255 - m) m) 0) 256 tt mask h)

-- ---- a write under a mask, seen through a second mask

-- what the second mask shows of it is what it shows of either side
pub merge_and : (mask shown old new : ℕ) → bit_and (merge mask old new) shown ≡ bit_or (bit_and old (bit_and (255 - mask) shown)) (bit_and new (bit_and mask shown))
unfolding merge
merge_and mask shown old new = rw (and_or, and_assoc old (255 - mask) shown, and_assoc new mask shown)

-- bits apart from the mask stay
pub merge_keeps : (mask kept old new : ℕ) → bit_and (255 - mask) kept ≡ kept → bit_and mask kept ≡ 0 → bit_and (merge mask old new) kept ≡ bit_and old kept
merge_keeps mask kept old new p q = rw (merge_and, p, q, and_zero_r) (or_zero_r (bit_and old kept))

-- bits of the mask are taken
pub merge_takes : (mask taken old new : ℕ) → bit_and (255 - mask) taken ≡ 0 → bit_and mask taken ≡ taken → bit_and (merge mask old new) taken ≡ bit_and new taken
merge_takes mask taken old new p q = rw (merge_and, p, q, and_zero_r) (or_zero_l (bit_and new taken))

-- all bits of the mask are taken
pub merge_mask : (mask old new : ℕ) → mask < 256 → bit_and (merge mask old new) mask ≡ bit_and new mask
merge_mask mask old new h = merge_takes mask mask old new (complement_and mask h) (and_self mask)

-- ---- bytes stay bytes

pub and_lt_byte : (x mask : ℕ) → mask < 256 → bit_and x mask < 256
and_lt_byte x mask h = omega (arith, and_le_r x mask)

pub num_lt : (v : Bool) → num v < 2
num_lt true = omega arith
num_lt false = omega arith
