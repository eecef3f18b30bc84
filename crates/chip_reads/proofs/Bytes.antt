-- What a read gives is a byte.
-- Assumes nothing.
use mathlib.Core.Bool.{Bool, true, false}
use Prim.Native.Nat.{ℕ, ◌<◌}
use native.Mathlib.Omega.{arith}
use lib.Bits.{bit_and}
use Rattle.bits.specs.Byte.{pick}
use Rattle.bits.proofs.Mask.{and_lt_byte}
use Rattle.registers.specs.Table.{read_mask, is_readable}
use Rattle.registers.proofs.Rules.{read_mask_lt}
use Rattle.chip.specs.declared.Chip.{Chip}
use Rattle.chip_reads.specs.Reads.{shown, reading_of, reading}

byte_by : (reset readable : Bool) (x mask : ℕ) → mask < 256 → (pick reset (pick readable (reading_of 0 (bit_and x mask)) (reading_of 5 0)) (reading_of 4 0)).byte < 256
byte_by true true x mask h = and_lt_byte x mask h
byte_by true false x mask h = omega arith
byte_by false readable x mask h = omega arith

pub reading_byte_lt : (c : Chip) (a : ℕ) → (reading c a).byte < 256
unfolding reading
reading_byte_lt c a = byte_by c.core.reset (is_readable a) (shown c a) (read_mask a) (read_mask_lt a)
