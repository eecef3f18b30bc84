-- The two bits of the mode after a write are those written: MD1/2 of MDCON, and ENDDC of II STS.
-- Assumes nothing.
use mathlib.Core.Path.{◌≡◌, refl}
use mathlib.Core.Bool.{Bool, true, false, ◌&&◌, ◌||◌}
use Prim.Native.Nat.{ℕ}
use native.Mathlib.Omega.{arith}
use lib.Bits.{bit_or}
use Rattle.bits.specs.Byte.{bit}
use Rattle.bits.proofs.Bitwise.{bit_or_lem, bit_and_lem, bit_merge}
use Rattle.registers.specs.Names.{MDCON, IISTS}
use Rattle.registers.specs.Table.{table, row_of, write_mask, updated}
use Rattle.chip_ddc_writes.specs.DdcWrites.{status_written}

pub md_written : (old b : ℕ) → bit 0 (updated MDCON old b) ≡ bit 0 b
unfolding write_mask row_of table bit
md_written old b = bit_merge 0 0x0f old b (omega arith) (omega arith)

enddc_merged : (old b : ℕ) → bit 3 (updated IISTS old b) ≡ bit 3 b
unfolding write_mask row_of table bit
enddc_merged old b = bit_merge 3 0x0d old b (omega arith) (omega arith)

enddc_mask : bit 3 0xcf ≡ true
unfolding bit
enddc_mask = refl

and_or : (x : Bool) → (x && (x || true)) ≡ x
and_or true = refl
and_or false = refl

pub enddc_written : (old b : ℕ) → bit 3 (status_written old b) ≡ bit 3 b
unfolding status_written
enddc_written old b = rw (bit_and_lem 3 (updated IISTS old b) (bit_or b 0xcf), enddc_merged old b, bit_or_lem 3 b 0xcf, enddc_mask) (and_or (bit 3 b))
