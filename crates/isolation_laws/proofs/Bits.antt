-- Address bits of II ADR, and the levels of a trace as the chip gathers them.
use Prim.Native.Nat.{ℕ, ◌+◌, ◌*◌, ◌%◌, ◌/◌, ◌^◌, ◌<◌}
use mathlib.Core.Path.{◌≡◌, ap, ◌∙◌}
use mathlib.Core.List.{List, [], ◌∷◌}
use mathlib.Core.Bool.{Bool, true}
use native.Mathlib.Omega.{arith}
use native.Mathlib.Nat.{mod-eq_of_lt, pow-suc}
use lib.Pow.{pow_mono}
use lib.ListN.{length}
use lib.Dec.{ltb}
use borrow.Author.Tests.{ltb-true}
use lib.Bits.{bit_and, bit_or, or_shr, and_shr, and_mask, and_zero_r, or_zero_l}
use Rattle.bits.specs.Byte.{num, merge}
use Rattle.bits.proofs.Mask.{num_lt}
use Rattle.registers.specs.Names.{IIADR}
use Rattle.registers.specs.Table.{table, row_of, write_mask}
use Rattle.bus_ddc2b.specs.Ddc2b.{address_bits, gathered}
use Rattle.registers.specs.Table.{updated}
use Rattle.isolation_laws.specs.Foreign.{byte_of}

-- ---- registers

-- a write to II ADR replaces bits 7..1, whatever was there
merge_address : (old b : ℕ) → address_bits (merge 254 old b) ≡ address_bits b
unfolding merge
merge_address old b =
    ap (λ (n : ℕ). n % 128) (or_shr (bit_and old 1) (bit_and b 254) 1)
    ∙ ap (λ (n : ℕ). bit_or n (bit_and b 254 / 2) % 128) (and_shr old 1 1 ∙ and_zero_r (old / 2))
    ∙ ap (λ (n : ℕ). n % 128) (or_zero_l (bit_and b 254 / 2) ∙ and_shr b 254 1 ∙ and_mask (b / 2) 7)
    ∙ omega arith

pub address_written : (old b : ℕ) → address_bits (updated IIADR old b) ≡ address_bits b
unfolding write_mask row_of table
address_written old b = merge_address old b

-- ---- levels

pub byte_lt : (levels : List Bool) → byte_of levels < 2 ^ length levels
byte_lt [] = omega arith
byte_lt (level ∷ levels) = omega (arith, byte_lt levels, num_lt level, pow-suc 2 (length levels))

-- the chip gathers what the observer does
pub gathered_level : (levels : List Bool) (level : Bool) → ltb (length levels) 8 ≡ true → gathered (byte_of levels) level ≡ byte_of (level ∷ levels)
unfolding gathered
gathered_level levels level h = ap (λ (n : ℕ). n * 2 + num level) (mod-eq_of_lt (omega (arith, byte_lt levels, pow_mono {i = length levels} {j = 7} (omega (arith, ltb-true (length levels) 8 h)))))
