-- A fall of SCL in DDC1 leads to DDC2B, a change of mode (document 01, "The bus").
use Rattle.std.specs.Prelude.{◌≡◌, true, false, ℕ, ◌<◌, eqb}
use Rattle.bits.specs.Byte.{bit}
use Rattle.bus.specs.declared.Phase.TheVariants.{Idle}
use Rattle.bus.specs.Ddc1.{unused_shifter}
use Rattle.chip.specs.declared.Chip.{Chip}
use Rattle.chip_flag_laws.specs.Causes.{in_ddc2b}

-- DDC2B, idle, the shift register unused, and every other bit of MDCON as it was
pub record Left (c after : Chip) : Type 0 where
  pub ddc2b : in_ddc2b after ≡ true
  pub idle : after.core.bus.phase ≡ Idle
  pub unused : after.core.bus.shifter ≡ unused_shifter
  pub others : (k : ℕ) → k < 8 → eqb k 0 ≡ false → bit k after.core.mdcon ≡ bit k c.core.mdcon
