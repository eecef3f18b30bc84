-- When START and STOP are seen, and a chip at which an outside level of the bus is put.
use Rattle.std.specs.Prelude.{◌≡◌, Bool, true, false}
use Rattle.bits.specs.Byte.{bit}
use Rattle.registers.specs.Names.{MD12, ENDDC}
use Rattle.chip.specs.declared.Core.{Core}
use Rattle.chip.specs.declared.Chip.{Chip}
use Rattle.chip.specs.State.{chip_of, with_sda, with_scl}

-- RESET is high, DDC is on, and it is DDC2B
pub record InDdc2b (c : Core) : Type 0 where
  pub reset_high : c.reset ≡ true
  pub ddc_on_lem : bit ENDDC c.bus.iists ≡ false
  pub two_way : bit MD12 c.mdcon ≡ false

-- the chip with another outside level, before it acts on that
abbrev pub put_sda : Chip → Bool → Chip
put_sda c level = chip_of c.registers (with_sda c.core level)

abbrev pub put_scl : Chip → Bool → Chip
put_scl c level = chip_of c.registers (with_scl c.core level)
