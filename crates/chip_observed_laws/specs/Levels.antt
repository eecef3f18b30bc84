-- The outside levels of the pins (document 01, "Event words", "Ports" and "Flags, timer, watchdog, reset").
use Rattle.std.specs.Prelude.{ℕ, ◌-◌, ◌<◌, Bool, false, eqb, ltb}
use Rattle.bits.specs.Byte.{pick, bit}
use Rattle.events.specs.Pins as pin
use Rattle.chip.specs.declared.Chip.{Chip}
use Rattle.chip.specs.State.{chip_of, with_pins, with_sda, with_scl, with_reset}

-- the outside level of a pin by its number: a bit of its port's byte, or a level of its own; 0 for a number that no pin has
unfoldable pub level_of : ℕ → Chip → Bool
level_of p c =
    pick (ltb p 8) (bit p c.core.pins.port0)
    (pick (ltb p 15) (bit (p - 8) c.core.pins.port1)
    (pick (ltb p 16) false
    (pick (ltb p 24) (bit (p - 16) c.core.pins.port2)
    (pick (eqb p pin.SDA) c.core.sda
    (pick (eqb p pin.SCL) c.core.scl
    (pick (eqb p pin.HSYNCI) c.core.pins.hsynci
    (pick (eqb p pin.VSYNCI) c.core.pins.vsynci
    (pick (eqb p pin.RESET) c.core.reset
    false))))))))

-- the levels of each port are a byte
pub record PortBytes (c : Chip) : Type 0 where
  pub port0 : c.core.pins.port0 < 256
  pub port1 : c.core.pins.port1 < 256
  pub port2 : c.core.pins.port2 < 256

-- a state with the outside levels of another
abbrev pub with_levels : Chip → Chip → Chip
with_levels c from =
    chip_of c.registers (with_reset (with_scl (with_sda (with_pins c.core from.core.pins) from.core.sda) from.core.scl) from.core.reset)
