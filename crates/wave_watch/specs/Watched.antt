-- What a dump shows of a chip: ten lines and six vectors, and the outside levels of the four pins.
use Rattle.std.specs.Prelude.{ℕ, ◌+◌, ◌*◌, ◌%◌, Bool}
use Rattle.bits.specs.Byte.{num, bit}
use Rattle.bus.specs.declared.Phase.{Phase}
use Rattle.bus.specs.declared.Phase.TheVariants.{Idle, Address, Addressed, Ignoring, Receive, Transmit, Held}
use Rattle.bus.specs.Bus.{line, scl_pulled, sda_pulled}
use Rattle.chip.specs.declared.Core.{Core}
use Rattle.chip.specs.declared.Chip.{Chip}
use Rattle.chip.specs.State.{mode_of, requests}
use Rattle.wave_write.specs.declared.Watch.{Watch}

-- a line of the bus as it is: its outside level, low while the chip pulls it
abbrev pub scl_line : Core → Bool
scl_line c = line (scl_pulled (mode_of c) c.bus.phase) c.scl

abbrev pub sda_line : Core → Bool
sda_line c = line (sda_pulled (mode_of c) c.bus.phase c.bus.shifter) c.sda

-- RESET, P16, the SCL line and the SDA line, a bit each from the lowest; P16 is bit 6 of the byte of port 1
unfoldable pub line_levels : Core → ℕ
line_levels c = num c.reset + num (bit 6 c.pins.port1) * 2 + num (scl_line c) * 4 + num (sda_line c) * 8

-- and past them the requests V, E, R, A, D, S
unfoldable pub levels_of : Chip → ℕ
levels_of c = line_levels c.core + requests c % 64 * 16

-- a phase of the bus by its number in a stored state
unfoldable pub phase_number : Phase → ℕ
phase_number Idle = 0
phase_number (Address count bits) = 1
phase_number (Addressed matched bits ninth) = 2
phase_number Ignoring = 3
phase_number (Receive matched count bits) = 4
phase_number (Transmit matched count byte) = 5
phase_number (Held matched clocks) = 6

-- IRQX, II STS, II DAT, HCNT and VCNT as latched, and the phase, twelve bits each from the lowest
unfoldable pub vectors_of : Core → ℕ
vectors_of c =
    c.irqx
    + c.bus.iists * 4096
    + c.bus.iidat * 16777216
    + c.sync.lines.latch.0 % 4096 * 68719476736
    + c.sync.periods.latch.0 % 4096 * 281474976710656
    + phase_number c.bus.phase * 1152921504606846976

unfoldable pub watch_of : Chip → Watch
watch_of c = record { levels = levels_of c; vectors = vectors_of c.core }

-- the outside levels of pins 24 to 27: SDA, SCL, HSYNCI, VSYNCI, a bit each from the lowest
unfoldable pub pins_of : Core → ℕ
pins_of c = num c.sda + num c.scl * 2 + num c.pins.hsynci * 4 + num c.pins.vsynci * 8
