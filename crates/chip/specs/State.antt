-- The chip's state: the array of stored registers and the core; a new one, a reset one, and one with a part put anew (document 01,
-- "Flags, timer, watchdog, reset").
use Rattle.std.specs.Prelude.{ℕ, Bool, true, List, get_or, set}
use Rattle.std.specs.Int.Bits.{bit_and, bit_or}
use Rattle.bits.specs.Byte.{bit}
use Rattle.registers.specs.Names.{MDCON, HVCON, IEX, IRQX, IIADR, IIDAT, IISTS, BT, HSEL}
use Rattle.registers.specs.Table.{reset_value, resets}
use Rattle.sync.specs.declared.Sync.{Sync}
use Rattle.sync.specs.Sync.{zero_sync}
use Rattle.bus.specs.declared.Mode.{Mode}
use Rattle.bus.specs.declared.Phase.{Phase}
use Rattle.bus.specs.declared.Phase.TheVariants.{Idle}
use Rattle.bus.specs.declared.Shifter.{Shifter}
use Rattle.bus.specs.Bus.{mode}
use Rattle.bus.specs.Ddc1.{unused_shifter}
use Rattle.chip.specs.declared.Bus.{Bus}
use Rattle.chip.specs.declared.Pins.{Pins}
use Rattle.chip.specs.declared.Core.{Core}
use Rattle.chip.specs.declared.Chip.{Chip}
use Rattle.chip.specs.declared.Kept.{Kept}
use Rattle.chip.specs.declared.Kept.TheVariants.{Same, Stored, Reset}

-- ---- one part put anew, the others kept

abbrev pub with_irqx : Core → ℕ → Core
with_irqx c v = record { irqx = v; mdcon = c.mdcon; polarity = c.polarity; bt = c.bt; watchdog = c.watchdog; sync = c.sync; bus = c.bus; pins = c.pins; sda = c.sda; scl = c.scl; reset = c.reset }

abbrev pub with_mdcon : Core → ℕ → Core
with_mdcon c v = record { irqx = c.irqx; mdcon = v; polarity = c.polarity; bt = c.bt; watchdog = c.watchdog; sync = c.sync; bus = c.bus; pins = c.pins; sda = c.sda; scl = c.scl; reset = c.reset }

abbrev pub with_polarity : Core → ℕ → Core
with_polarity c v = record { irqx = c.irqx; mdcon = c.mdcon; polarity = v; bt = c.bt; watchdog = c.watchdog; sync = c.sync; bus = c.bus; pins = c.pins; sda = c.sda; scl = c.scl; reset = c.reset }

abbrev pub with_bt : Core → ℕ → Core
with_bt c v = record { irqx = c.irqx; mdcon = c.mdcon; polarity = c.polarity; bt = v; watchdog = c.watchdog; sync = c.sync; bus = c.bus; pins = c.pins; sda = c.sda; scl = c.scl; reset = c.reset }

abbrev pub with_watchdog : Core → ℕ → Core
with_watchdog c v = record { irqx = c.irqx; mdcon = c.mdcon; polarity = c.polarity; bt = c.bt; watchdog = v; sync = c.sync; bus = c.bus; pins = c.pins; sda = c.sda; scl = c.scl; reset = c.reset }

abbrev pub with_sync : Core → Sync → Core
with_sync c v = record { irqx = c.irqx; mdcon = c.mdcon; polarity = c.polarity; bt = c.bt; watchdog = c.watchdog; sync = v; bus = c.bus; pins = c.pins; sda = c.sda; scl = c.scl; reset = c.reset }

abbrev pub with_bus : Core → Bus → Core
with_bus c v = record { irqx = c.irqx; mdcon = c.mdcon; polarity = c.polarity; bt = c.bt; watchdog = c.watchdog; sync = c.sync; bus = v; pins = c.pins; sda = c.sda; scl = c.scl; reset = c.reset }

abbrev pub with_pins : Core → Pins → Core
with_pins c v = record { irqx = c.irqx; mdcon = c.mdcon; polarity = c.polarity; bt = c.bt; watchdog = c.watchdog; sync = c.sync; bus = c.bus; pins = v; sda = c.sda; scl = c.scl; reset = c.reset }

abbrev pub with_sda : Core → Bool → Core
with_sda c v = record { irqx = c.irqx; mdcon = c.mdcon; polarity = c.polarity; bt = c.bt; watchdog = c.watchdog; sync = c.sync; bus = c.bus; pins = c.pins; sda = v; scl = c.scl; reset = c.reset }

abbrev pub with_scl : Core → Bool → Core
with_scl c v = record { irqx = c.irqx; mdcon = c.mdcon; polarity = c.polarity; bt = c.bt; watchdog = c.watchdog; sync = c.sync; bus = c.bus; pins = c.pins; sda = c.sda; scl = v; reset = c.reset }

abbrev pub with_reset : Core → Bool → Core
with_reset c v = record { irqx = c.irqx; mdcon = c.mdcon; polarity = c.polarity; bt = c.bt; watchdog = c.watchdog; sync = c.sync; bus = c.bus; pins = c.pins; sda = c.sda; scl = c.scl; reset = v }

-- ---- the bus: II STS, II ADR, II DAT, phase, shift register

abbrev pub bus_of : ℕ → ℕ → ℕ → Phase → Shifter → Bus
bus_of iists iiadr iidat phase shifter = record { iists = iists; iiadr = iiadr; iidat = iidat; phase = phase; shifter = shifter }

-- lines released, by a change of mode and by a reset alike: no transfer, ones, nine edges
abbrev pub idle_bus : ℕ → ℕ → ℕ → Bus
idle_bus iists iiadr iidat = bus_of iists iiadr iidat Idle unused_shifter

unfoldable pub released : Bus → Bus
released b = idle_bus b.iists b.iiadr b.iidat

-- ---- the array of stored registers

abbrev pub chip_of : List ℕ → Core → Chip
chip_of registers core = record { registers = registers; core = core }

-- the byte in a place of the array, 0 past it
abbrev pub register_at : List ℕ → ℕ → ℕ
register_at registers a = get_or registers a 0

-- what an event leaves in the array: all as it was, one register stored, or every register at its reset value
abbrev pub keep : Kept → List ℕ → List ℕ
keep Same registers = registers
keep (Stored a b) registers = set registers a b
keep Reset registers = resets

-- ---- what other rules ask of a state

-- ENDDC and MD1/2 of a state
abbrev pub mode_of : Core → Mode
mode_of c = mode c.bus.iists c.mdcon

-- HSEL of MDCON
abbrev pub hsel_of : Core → Bool
hsel_of c = bit HSEL c.mdcon

-- a request is a flag of IRQX that IEX enables
unfoldable pub requested : ℕ → ℕ → ℕ
requested irqx iex = bit_and irqx iex

-- the requests of a state
abbrev pub requests : Chip → ℕ
requests c = requested c.core.irqx (register_at c.registers IEX)

-- flags set in IRQX, whether enabled or not
abbrev pub raised : Core → ℕ → Core
raised c flags = with_irqx c (bit_or c.irqx flags)

-- ---- reset

-- every part at its reset value, at these outside levels; of HVCON the polarity bits are stored
unfoldable pub reset_at : Pins → Bool → Bool → Bool → Core
reset_at pins sda scl reset =
    record {
      irqx = reset_value IRQX;
      mdcon = reset_value MDCON;
      polarity = bit_and (reset_value HVCON) 0x0f;
      bt = reset_value BT;
      watchdog = 0;
      sync = zero_sync;
      bus = idle_bus (reset_value IISTS) (reset_value IIADR) (reset_value IIDAT);
      pins = pins;
      sda = sda;
      scl = scl;
      reset = reset;
    }

-- a reset keeps the outside levels
unfoldable pub reset_core : Core → Core
reset_core c = reset_at c.pins c.sda c.scl c.reset

-- and puts every stored register to its reset value by the table
abbrev pub reset_chip : Chip → Chip
reset_chip c = chip_of resets (reset_core c.core)

-- every pin's outside level 1; P16 is bit 6 of the byte of port 1, which has no bit 7
abbrev pub high_pins : Pins
high_pins = record { port0 = 0xff; port1 = 0x7f; port2 = 0xff; hsynci = true; vsynci = true }

-- "Event words": a fresh chip has reset values and all outside levels 1
unfoldable pub fresh : Chip
fresh = chip_of resets (reset_at high_pins true true true)
