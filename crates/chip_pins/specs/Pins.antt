-- What a pin's outside level does (document 01, "Event words", "Ports", "Flags, timer, watchdog, reset",
-- "Counting sync" and "The bus").
use Rattle.std.specs.Prelude.{ℕ, ◌%◌, Bool, not, ◌&&◌, eqb, ltb}
use Rattle.std.specs.Int.Bits.{bit_or}
use Rattle.bits.specs.Byte.{pick, weight, weight_if, bit, with_bit}
use Rattle.registers.specs.Names.{INTD, INTE, INTV}
use Rattle.events.specs.Pins as pin
use Rattle.sync.specs.Sync.{on_hsync, on_vsync}
use Rattle.bus.specs.declared.Edge.{Edge}
use Rattle.bus.specs.declared.Edge.TheVariants.{Flat, Rise, Fall}
use Rattle.bus.specs.Bus.{edge}
use Rattle.chip.specs.declared.Pins.{Pins}
use Rattle.chip.specs.declared.Core.{Core}
use Rattle.chip.specs.State.{mode_of, hsel_of, reset_core, raised, with_sync, with_bus, with_pins, with_reset}
use Rattle.chip_pins.specs.declared.PinKind.{PinKind}
use Rattle.chip_pins.specs.declared.PinKind.TheVariants.{Port0, Port1, P16, Port2, Sda, Scl, Hsynci, Vsynci, Reset, Absent}
use Rattle.chip_edges.specs.Edges.{scl_moved, sda_moved, bus_at_vsync, loads_at_vsync}

-- "Event words": the port of a number that `pin_kind` does not name; 15 and numbers from 24 on are no pin of a port
unfoldable pub port_kind : ℕ → PinKind
port_kind p =
    pick (ltb p 8) Port0
    (pick (ltb p 15) Port1
    (pick (ltb p 16) Absent
    (pick (ltb p 24) Port2
    Absent)))

-- "Event words": which pin a number is; within a port the bit is the number modulo 8
unfoldable pub pin_kind : ℕ → PinKind
pin_kind p =
    pick (eqb p pin.P16) P16
    (pick (eqb p pin.SDA) Sda
    (pick (eqb p pin.SCL) Scl
    (pick (eqb p pin.HSYNCI) Hsynci
    (pick (eqb p pin.VSYNCI) Vsynci
    (pick (eqb p pin.RESET) Reset
    (port_kind p))))))

abbrev pub pins_of : ℕ → ℕ → ℕ → Bool → Bool → Pins
pins_of port0 port1 port2 hsynci vsynci = record { port0 = port0; port1 = port1; port2 = port2; hsynci = hsynci; vsynci = vsynci }

-- a rise of a pin that the chip acts on: none while RESET is low, and none where the level is there already
abbrev pub rises : Bool → Bool → Bool → Bool
rises reset old new = reset && (not old && new)

-- ---- ports: the level is all that changes
unfoldable pub port0_moved : Core → ℕ → Bool → Core
port0_moved c p level = with_pins c (pins_of (with_bit c.pins.port0 p level) c.pins.port1 c.pins.port2 c.pins.hsynci c.pins.vsynci)

unfoldable pub port1_moved : Core → ℕ → Bool → Core
port1_moved c p level = with_pins c (pins_of c.pins.port0 (with_bit c.pins.port1 p level) c.pins.port2 c.pins.hsynci c.pins.vsynci)

unfoldable pub port2_moved : Core → ℕ → Bool → Core
port2_moved c p level = with_pins c (pins_of c.pins.port0 c.pins.port1 (with_bit c.pins.port2 p level) c.pins.hsynci c.pins.vsynci)

-- a rise of P16 sets flag E
unfoldable pub p16_moved : Core → Bool → Core
p16_moved c level = port1_moved (raised c (weight_if (rises c.reset (bit (pin.P16 % 8) c.pins.port1) level) INTE)) pin.P16 level

-- ---- sync inputs
abbrev pub hsync_level : Core → Bool → Core
hsync_level c level = with_pins c (pins_of c.pins.port0 c.pins.port1 c.pins.port2 level c.pins.vsynci)

abbrev pub vsync_level : Core → Bool → Core
vsync_level c level = with_pins c (pins_of c.pins.port0 c.pins.port1 c.pins.port2 c.pins.hsynci level)

-- a rise of HSYNCI is a step of HCNT
unfoldable pub hsync_moved : Core → Bool → Core
hsync_moved c level = with_sync (hsync_level c level) (pick (rises c.reset c.pins.hsynci level) (on_hsync c.sync) c.sync)

-- a rise of VSYNCI sets flag V, latches, and clocks DDC1, which sets flag D where it loads
unfoldable pub vsync_rise : Core → Core
vsync_rise c =
    with_bus
    (with_sync (raised c (bit_or (weight INTV) (weight_if (loads_at_vsync (mode_of c) c.bus.shifter) INTD))) (on_vsync (hsel_of c) c.sync))
    (bus_at_vsync (mode_of c) c.bus)

unfoldable pub vsync_moved : Core → Bool → Core
vsync_moved c level = pick (rises c.reset c.pins.vsynci level) (vsync_rise (vsync_level c level)) (vsync_level c level)

-- ---- RESET: going low resets the chip; going high does nothing
unfoldable pub on_reset : Edge → Core → Core
on_reset Flat c = c
on_reset Rise c = c
on_reset Fall c = reset_core c

unfoldable pub reset_moved : Core → Bool → Core
reset_moved c level = on_reset (edge c.reset level) (with_reset c level)

-- ---- a pin event; a number that no pin has moves nothing
unfoldable pub pin_moved_as : PinKind → Core → ℕ → Bool → Core
pin_moved_as Port0 c p level = port0_moved c p level
pin_moved_as Port1 c p level = port1_moved c p level
pin_moved_as P16 c p level = p16_moved c level
pin_moved_as Port2 c p level = port2_moved c p level
pin_moved_as Sda c p level = sda_moved c level
pin_moved_as Scl c p level = scl_moved c level
pin_moved_as Hsynci c p level = hsync_moved c level
pin_moved_as Vsynci c p level = vsync_moved c level
pin_moved_as Reset c p level = reset_moved c level
pin_moved_as Absent c p level = c

unfoldable pub pin_moved : Core → ℕ → Bool → Core
pin_moved c p level = pin_moved_as (pin_kind p) c p level
