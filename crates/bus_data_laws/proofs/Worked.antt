-- Runs from a fresh chip at which the premises hold: an address of the chip with eight rises and with nine, a foreign one with nine, and a byte
-- received or sent with eight and with nine.
-- Assumes nothing.
use mathlib.Core.Path.{◌≡◌, refl}
use mathlib.Core.Bool.{Bool, true, false, ◌&&◌}
use mathlib.Core.List.{List, [], ◌∷◌, ◌++◌}
use Prim.Native.Nat.{ℕ}
use Rattle.registers.specs.Names.{MDCON, IISTS, TRX}
use Rattle.bus.specs.declared.OwnAddress.TheVariants.{A0}
use Rattle.bus.specs.declared.Phase.TheVariants.{Held}
use Rattle.bus.specs.Ddc1.{unused_shifter}
use Rattle.bits.specs.Byte.{weight}
use Rattle.std.specs.Prelude.{Ok}
use Rattle.events.specs.Pins.{SCL}
use Rattle.events.specs.declared.Event.TheVariants.{Write, Pin}
use Rattle.events.specs.Word.{encode, decode}
use Rattle.chip.specs.declared.Chip.{Chip}
use Rattle.chip.specs.State.{fresh, chip_of, bus_of, with_bus, with_mdcon, with_scl}
use Rattle.chip_events.specs.Outcome.{next}
use Rattle.list_call.specs.Run.{advanced}
use Rattle.chip_flag_laws.specs.Causes.{raises}
use Rattle.chip_flag_laws.specs.Causes.Source.{DataByte}
use Rattle.chip_count_laws.specs.Counting.{never}
use Rattle.bus_transfer_laws.specs.Transfers.{bits_of, write_data, put_sda, raise_scl, lower_scl, clock_in, clocks}
use Rattle.bus_transfer_laws.proofs.Opened.{opened}
use Rattle.bus_address_laws.specs.Addressed.{starts, ends}
use Rattle.bus_data_laws.specs.Ninth.{lets_go, ends_byte}

abbrev ready : Chip
ready = advanced fresh (encode (Ok (Write MDCON 0x00)) ∷ encode (Ok (Write IISTS 0x00)) ∷ [])

-- after a word with which a byte begins: no word of the list ends it, and a fall of SCL then sets flag D
abbrev Told : Type 0
Told = Bool × Bool

abbrev told : Chip → ℕ → List ℕ → Told
told c w us = (never ends_byte (next c (decode w)) us, raises DataByte (advanced c (w ∷ us)) (Ok (Pin SCL false)))

-- an address: SCL falls, and a clock for each bit, with the level put before its rise
abbrev eight_rises : ℕ → List ℕ
eight_rises byte = lower_scl ∷ clock_in (bits_of byte) []

pub since_start : ◌≡◌ {A = Bool × Told × Told × Told} (
  starts ready (decode (put_sda false)),
  told ready (put_sda false) (eight_rises 0xa0),
  told ready (put_sda false) (eight_rises 0xa0 ++ (raise_scl ∷ [])),
  told ready (put_sda false) (eight_rises 0x54 ++ (raise_scl ∷ [])),
)
    (true, (true, false), (true, true), (true, false))
unfolding opened ends raises
since_start = refl

-- a hold, at this level of outside SCL and with this II STS: TRX 0 to receive, TRX 1 to send
abbrev held : Bool → ℕ → Chip
held scl status = chip_of fresh.registers (with_scl (with_mdcon (with_bus fresh.core (bus_of status 0xff 0xa0 (Held A0 0) unused_shifter)) 0x00) scl)

abbrev held_to_send : Chip
held_to_send = held false (weight TRX)

pub since_let_go : ◌≡◌ {A = Bool × Told × Told × Told × Told × Told × Told} (
  (lets_go (held false 0x00) (decode (write_data 0x3c)) && (lets_go held_to_send (decode (write_data 0x3c)) && lets_go (held true 0x00) (decode (write_data 0x3c)))),
  told (held false 0x00) (write_data 0x3c) (clocks 7 (raise_scl ∷ [])),
  told (held false 0x00) (write_data 0x3c) (clocks 8 (raise_scl ∷ [])),
  told held_to_send (write_data 0x3c) (clocks 7 (raise_scl ∷ [])),
  told held_to_send (write_data 0x3c) (clocks 8 (raise_scl ∷ [])),
  told (held true 0x00) (write_data 0x3c) (lower_scl ∷ clocks 6 (raise_scl ∷ [])),
  told (held true 0x00) (write_data 0x3c) (lower_scl ∷ clocks 7 (raise_scl ∷ [])),
)
    (true, (true, false), (true, true), (true, false), (true, true), (true, false), (true, true))
unfolding opened ends raises
since_let_go = refl
