-- The six interrupt sources: what sets each flag of IRQX and what clears it (document 01, "Flags, timer, watchdog, reset" and
-- "The bus"), told by the event and the state before it alone.
use Rattle.std.specs.Prelude.{ℕ, ◌%◌, Bool, false, not, ◌&&◌, ◌||◌, eqb, ltb, Ok, Err}
use Rattle.bits.specs.Byte.{pick, bit}
use Rattle.registers.specs.Names.{IEX, CLRFLG, BTCON, MD12, INTS, INTD, INTA, INTR, INTE, INTV, ENDDC, TBS, ENBT}
use Rattle.events.specs.Pins as pin
use Rattle.events.specs.Clocks as clock
use Rattle.events.specs.Decoded.{Decoded}
use Rattle.events.specs.Kinds.{on_pin, on_clock}
use Rattle.events.specs.declared.Event.TheVariants.{Read, Write, Pin, Clock, Polarity}
use Rattle.bus.specs.declared.Phase.{Phase}
use Rattle.bus.specs.declared.Phase.TheVariants.{Idle, Address, Addressed, Ignoring, Receive, Transmit, Held}
use Rattle.bus.specs.Bus.{line, pulls_sda, pulls_scl, on_address}
use Rattle.bus_ddc2b.specs.Ddc2b.{matches, gathered}
use Rattle.chip.specs.declared.Chip.{Chip}
use Rattle.chip.specs.State.{register_at}

-- S, D, A, R, E, V, each by what sets it
pub data Source : Type 0 where
  SclFall DataByte AddressMatch TimerOverflow ExternalRise VsyncRise : Source

-- "Registers", 10: its bit in IRQX, and in IEX and CLRFLG with it
abbrev pub place : Source → ℕ
place SclFall = INTS
place DataByte = INTD
place AddressMatch = INTA
place TimerOverflow = INTR
place ExternalRise = INTE
place VsyncRise = INTV

-- the source's flag in IRQX
abbrev pub flag : Source → Chip → Bool
flag s c = bit (place s) c.core.irqx

-- its enable bit in IEX
abbrev pub enabled : Source → Chip → Bool
enabled s c = bit (place s) (register_at c.registers IEX)

-- ---- events, by what they put

-- the pin is given level 1
abbrev pub put_high : ℕ → Decoded → Bool
put_high p = on_pin false (λ q level. eqb q p && level)

-- the pin is given level 0
abbrev pub put_low : ℕ → Decoded → Bool
put_low p = on_pin false (λ q level. eqb q p && not level)

-- a clock of this number
abbrev pub is_clock : ℕ → Decoded → Bool
is_clock k = on_clock false (λ j. eqb j k)

-- ---- the mode of DDC

-- ENDDC of II STS is 0
abbrev pub ddc_on : Chip → Bool
ddc_on c = not (bit ENDDC c.core.bus.iists)

-- on, with MD1/2 of MDCON at 1
abbrev pub in_ddc1 : Chip → Bool
in_ddc1 c = ddc_on c && bit MD12 c.core.mdcon

-- on, with MD1/2 at 0
abbrev pub in_ddc2b : Chip → Bool
in_ddc2b c = ddc_on c && not (bit MD12 c.core.mdcon)

-- ---- edges that the chip acts on: none while RESET is low, none where the level is there already

abbrev pub rises_p16 : Chip → Decoded → Bool
rises_p16 c e = put_high pin.P16 e && (c.core.reset && not (bit (pin.P16 % 8) c.core.pins.port1))

abbrev pub rises_vsynci : Chip → Decoded → Bool
rises_vsynci c e = put_high pin.VSYNCI e && (c.core.reset && not c.core.pins.vsynci)

-- the SCL line follows its outside level unless the chip holds it low, in DDC2B
abbrev pub scl_free : Chip → Bool
scl_free c = not (in_ddc2b c && pulls_scl c.core.bus.phase)

abbrev pub rises_scl : Chip → Decoded → Bool
rises_scl c e = put_high pin.SCL e && (c.core.reset && (not c.core.scl && scl_free c))

abbrev pub falls_scl : Chip → Decoded → Bool
falls_scl c e = put_low pin.SCL e && (c.core.reset && (c.core.scl && scl_free c))

-- ---- where a byte on the bus stands

-- seven bits of an address are gathered (no well formed one has more), and with the SDA line as the eighth it matches A0H or II ADR
abbrev pub completes_match : ℕ → Bool → Phase → Bool
completes_match own sda = on_address false (λ count bits. not (ltb count 7) && matches own (gathered bits sda))

-- the ninth clock of a byte runs, acknowledged or not, or the acknowledge of a transmit was taken: the next fall ends it
abbrev pub in_ninth_clock : Phase → Bool
in_ninth_clock Idle = false
in_ninth_clock (Address count bits) = false
in_ninth_clock (Addressed matched bits ninth) = ninth
in_ninth_clock Ignoring = false
in_ninth_clock (Receive matched count bits) = ltb 8 count
in_ninth_clock (Transmit matched count byte) = eqb count 10
in_ninth_clock (Held matched clocks) = false

-- ---- causes

-- what sets each flag, whether enabled or not.
-- S: a fall of the SCL line with DDC on.
-- D: in DDC1 a rise of VSYNCI with no edges left; in DDC2B the fall that ends the ninth clock of a byte.
-- A: in DDC2B the rise of the SCL line that completes an address of the chip.
-- R: the base clock that TBS of BTCON selects, with ENBT 0 and BT at FF.
-- E: a rise of P16.
-- V: a rise of VSYNCI
unfoldable pub raises : Source → Chip → Decoded → Bool
raises SclFall c e = falls_scl c e && ddc_on c
raises DataByte c e =
    (rises_vsynci c e && (in_ddc1 c && eqb c.core.bus.shifter.edges 0))
    || (falls_scl c e && (in_ddc2b c && in_ninth_clock c.core.bus.phase))
raises AddressMatch c e =
    rises_scl c e && (in_ddc2b c && completes_match c.core.bus.iiadr (line (pulls_sda c.core.bus.phase) c.core.sda) c.core.bus.phase)
raises TimerOverflow c e =
    is_clock (pick (bit TBS (register_at c.registers BTCON)) clock.base1 clock.base0) e
    && (c.core.reset && (not (bit ENBT (register_at c.registers BTCON)) && ltb 0xfe c.core.bt))
raises ExternalRise c e = rises_p16 c e
raises VsyncRise c e = rises_vsynci c e

-- what clears a flag: a 1 in its bit of CLRFLG, RESET going low, and the 64th watchdog clock, which finds 63 counted
unfoldable pub clears : Source → Chip → Decoded → Bool
clears s c (Ok (Read a)) = false
clears s c (Ok (Write a b)) = eqb a CLRFLG && (c.core.reset && bit (place s) b)
clears s c (Ok (Pin p level)) = eqb p pin.RESET && (c.core.reset && not level)
clears s c (Ok (Clock k)) = eqb k clock.watchdog && (c.core.reset && ltb 62 c.core.watchdog)
clears s c (Ok (Polarity vertical level)) = false
clears s c (Err r) = false
