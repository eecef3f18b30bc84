-- Bytes fed through DDC1 (document 02, Wish 7): what is presumed of a list of words. An observer follows words, outside levels,
-- the mode, the rises left before the next load and the watchdog's clocks; it looks neither at II DAT nor at the shift register.
use Rattle.std.specs.Prelude.{ℕ, ◌+◌, ◌-◌, List, [], ◌∷◌, ◌++◌, Bool, true, false, not, ◌&&◌, ◌||◌, eqb, ltb, Ok, Err}
use Rattle.std.specs.Bool.{beq}
use Rattle.bits.specs.Byte.{pick, bit}
use Rattle.registers.specs.Names.{MDCON, CLRWDT, IIDAT, IISTS, MD12, ENDDC}
use Rattle.registers.specs.Table.{is_writable}
use Rattle.events.specs.Pins as pin
use Rattle.events.specs.Clocks as clock
use Rattle.events.specs.Decoded.{Decoded}
use Rattle.events.specs.declared.Event.TheVariants.{Read, Write, Pin, Clock, Polarity}
use Rattle.events.specs.Word.{decode}
use Rattle.chip.specs.declared.Core.{Core}
use Rattle.chip.specs.declared.Chip.{Chip}

-- ---- what is read of the first state, all of it in the core

abbrev pub scl_of : Core → Bool
scl_of c = c.scl

abbrev pub vsynci_of : Core → Bool
vsynci_of c = c.pins.vsynci

abbrev pub reset_of : Core → Bool
reset_of c = c.reset

-- II STS and MDCON, for the two bits that make the mode
abbrev pub iists_of : Core → ℕ
iists_of c = c.bus.iists

abbrev pub mdcon_of : Core → ℕ
mdcon_of c = c.mdcon

abbrev pub edges_of : Core → ℕ
edges_of c = c.bus.shifter.edges

abbrev pub watchdog_of : Core → ℕ
watchdog_of c = c.watchdog

-- ---- the observer

-- outside levels of SCL, VSYNCI and RESET; DDC off, and MD1/2; the rises left before the next load; the watchdog clocks counted;
-- whether a byte was loaded, and whether one was written to II DAT since the last load
pub record Observer : Type 0 where
  pub scl : Bool
  pub vsynci : Bool
  pub reset : Bool
  pub off : Bool
  pub md : Bool
  pub left : ℕ
  pub watchdog : ℕ
  pub loaded : Bool
  pub written : Bool

-- at the first state nothing is loaded or written yet
abbrev pub observer_of : Chip → Observer
observer_of c =
    record {
      scl = scl_of c.core;
      vsynci = vsynci_of c.core;
      reset = reset_of c.core;
      off = bit ENDDC (iists_of c.core);
      md = bit MD12 (mdcon_of c.core);
      left = edges_of c.core;
      watchdog = watchdog_of c.core;
      loaded = false;
      written = false;
    }

-- a write that the chip carries out: neither number 4 nor number 6
abbrev pub accepted : Observer → ℕ → Bool
accepted o a = o.reset && is_writable a

-- DDC is turned on: a 0 to ENDDC while it is off; nine rises come before the first load
abbrev pub turns_on : Observer → ℕ → ℕ → Bool
turns_on o a b = eqb a IISTS && (o.off && not (bit ENDDC b))

-- of the writes carried out: II STS and MDCON bring the mode, 55H to CLRWDT begins the count of watchdog clocks anew, II DAT takes
-- a byte
abbrev pub observe_accepted : Observer → ℕ → ℕ → Observer
observe_accepted o a b =
    record {
      scl = o.scl;
      vsynci = o.vsynci;
      reset = o.reset;
      off = pick (eqb a IISTS) (bit ENDDC b) o.off;
      md = pick (eqb a MDCON) (bit MD12 b) o.md;
      left = pick (turns_on o a b) 9 o.left;
      watchdog = pick (eqb a CLRWDT && eqb b 0x55) 0 o.watchdog;
      loaded = o.loaded;
      written = eqb a IIDAT || o.written;
    }

-- a write that is refused brings nothing
abbrev pub observe_write : Observer → ℕ → ℕ → Observer
observe_write o a b = pick (accepted o a) (observe_accepted o a b) o

-- a rise of VSYNCI at which the chip shifts or loads: in DDC1, with RESET high
abbrev pub shifts : Observer → Bool → Bool
shifts o level = o.reset && ((not o.vsynci && level) && (not o.off && o.md))

-- with no rise left it is a load
abbrev pub loads : Observer → Bool → Bool
loads o level = shifts o level && eqb o.left 0

-- SCL, VSYNCI and RESET put their levels; a load leaves eight rises, a shift one less; after a load the next byte may be written
abbrev pub observe_pin : Observer → ℕ → Bool → Observer
observe_pin o p level =
    record {
      scl = pick (eqb p pin.SCL) level o.scl;
      vsynci = pick (eqb p pin.VSYNCI) level o.vsynci;
      reset = pick (eqb p pin.RESET) level o.reset;
      off = o.off;
      md = o.md;
      left = pick (eqb p pin.VSYNCI && shifts o level) (pick (eqb o.left 0) 8 (o.left - 1)) o.left;
      watchdog = o.watchdog;
      loaded = (eqb p pin.VSYNCI && loads o level) || o.loaded;
      written = not (eqb p pin.VSYNCI && loads o level) && o.written;
    }

-- the watchdog's count stands while RESET is low
abbrev pub observe_clock : Observer → ℕ → Observer
observe_clock o k =
    record {
      scl = o.scl;
      vsynci = o.vsynci;
      reset = o.reset;
      off = o.off;
      md = o.md;
      left = o.left;
      watchdog = pick (o.reset && eqb k clock.watchdog) (o.watchdog + 1) o.watchdog;
      loaded = o.loaded;
      written = o.written;
    }

unfoldable pub observe : Observer → Decoded → Observer
observe o (Ok (Read a)) = o
observe o (Ok (Write a b)) = observe_write o a b
observe o (Ok (Pin p level)) = observe_pin o p level
observe o (Ok (Clock k)) = observe_clock o k
observe o (Ok (Polarity vertical level)) = o
observe o (Err r) = o

-- the observer after a list
abbrev pub observed : Observer → List ℕ → Observer
observed o [] = o
observed o (w ∷ ws) = observed (observe o (decode w)) ws

-- ---- what a list may not do

-- a 1 to ENDDC while DDC is on turns it off
abbrev pub turns_off : Observer → ℕ → ℕ → Bool
turns_off o a b = eqb a IISTS && (not o.off && bit ENDDC b)

-- MD1/2 changes while DDC is on: a change of mode
abbrev pub changes_md : Observer → ℕ → ℕ → Bool
changes_md o a b = eqb a MDCON && (not o.off && not (beq (bit MD12 b) o.md))

-- a second byte for II DAT, with no load between it and the one before
abbrev pub second_byte : Observer → ℕ → Bool
second_byte o a = eqb a IIDAT && o.written

-- a write that must not be carried out
abbrev pub forbidden_write : Observer → ℕ → ℕ → Bool
forbidden_write o a b = turns_off o a b || (changes_md o a b || second_byte o a)

-- a fall of outside SCL, with RESET low too
abbrev pub scl_falls : Observer → ℕ → Bool → Bool
scl_falls o p level = eqb p pin.SCL && (o.scl && not level)

-- a level that resets the chip by its RESET pin
abbrev pub reset_falls : Observer → ℕ → Bool → Bool
reset_falls o p level = eqb p pin.RESET && (o.reset && not level)

-- a load with no byte written since the last one, or none at all before the first
abbrev pub loads_nothing : Observer → ℕ → Bool → Bool
loads_nothing o p level = eqb p pin.VSYNCI && (loads o level && not o.written)

-- the watchdog clock that resets the chip: 63 were counted before it
abbrev pub watchdog_expires : Observer → ℕ → Bool
watchdog_expires o k = o.reset && (eqb k clock.watchdog && not (ltb o.watchdog 63))

-- what each event of a list must keep to
unfoldable pub permitted : Observer → Decoded → Bool
permitted o (Ok (Read a)) = true
permitted o (Ok (Write a b)) = not (accepted o a && forbidden_write o a b)
permitted o (Ok (Pin p level)) = not (scl_falls o p level) && (not (reset_falls o p level) && not (loads_nothing o p level))
permitted o (Ok (Clock k)) = not (watchdog_expires o k)
permitted o (Ok (Polarity vertical level)) = true
permitted o (Err r) = true

-- every word of a list keeps to it
abbrev pub throughout : Observer → List ℕ → Bool
throughout o [] = true
throughout o (w ∷ ws) = permitted o (decode w) && throughout (observe o (decode w)) ws
