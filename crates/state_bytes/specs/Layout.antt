-- The state as 128 bytes (document 02, Wish 14): the layout of docs/STATE.md, and the state that bytes are read as.
use Rattle.std.specs.Prelude.{ℕ, ◌+◌, ◌*◌, ◌/◌, ◌%◌, Bool, true, false, List, [], ◌∷◌, ◌++◌, eqb, drop, get_or, replicate}
use Rattle.bits.specs.Byte.{pick, num}
use Rattle.sync.specs.declared.Sync.{Sync}
use Rattle.bus.specs.declared.OwnAddress.{OwnAddress}
use Rattle.bus.specs.declared.OwnAddress.TheVariants.{A0, IiAdr, Both}
use Rattle.bus.specs.declared.Phase.{Phase}
use Rattle.bus.specs.declared.Phase.TheVariants.{Idle, Address, Addressed, Ignoring, Receive, Transmit, Held}
use Rattle.chip.specs.declared.Bus.{Bus}
use Rattle.chip.specs.declared.Core.{Core}
use Rattle.chip.specs.declared.Chip.{Chip}
use Rattle.state_bytes.specs.declared.PhaseFields.{PhaseFields}

-- ---- kinds of fields

-- a number of 16 bits: the low byte, then the high byte
abbrev pub low : ℕ → ℕ
low n = n % 256

abbrev pub high : ℕ → ℕ
high n = n / 256

abbrev pub word : ℕ → ℕ → ℕ
word l h = l + h * 256

-- a level or a bit: 1 or 0
abbrev pub level : ℕ → Bool
level n = eqb n 1

-- which address a transfer was called by: 1 A0H, 2 II ADR, 3 both
unfoldable pub own_number : OwnAddress → ℕ
own_number A0 = 1
own_number IiAdr = 2
own_number Both = 3

unfoldable pub own_of : ℕ → OwnAddress
own_of n = pick (eqb n 1) A0 (pick (eqb n 2) IiAdr Both)

-- the count of a matched address: 8, or 9 in its ninth clock
abbrev pub ninth_count : Bool → ℕ
ninth_count ninth = pick ninth 9 8

-- a phase: its number and what goes with it, 0 where that phase has none
abbrev pub fields : ℕ → ℕ → ℕ → ℕ → ℕ → PhaseFields
fields number matched count bits clocks = record { number = number; matched = matched; count = count; bits = bits; clocks = clocks }

unfoldable pub fields_of : Phase → PhaseFields
fields_of Idle = fields 0 0 0 0 0
fields_of (Address count bits) = fields 1 0 count bits 0
fields_of (Addressed matched bits ninth) = fields 2 (own_number matched) (ninth_count ninth) bits 0
fields_of Ignoring = fields 3 0 0 0 0
fields_of (Receive matched count bits) = fields 4 (own_number matched) count bits 0
fields_of (Transmit matched count byte) = fields 5 (own_number matched) count byte 0
fields_of (Held matched clocks) = fields 6 (own_number matched) 0 0 clocks

unfoldable pub phase_of : PhaseFields → Phase
phase_of f =
    pick (eqb f.number 0)
    Idle
    (pick (eqb f.number 1)
    (Address f.count f.bits)
    (pick (eqb f.number 2)
    (Addressed (own_of f.matched) f.bits (eqb f.count 9))
    (pick (eqb f.number 3)
    Ignoring
    (pick (eqb f.number 4)
    (Receive (own_of f.matched) f.count f.bits)
    (pick (eqb f.number 5)
    (Transmit (own_of f.matched) f.count f.bits)
    (Held (own_of f.matched) f.clocks))))))

-- ---- the bytes of a state: the core in 36 bytes, 54 zeros, the 38 stored registers

-- 12 bytes: HCNT with latch and overflow bit, VCNT likewise, the interval
abbrev pub sync_bytes : Sync → List ℕ
sync_bytes s =
    low s.lines.count.0
    ∷ high s.lines.count.0
    ∷ low s.lines.latch.0
    ∷ high s.lines.latch.0
    ∷ num s.lines.overflow
    ∷ low s.periods.count.0
    ∷ high s.periods.count.0
    ∷ low s.periods.latch.0
    ∷ high s.periods.latch.0
    ∷ num s.periods.overflow
    ∷ low s.interval
    ∷ high s.interval
    ∷ []

-- 6 bytes: the phase
abbrev pub phase_bytes : PhaseFields → List ℕ
phase_bytes f = f.number ∷ f.matched ∷ f.count ∷ f.bits ∷ low f.clocks ∷ high f.clocks ∷ []

-- 11 bytes: II ADR, II STS, II DAT, the shift register of DDC1 with the edges left, the phase
abbrev pub bus_bytes : Bus → List ℕ
bus_bytes b = b.iiadr ∷ b.iists ∷ b.iidat ∷ b.shifter.register ∷ b.shifter.edges ∷ phase_bytes (fields_of b.phase)

-- 8 bytes: the outside levels
abbrev pub level_bytes : Core → List ℕ
level_bytes c = c.pins.port0 ∷ c.pins.port1 ∷ c.pins.port2 ∷ num c.pins.hsynci ∷ num c.pins.vsynci ∷ num c.sda ∷ num c.scl ∷ num c.reset ∷ []

abbrev pub core_bytes : Core → List ℕ
core_bytes c = c.irqx ∷ c.mdcon ∷ c.polarity ∷ c.bt ∷ c.watchdog ∷ (sync_bytes c.sync ++ (bus_bytes c.bus ++ level_bytes c))

abbrev pub spare : List ℕ
spare = replicate 54 0

unfoldable pub bytes_of : Chip → List ℕ
bytes_of c = core_bytes c.core ++ (spare ++ c.registers)

-- ---- the state that bytes are read as, whatever they are

abbrev pub sync_of : List ℕ → Sync
sync_of s =
    record {
      lines = record {
        count = record { 0 = word (get_or s 5 0) (get_or s 6 0) };
        latch = record { 0 = word (get_or s 7 0) (get_or s 8 0) };
        overflow = level (get_or s 9 0);
      };
      periods = record {
        count = record { 0 = word (get_or s 10 0) (get_or s 11 0) };
        latch = record { 0 = word (get_or s 12 0) (get_or s 13 0) };
        overflow = level (get_or s 14 0);
      };
      interval = word (get_or s 15 0) (get_or s 16 0);
    }

abbrev pub bus_of : List ℕ → Bus
bus_of s =
    record {
      iiadr = get_or s 17 0;
      iists = get_or s 18 0;
      iidat = get_or s 19 0;
      phase = phase_of (fields (get_or s 22 0) (get_or s 23 0) (get_or s 24 0) (get_or s 25 0) (word (get_or s 26 0) (get_or s 27 0)));
      shifter = record { register = get_or s 20 0; edges = get_or s 21 0 };
    }

abbrev pub core_of : List ℕ → Core
core_of s =
    record {
      irqx = get_or s 0 0;
      mdcon = get_or s 1 0;
      polarity = get_or s 2 0;
      bt = get_or s 3 0;
      watchdog = get_or s 4 0;
      sync = sync_of s;
      bus = bus_of s;
      pins = record {
        port0 = get_or s 28 0;
        port1 = get_or s 29 0;
        port2 = get_or s 30 0;
        hsynci = level (get_or s 31 0);
        vsynci = level (get_or s 32 0);
      };
      sda = level (get_or s 33 0);
      scl = level (get_or s 34 0);
      reset = level (get_or s 35 0);
    }

unfoldable pub state_of : List ℕ → Chip
state_of s = record { registers = drop 90 s; core = core_of s }
