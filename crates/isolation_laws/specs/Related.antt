-- Two chips of which one cannot be told from the other but by the bits of a foreign transfer.
use Rattle.std.specs.Prelude.{ℕ, ◌<◌, ◌≡◌, List, Bool, true, false, length, ltb, Ok}
use Rattle.bus.specs.declared.Mode.TheVariants.{Ddc2b}
use Rattle.bus.specs.declared.Phase.{Phase}
use Rattle.bus.specs.declared.Phase.TheVariants.{Idle, Address, Ignoring}
use Rattle.bus.specs.Bus.{mode}
use Rattle.bus_ddc2b.specs.Ddc2b.{address_bits}
use Rattle.chip.specs.declared.Core.{Core}
use Rattle.chip.specs.declared.Chip.{Chip}
use Rattle.chip.specs.State.{bus_of, chip_of}
use Rattle.isolation_laws.specs.Foreign.{Trace, none, since, byte_of, Observer, touches_sda}
use Rattle.events.specs.Decoded.{Decoded}
use Rattle.events.specs.declared.Event.TheVariants.{Pin}

-- the core g but for RESET, SCL, SDA, the phase and II DAT
abbrev pub frame : Core → Bool → Bool → Bool → Phase → ℕ → Core
frame g reset scl sda phase iidat =
    record {
      irqx = g.irqx;
      mdcon = g.mdcon;
      polarity = g.polarity;
      bt = g.bt;
      watchdog = g.watchdog;
      sync = g.sync;
      bus = bus_of g.bus.iists g.bus.iiadr iidat phase g.bus.shifter;
      pins = g.pins;
      sda = sda;
      scl = scl;
      reset = reset;
    }

abbrev pub observer : Bool → Bool → Bool → ℕ → ℕ → Trace → Observer
observer reset scl sda own watchdog trace = record { sda = sda; scl = scl; reset = reset; own = own; watchdog = watchdog; trace = trace }

-- two phases and traces: idle; ignoring, once eight levels or more were gathered; or as many levels gathered in both, fewer than eight
pub data Apart : Phase → Phase → Trace → Trace → Type 0 where
  idle : Apart Idle Idle none none
  ignoring : (ls ls' : List Bool) → Apart Ignoring Ignoring (since ls) (since ls')
  address : (ls ls' : List Bool) → length ls' ≡ length ls → ltb (length ls) 8 ≡ true
      → Apart (Address (length ls) (byte_of ls)) (Address (length ls) (byte_of ls')) (since ls) (since ls')

-- DDC2B by II STS and MDCON, II ADR with the address bits of the byte last written, and IRQX a byte
pub record Kept (iists mdcon iiadr irqx own : ℕ) : Type 0 where
  pub ddc2b : mode iists mdcon ≡ Ddc2b
  pub address_bits_lem : address_bits iiadr ≡ address_bits own
  pub flags : irqx < 256

abbrev pub KeptBy : Core → ℕ → Type 0
KeptBy g own = Kept g.bus.iists g.mdcon g.bus.iiadr g.irqx own

-- two cores and the observers of their runs: the cores are g but for RESET z and SCL s, equal in both, SDA x and x', II DAT y
-- and y', and the phases; the observers have the byte n for II ADR and the same count of watchdog clocks as g
pub data Related : Core → Core → Observer → Observer → Type 0 where
  related : (g : Core) (z s x x' : Bool) (y y' : ℕ) {n : ℕ} {q q' : Phase} {t t' : Trace} → Apart q q' t t' → KeptBy g n
      → Related (frame g z s x q y) (frame g z s x' q' y') (observer z s x n g.watchdog t) (observer z s x' n g.watchdog t')

-- two chips and the observers of their runs: the stored registers are equal, and the cores related
pub data RelatedChips : Chip → Chip → Observer → Observer → Type 0 where
  chips : (registers : List ℕ) {c d : Core} {o o' : Observer} → Related c d o o' → RelatedChips (chip_of registers c) (chip_of registers d) o o'

-- the same event where SDA is not touched; SDA touched in both while SCL is low; SDA put to one level, equal before
pub data Paired (o o' : Observer) : Decoded → Decoded → Type 0 where
  same : {e : Decoded} → touches_sda e ≡ false → Paired o o' e e
  low : (l l' : Bool) → o.scl ≡ false → Paired o o' (Ok (Pin 24 l)) (Ok (Pin 24 l'))
  equal : (l : Bool) → o.sda ≡ o'.sda → Paired o o' (Ok (Pin 24 l)) (Ok (Pin 24 l))
