-- What is known of the chip's registers while instructions run, and what stays known of them after each change of the chip: the reads of
-- registers kept in an array, so that an instruction needs no chip. What the array may hold is in the crate machine (Seen).
use Rattle.std.specs.Prelude.{ℕ, zero, suc, ◌+◌, Bool, true, false, not, ◌||◌, List, [], ◌∷◌, eqb, ltb, set, Ok, Err}
use Rattle.std.specs.Int.Bits.{bit_and}
use Rattle.bits.specs.Byte.{pick}
use Rattle.registers.specs.Names.{PT0, PT1, PT2, PT3, MDCON, IRQX, IIDAT, IISTS}
use Rattle.events.specs.Pins as pin
use Rattle.events.specs.Clocks as clock
use Rattle.events.specs.Decoded.{Decoded}
use Rattle.events.specs.declared.Event.TheVariants as event
use Rattle.sync.specs.declared.Sync.{Sync}
use Rattle.sync.specs.Sync.{on_period}
use Rattle.chip.specs.declared.Core.{Core}
use Rattle.chip.specs.State.{register_at}
use Rattle.chip_writes.specs.declared.Target.{Target}
use Rattle.chip_writes.specs.declared.Target.TheVariants as to
use Rattle.chip_writes.specs.Writes.{target}
use Rattle.chip_clocks.specs.Clocks.{clocked}
use Rattle.cpu_memory.specs.Memory.{not_seen}

-- n numbers from v on; of no register anything is known
abbrev pub counting : ℕ → ℕ → List ℕ
counting zero v = []
counting (suc n) v = v ∷ counting n (v + 1)

abbrev pub none_seen : List ℕ
none_seen = counting 38 320

-- ---- what is known of the registers, after a change of the chip

abbrev pub forgotten : ℕ → List ℕ → List ℕ
forgotten r seen = set seen r (not_seen r)

-- the ports show other registers too: a store may move what they read
abbrev pub ports_forgotten : List ℕ → List ℕ
ports_forgotten seen = forgotten PT3 (forgotten PT2 (forgotten PT1 (forgotten PT0 seen)))

-- edges of the bus move what five registers show
abbrev pub bus_forgotten : List ℕ → List ℕ
bus_forgotten seen = forgotten IISTS (forgotten IIDAT (forgotten IRQX (forgotten MDCON (forgotten PT3 seen))))

-- a level put to SCL or SDA
unfoldable pub is_bus : Decoded → Bool
is_bus (Ok (event.Read a)) = false
is_bus (Ok (event.Write a b)) = false
is_bus (Ok (event.Pin p level)) = eqb p pin.SCL || eqb p pin.SDA
is_bus (Ok (event.Clock k)) = false
is_bus (Ok (event.Polarity vertical level)) = false
is_bus (Err r) = false

-- any other event may move all that is read
unfoldable pub seen_after_event : List ℕ → Decoded → List ℕ
seen_after_event seen e = pick (is_bus e) (bus_forgotten seen) none_seen

-- the register stands in the array
unfoldable pub is_stored : Target → Bool
is_stored to.Stored = true
is_stored to.Mdcon = false
is_stored to.Hvcon = false
is_stored to.Clrflg = false
is_stored to.Clrwdt = false
is_stored to.Iiadr = false
is_stored to.Iidat = false
is_stored to.Iists = false
is_stored to.Bt = false

-- a stored register moves itself and the ports; any other write may move all that is read
abbrev pub seen_after_write : List ℕ → ℕ → List ℕ
seen_after_write seen a = pick (is_stored (target a)) (forgotten a (ports_forgotten seen)) none_seen

abbrev pub same_bool : Bool → Bool → Bool
same_bool true b = b
same_bool false b = not b

-- DACH0 to DACH13 read as they are stored
unfoldable pub is_dac : ℕ → Bool
is_dac a = pick (ltb a 24) false (ltb a 38)

abbrev pub seen_after_dac : List ℕ → List ℕ → ℕ → List ℕ
seen_after_dac seen registers a = set (ports_forgotten seen) a (bit_and (register_at registers a) 255)

-- the registers show the same of both counters
unfoldable pub same_counts : Sync → Sync → Bool
same_counts s t =
    pick (same_bool s.lines.overflow t.lines.overflow)
    (pick (same_bool s.periods.overflow t.periods.overflow)
    (pick (eqb s.lines.latch.0 t.lines.latch.0) (eqb s.periods.latch.0 t.periods.latch.0) false)
    false)
    false

-- a clock of 8 µs steps the counters: all stays known where the registers show the same of them, else nothing
unfoldable pub seen_after_clock : List ℕ → Bool → Sync → List ℕ
seen_after_clock seen hsel s = pick (same_counts s (on_period hsel s)) seen none_seen

-- the core after a clock of 8 µs
abbrev pub ticked : Core → Core
ticked c = clocked 0 c clock.period

-- ---- parts of the chip's rules, as the code has them

-- CLRWDT: 55H clears the watchdog
unfoldable pub watchdog_after : ℕ → ℕ → ℕ
watchdog_after count b = pick (eqb b 0x55) 0 count

-- the core after n cycles: a clock where they are 32
unfoldable pub core_after_cycles : ℕ → Core → Core
core_after_cycles n c = pick (ltb n 32) c (ticked c)
