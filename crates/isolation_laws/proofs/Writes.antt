-- Related cores stay related at a write, a clock and a polarity (document 01, "Registers" and "Flags, timer, watchdog, reset").
use Prim.Native.Nat.{ℕ, ◌+◌, ◌-◌}
use mathlib.Core.Path.{◌≡◌, refl, ◌∙◌}
use mathlib.Core.Bool.{Bool, true, false, not, ◌&&◌}
use lib.Dec.{eqb, ltb}
use borrow.Author.Tests.{eqb-true, not-true, not-false}
use Rattle.bits.specs.Byte.{pick, bit}
use Rattle.bits.proofs.Finite.{both}
use Rattle.registers.specs.Names.{MDCON, HVCON, CLRWDT, IIADR, IIDAT, BT, INTR}
use Rattle.registers.specs.Table.{is_writable}
use Rattle.std.specs.Prelude.{Ok}
use Rattle.events.specs.declared.Event.TheVariants.{Write, Clock}
use Rattle.bus.specs.declared.Phase.{Phase}
use Rattle.bus.specs.Bus.{changes_mode}
use Rattle.bus_ddc2b.specs.Ddc2b.{phase_at_period}
use Rattle.chip.specs.declared.Core.{Core}
use Rattle.chip.specs.State.{bus_of, with_bus, with_mdcon, with_sync, with_polarity, with_bt, with_watchdog, with_reset}
use Rattle.counters.specs.Count.{cycle_next, timer_overflows, watchdog_next, watchdog_fires}
use Rattle.chip_edges.specs.Edges.{bus_at_mode}
use Rattle.chip_writes.specs.declared.Target.{Target}
use Rattle.chip_writes.proofs.Addresses.{Addressed, at_mdcon, at_hvcon, at_clrflg, at_clrwdt, at_iiadr, at_iidat, at_iists, at_bt, at_plain, addressed}
use Rattle.chip_writes.specs.Writes.{clrflg_written, clrwdt_written, written_to, written, write_register}
use Rattle.chip_ddc_writes.specs.DdcWrites.{sync_at_hsel, mdcon_written, iiadr_written, status_written, iists_written, bus_at_iidat, iidat_written}
use Rattle.registers.specs.Table.{updated}
use Rattle.chip_clocks.specs.Clocks.{period_clock, timer_runs, timer_step, timer_clock, watchdog_clock, clocked_as, clocked, polarity_found}
use Rattle.isolation_laws.specs.Foreign.{Trace, Observer, observe, permitted, turns_off, asks_ddc1}
use Rattle.chip_ddc_writes.proofs.Modes.{md_written, enddc_written}
use Rattle.isolation_laws.proofs.Bits.{address_written}
use Rattle.isolation_laws.specs.Related.{frame, observer, Apart, idle, ignoring, address, KeptBy, Related, related}
use Rattle.isolation_laws.proofs.Related.{left_released, right_released, kept_status, kept_mdcon, kept_raised_if, kept_cleared}

-- ---- writes

-- a write that is taken; one to II DAT only stores, since SCL is not held
written_related : (g : Core) (s x x' : Bool) (y y' : ℕ) {n : ℕ} {q q' : Phase} {t t' : Trace} → Apart q q' t t' → KeptBy g n → {to : Target} {a : ℕ} → Addressed to a → (b : ℕ)
    → turns_off a b ≡ false → asks_ddc1 a b ≡ false
    → Related (written_to to (frame g true s x q y) b) (written_to to (frame g true s x' q' y') b)
    (observer true s x (pick (eqb a IIADR) b n) (pick (eqb a CLRWDT && eqb b 0x55) 0 g.watchdog) t)
    (observer true s x' (pick (eqb a IIADR) b n) (pick (eqb a CLRWDT && eqb b 0x55) 0 g.watchdog) t')
unfolding written_to mdcon_written clrflg_written clrwdt_written iiadr_written iists_written iidat_written bus_at_iidat bus_at_mode changes_mode
written_related g s x x' y y' k o at_mdcon b off md =
    let new : ℕ = updated MDCON g.mdcon b in
    let kept = kept_mdcon new (md_written g.mdcon b ∙ md) o in
    rw (o.ddc2b, kept.ddc2b) (related (with_sync (with_mdcon g new) (sync_at_hsel (bit 2 g.mdcon) (bit 2 new) g.sync)) true s x x' y y' k kept)
written_related g s x x' y y' k o at_hvcon b off md = related (with_polarity g (updated HVCON g.polarity b)) true s x x' y y' k o
written_related g s x x' y y' k o at_clrflg b off md = related (clrflg_written g b) true s x x' y y' k (kept_cleared (255 - b) o)
written_related g s x x' y y' k o at_clrwdt b off md = related (clrwdt_written g b) true s x x' y y' k o
written_related g s x x' y y' k o at_iiadr b off md =
    related (iiadr_written g b) true s x x' y y' k (record { ddc2b = o.ddc2b; address_bits_lem = address_written g.bus.iiadr b; flags = o.flags })
written_related g s x x' y y' k o at_iidat b off md =
    rw ((left_released k).scl_free_lem, (right_released k).scl_free_lem) (related g true s x x' (updated IIDAT y b) (updated IIDAT y' b) k o)
written_related g s x x' y y' k o at_iists b off md =
    let new : ℕ = status_written g.bus.iists b in
    let kept = kept_status new (enddc_written g.bus.iists b ∙ off) o in
    rw (o.ddc2b, kept.ddc2b) (related (with_bus g (bus_of new g.bus.iiadr 0 g.bus.phase g.bus.shifter)) true s x x' y y' k kept)
written_related g s x x' y y' k o at_bt b off md = related (with_bt g (updated BT g.bt b)) true s x x' y y' k o
written_related g s x x' y y' k o (at_plain p) b off md = rw (p.iiadr, p.clrwdt) (related g true s x x' y y' k o)

-- a write, taken or refused
write_by_reset : (g : Core) (z w s x x' : Bool) (y y' : ℕ) {n : ℕ} {q q' : Phase} {t t' : Trace} → Apart q q' t t' → KeptBy g n → (a b : ℕ)
    → (not ((z && w) && turns_off a b) && not ((z && w) && asks_ddc1 a b)) ≡ true
    → Related (pick z (pick w (written (frame g z s x q y) a b) (frame g z s x q y)) (frame g z s x q y)) (pick z (pick w (written (frame g z s x' q' y') a b) (frame g z s x' q' y')) (frame g z s x' q' y'))
    (observer z s x (pick ((z && w) && eqb a IIADR) b n) (pick ((z && w) && (eqb a CLRWDT && eqb b 0x55)) 0 g.watchdog) t)
    (observer z s x' (pick ((z && w) && eqb a IIADR) b n) (pick ((z && w) && (eqb a CLRWDT && eqb b 0x55)) 0 g.watchdog) t')
unfolding written
write_by_reset g false w s x x' y y' k o a b h = related g false s x x' y y' k o
write_by_reset g true false s x x' y y' k o a b h = related g true s x x' y y' k o
write_by_reset g true true s x x' y y' k o a b h =
    written_related g s x x' y y' k o (addressed a) b (not-true _ (both (not (turns_off a b)) (not (asks_ddc1 a b)) h).0) (not-true _ (both (not (turns_off a b)) (not (asks_ddc1 a b)) h).1)

pub write_related : {c d : Core} {o o' : Observer} → Related c d o o' → (a b : ℕ) → permitted o (Ok (Write a b)) ≡ true
    → Related (write_register c a b) (write_register d a b) (observe o (Ok (Write a b))) (observe o' (Ok (Write a b)))
unfolding write_register observe permitted
write_related (related g z s x x' y y' k o) a b h = write_by_reset g z (is_writable a) s x x' y y' k o a b h

-- ---- clocks, at one byte of BTCON

-- the watchdog clock, short of the 64th
watchdog_related : (btcon : ℕ) {c d : Core} {o o' : Observer} → Related c d o o' → permitted o (Ok (Clock 3)) ≡ true → Related (clocked btcon c 3) (clocked btcon d 3) (observe o (Ok (Clock 3))) (observe o' (Ok (Clock 3)))
unfolding clocked clocked_as watchdog_clock watchdog_fires watchdog_next cycle_next observe permitted
watchdog_related btcon (related g false s x x' y y' k o) h = related g false s x x' y y' k o
watchdog_related btcon (related g true s x x' y y' k o) h =
    let few : ltb g.watchdog 63 ≡ true = not-false _ (not-true _ h) in
    rw few (related (with_watchdog g (g.watchdog + 1)) true s x x' y y' k o)

-- no transfer is for this chip, so SCL is not held and a clock of 8 µs counts nothing there
period_apart : {q q' : Phase} {t t' : Trace} → Apart q q' t t' → Apart (phase_at_period q) (phase_at_period q') t t'
unfolding phase_at_period
period_apart idle = idle
period_apart (ignoring ls ls') = ignoring ls ls'
period_apart (address ls ls' e h) = address ls ls' e h

-- the clock of 8 µs, or a base clock
other_clock_related : {c d : Core} {o o' : Observer} → Related c d o o' → (period runs : Bool)
    → Related (pick period (period_clock c) (pick runs (timer_step c) c)) (pick period (period_clock d) (pick runs (timer_step d) d)) o o'
unfolding period_clock timer_step
other_clock_related (related g z s x x' y y' k o) true runs = related (period_clock g) z s x x' y y' (period_apart k) o
other_clock_related (related g z s x x' y y' k o) false true = related (timer_step g) z s x x' y y' k (kept_raised_if (timer_overflows g.bt) INTR o)
other_clock_related (related g z s x x' y y' k o) false false = related g z s x x' y y' k o

clock_by_number : (btcon : ℕ) {c d : Core} {o o' : Observer} → Related c d o o' → (clock : ℕ) (watchdog : Bool) → eqb clock 3 ≡ watchdog → permitted o (Ok (Clock clock)) ≡ true
    → Related (clocked btcon c clock) (clocked btcon d clock) (observe o (Ok (Clock clock))) (observe o' (Ok (Clock clock)))
unfolding clocked clocked_as timer_clock observe
clock_by_number btcon r clock true e h = rw (eqb-true clock 3 e) (watchdog_related btcon r (rw (eqb-true clock 3 e) at h))
clock_by_number btcon (related g false s x x' y y' k o) clock false e h = related g false s x x' y y' k o
clock_by_number btcon (related g true s x x' y y' k o) clock false e h =
    rw e (other_clock_related (related g true s x x' y y' k o) (eqb clock 0) (timer_runs btcon clock))

pub clock_related : (btcon : ℕ) {c d : Core} {o o' : Observer} → Related c d o o' → (clock : ℕ) → permitted o (Ok (Clock clock)) ≡ true
    → Related (clocked btcon c clock) (clocked btcon d clock) (observe o (Ok (Clock clock))) (observe o' (Ok (Clock clock)))
clock_related btcon r clock h = clock_by_number btcon r clock (eqb clock 3) refl h

-- ---- polarity

pub polarity_related : {c d : Core} {o o' : Observer} → Related c d o o' → (vertical l : Bool) → Related (polarity_found c vertical l) (polarity_found d vertical l) o o'
unfolding polarity_found
polarity_related (related g false s x x' y y' k o) vertical l = related g false s x x' y y' k o
polarity_related (related g true s x x' y y' k o) vertical l = related (polarity_found (with_reset g true) vertical l) true s x x' y y' k o
