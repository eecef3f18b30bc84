-- The chip as its array and its core: after a clock of 8 µs, after a write, and what then is known of its registers.
use Prim.Native.Nat.{ℕ, zero, suc, ◌+◌, ◌-◌, ◌<◌, ◌≤◌}
use mathlib.Core.Path.{◌≡◌, refl, ap, ap₂, sym, subst, ◌∙◌}
use mathlib.Core.Bool.{Bool, true, false, true≢false, not, ◌&&◌}
use mathlib.Core.List.{List, [], ◌∷◌}
use native.Mathlib.Omega.{arith}
use lib.Bits.{bit_and}
use lib.Dec.{eqb, ltb}
use lib.ListN.{length, set}
use lib.Seq.{get_or-set_other}
use borrow.Author.Tests.{ne_eqb, eqb-true, eqb-false, ltb-true, ltb-false}
use Rattle.bits.specs.Byte.{pick}
use Rattle.bus.specs.declared.Phase.{Phase}
use Rattle.chip.specs.declared.Bus.{Bus}
use Rattle.registers.specs.Names.{CLRWDT, IEX}
use Rattle.registers.specs.Table.{updated, read_mask, is_readable, is_writable, row_of, table}
use Rattle.registers.proofs.Rules.{writable_register}
use Rattle.std.specs.Prelude.{Ok}
use Rattle.events.specs.Clocks as clock
use Rattle.events.specs.declared.Event.TheVariants as event
use Rattle.counters.specs.Count.{watchdog_fires}
use Rattle.sync.specs.declared.Sync.{Sync}
use Rattle.sync.specs.Sync.{on_period}
use Rattle.chip.specs.declared.Core.{Core}
use Rattle.chip.specs.declared.Chip.{Chip}
use Rattle.chip.specs.declared.Kept.{Kept}
use Rattle.chip.specs.declared.Kept.TheVariants as same
use Rattle.chip.specs.State.{chip_of, keep, register_at, requested, hsel_of, with_watchdog, with_sync, with_bus}
use Rattle.chip_reads.specs.Reads.{port0, port1, port2, port3, hvcon, shown, reading}
use Rattle.chip_ddc_writes.specs.DdcWrites.{mdcon_written, iiadr_written, iists_written, iidat_written}
use Rattle.chip_writes.specs.declared.Target.{Target}
use Rattle.chip_writes.specs.declared.Target.TheVariants as on
use Rattle.chip_writes.specs.Writes.{target, clrflg_written, clrwdt_written, written_to, kept_by, written, stored_by, write_number, write_register, write_kept}
use Rattle.bus_ddc2b.specs.Ddc2b.{phase_at_period}
use Rattle.chip_edges.specs.Edges.{with_phase}
use Rattle.chip_clocks.specs.Clocks.{clocked, clocked_as, period_clock}
use Rattle.chip_events.specs.Outcome.{core_after, was_reset, reset_if, kept_after, next}
use Rattle.cpu_memory.specs.Memory.{not_seen}
use Rattle.firmware_machine.specs.Machine.{clock_after, is_requesting}
use Rattle.firmware_machine.specs.Seen.{known_reading, Known, unseen, read, Knows}
use Rattle.cpu_register_cache.specs.Cache.{none_seen, forgotten, ports_forgotten, is_stored, seen_after_write, same_bool, same_counts, ticked, seen_after_clock, watchdog_after, is_dac, seen_after_dac, core_after_cycles}
use Rattle.cpu_register_cache.specs.Changed.{Changed}
use Rattle.cpu_register_cache.proofs.Registers.{knows_none, knows_as, knows_stored, stored_length}

-- ---- a clock of 8 µs

clock_core_by : (b : Bool) (c : Core) → c.reset ≡ b → (x : ℕ) → pick b (period_clock c) c ≡ clocked x c clock.period
unfolding clocked clocked_as
clock_core_by true c h x = rw h
clock_core_by false c h x = rw h

clock_kept_by : (b x : Bool) → reset_if (b && (false && x)) ≡ same.Same
clock_kept_by true x = refl
clock_kept_by false x = refl

-- it stores no register, and BTCON does not steer it
pub clock_chip : (registers : List ℕ) (core : Core) → next (chip_of registers core) (Ok (event.Clock clock.period)) ≡ chip_of registers (ticked core)
unfolding next kept_after was_reset core_after
clock_chip registers core =
    ap₂ (λ (l : List ℕ) (x : Core). chip_of l x) (ap (λ x. keep x registers) (clock_kept_by core.reset (watchdog_fires core.watchdog)))
    (sym (clock_core_by core.reset core refl _) ∙ clock_core_by core.reset core refl 0)

after_by : (b : Bool) (registers : List ℕ) (core : Core)
    → pick b (chip_of registers core) (next (chip_of registers core) (Ok (event.Clock clock.period))) ≡ chip_of registers (pick b core (ticked core))
after_by true registers core = refl
after_by false registers core = clock_chip registers core

pub after_cycles : (t : ℕ) (registers : List ℕ) (core : Core) → clock_after t (chip_of registers core) ≡ chip_of registers (core_after_cycles t core)
unfolding core_after_cycles
after_cycles t registers core = after_by (ltb t 32) registers core

period : (core : Core) → core.reset ≡ true → ticked core ≡ period_clock core
period core h = sym (clock_core_by true core h 0)

-- counters and phase put anew, each in its place
pub ticked_parts : (core : Core) → core.reset ≡ true → (hsel : Bool) → hsel ≡ hsel_of core → (s : Sync) → s ≡ on_period hsel core.sync
    → (p : Phase) → p ≡ phase_at_period core.bus.phase → (b : Bus) → b ≡ with_phase core.bus p → with_bus (with_sync core s) b ≡ ticked core
unfolding period_clock
ticked_parts core h hsel e s u p v b w = rw (w, v, u, e) (sym (period core h))

pub ticked_high : (core : Core) → core.reset ≡ true → (ticked core).reset ≡ true
unfolding period_clock
ticked_high core h = ap (λ (c : Core). c.reset) (period core h) ∙ h

after_high_by : (b : Bool) (core : Core) → core.reset ≡ true → (pick b core (ticked core)).reset ≡ true
after_high_by true core h = h
after_high_by false core h = ticked_high core h

pub after_high : (t : ℕ) (core : Core) → core.reset ≡ true → (core_after_cycles t core).reset ≡ true
unfolding core_after_cycles
after_high t core h = after_high_by (ltb t 32) core h

all_by : (a b c d : Bool) → pick a (pick b (pick c d false) false) false ≡ true → (a ≡ true) × (b ≡ true) × (c ≡ true) × (d ≡ true)
all_by true true true d h = (refl, refl, refl, h)
all_by true true false d h = absurd (true≢false (sym h))
all_by true false c d h = absurd (true≢false (sym h))
all_by false b c d h = absurd (true≢false (sym h))

same_bool_lem : (a b : Bool) → same_bool a b ≡ true → b ≡ a
same_bool_lem true b h = h
same_bool_lem false true h = absurd (true≢false (sym h))
same_bool_lem false false h = refl

-- of the counters the registers show overflow bits and latches alone
sync_readings : (registers : List ℕ) (core : Core) (s : Sync) (p : Phase) → s.lines.overflow ≡ core.sync.lines.overflow → s.periods.overflow ≡ core.sync.periods.overflow
    → s.lines.latch.0 ≡ core.sync.lines.latch.0 → s.periods.latch.0 ≡ core.sync.periods.latch.0
    → (r : ℕ) → reading (chip_of registers (with_bus (with_sync core s) (with_phase core.bus p))) r ≡ reading (chip_of registers core) r
unfolding reading shown port0 port1 port2 port3 hvcon
sync_readings registers core s p e₁ e₂ e₃ e₄ r = rw (e₁, e₂, e₃, e₄)

same_readings : (registers : List ℕ) (core : Core) → core.reset ≡ true → same_counts core.sync (on_period (hsel_of core) core.sync) ≡ true
    → (r : ℕ) → reading (chip_of registers (ticked core)) r ≡ reading (chip_of registers core) r
unfolding same_counts period_clock
same_readings registers core h g r =
    let s = on_period (hsel_of core) core.sync in
    let w = all_by _ _ _ _ g in
    ap (λ (c : Core). reading (chip_of registers c) r) (period core h)
    ∙ sync_readings registers core s (phase_at_period core.bus.phase) (same_bool_lem _ _ w.0) (same_bool_lem _ _ w.1) (sym (eqb-true _ _ w.2)) (sym (eqb-true _ _ w.3)) r

knows_clock_by : (b : Bool) (seen registers : List ℕ) (core : Core) → core.reset ≡ true → same_counts core.sync (on_period (hsel_of core) core.sync) ≡ b → Knows seen (chip_of registers core)
    → Knows (pick b seen none_seen) (chip_of registers (ticked core))
knows_clock_by true seen registers core h g k = knows_as seen (chip_of registers core) (chip_of registers (ticked core)) (same_readings registers core h g) k
knows_clock_by false seen registers core h g k = knows_none (chip_of registers (ticked core))

pub clock_requests : (registers : List ℕ) (core : Core) → core.reset ≡ true → is_requesting (chip_of registers (ticked core)) ≡ is_requesting (chip_of registers core)
unfolding is_requesting period_clock
clock_requests registers core h = ap (λ (c : Core). is_requesting (chip_of registers c)) (period core h)

pub knows_clock : (seen registers : List ℕ) (core : Core) → core.reset ≡ true → Knows seen (chip_of registers core) → Knows (seen_after_clock seen (hsel_of core) core.sync) (chip_of registers (ticked core))
unfolding seen_after_clock
knows_clock seen registers core h k = knows_clock_by (same_counts core.sync (on_period (hsel_of core) core.sync)) seen registers core h refl k

clock_length_by : (b : Bool) (seen : List ℕ) → length seen ≡ 38 → length (pick b seen none_seen) ≡ 38
clock_length_by true seen l = l
clock_length_by false seen l = refl

pub clock_length : (seen : List ℕ) (hsel : Bool) (s : Sync) → length seen ≡ 38 → length (seen_after_clock seen hsel s) ≡ 38
unfolding seen_after_clock
clock_length seen hsel s l = clock_length_by (same_counts s (on_period hsel s)) seen l

-- ---- a write

write_by : (reset writable : Bool) (registers : List ℕ) (core w : Core) (s : Kept) → eqb (pick reset (pick writable 0 6) 4) 0 ≡ true
    → chip_of (keep (pick reset (pick writable s same.Same) same.Same) registers) (pick reset (pick writable w core) core) ≡ chip_of (keep s registers) w
write_by true true registers core w s h = refl
write_by true false registers core w s h = absurd (true≢false (sym h))
write_by false x registers core w s h = absurd (true≢false (sym h))

write_chip : (registers : List ℕ) (core : Core) (r b : ℕ) → eqb (write_number core.reset r) 0 ≡ true
    → next (chip_of registers core) (Ok (event.Write r b)) ≡ chip_of (keep (stored_by registers r b) registers) (written core r b)
unfolding next kept_after core_after write_register write_kept write_number
write_chip registers core r b h = write_by core.reset (is_writable r) registers core (written core r b) (stored_by registers r b) h

-- CLRWDT: the registers show nothing of the watchdog
watchdog_readings : (registers : List ℕ) (core : Core) (n r : ℕ) → reading (chip_of registers (with_watchdog core n)) r ≡ reading (chip_of registers core) r
unfolding reading shown port0 port1 port2 port3 hvcon
watchdog_readings registers core n r = refl

watchdog_taken : (core : Core) → core.reset ≡ true → eqb (write_number core.reset CLRWDT) 0 ≡ true
unfolding write_number is_writable row_of table
watchdog_taken core h = rw h

watchdog_chip : (registers : List ℕ) (core : Core) (b : ℕ) → chip_of (keep (stored_by registers CLRWDT b) registers) (written core CLRWDT b) ≡ chip_of registers (with_watchdog core (watchdog_after core.watchdog b))
unfolding stored_by kept_by written written_to clrwdt_written target watchdog_after
watchdog_chip registers core b = refl

watchdog_at_lem : (seen registers : List ℕ) (core : Core) (b : ℕ) → core.reset ≡ true → length seen ≡ 38 → Knows seen (chip_of registers core)
    → Changed registers core CLRWDT b registers (with_watchdog core (watchdog_after core.watchdog b)) seen
watchdog_at_lem seen registers core b h l k =
    record {
      taken = watchdog_taken core h;
      chip = write_chip registers core CLRWDT b (watchdog_taken core h) ∙ watchdog_chip registers core b;
      knows = knows_as seen (chip_of registers core) _ (watchdog_readings registers core (watchdog_after core.watchdog b)) k;
      size = l;
      high = h;
    }

pub watchdog_asked : (registers : List ℕ) (core : Core) (v : ℕ) (w : Bool) → w ≡ is_requesting (chip_of registers core) → w ≡ is_requesting (chip_of registers (with_watchdog core v))
unfolding is_requesting
watchdog_asked registers core v w y = y

pub changed_watchdog : (seen registers : List ℕ) (core : Core) (r b : ℕ) → r ≡ CLRWDT → (v : ℕ) → v ≡ watchdog_after core.watchdog b → core.reset ≡ true → length seen ≡ 38 → Knows seen (chip_of registers core)
    → Changed registers core r b registers (with_watchdog core v) seen
changed_watchdog seen registers core r b e v w h l k = rw (e, w) (watchdog_at_lem seen registers core b h l k)

-- the DACs: each is stored as written, and reads as it is stored
pub record Dac (r : ℕ) : Type 0 where
  pub writable : is_writable r ≡ true
  pub stands : target r ≡ on.Stored
  pub shows : (k : Chip) → k.core.reset ≡ true → known_reading (reading k r) ≡ bit_and (register_at k.registers r) 255

dac_at : (j : ℕ) → j < 14 → Dac (24 + j)
unfolding is_writable is_readable read_mask row_of table target reading shown known_reading
dac_at zero l = record { writable = refl; stands = refl; shows = λ k h. rw h }
dac_at (suc zero) l = record { writable = refl; stands = refl; shows = λ k h. rw h }
dac_at (suc (suc zero)) l = record { writable = refl; stands = refl; shows = λ k h. rw h }
dac_at (suc (suc (suc zero))) l = record { writable = refl; stands = refl; shows = λ k h. rw h }
dac_at (suc (suc (suc (suc zero)))) l = record { writable = refl; stands = refl; shows = λ k h. rw h }
dac_at (suc (suc (suc (suc (suc zero))))) l = record { writable = refl; stands = refl; shows = λ k h. rw h }
dac_at (suc (suc (suc (suc (suc (suc zero)))))) l = record { writable = refl; stands = refl; shows = λ k h. rw h }
dac_at (suc (suc (suc (suc (suc (suc (suc zero))))))) l = record { writable = refl; stands = refl; shows = λ k h. rw h }
dac_at (suc (suc (suc (suc (suc (suc (suc (suc zero)))))))) l = record { writable = refl; stands = refl; shows = λ k h. rw h }
dac_at (suc (suc (suc (suc (suc (suc (suc (suc (suc zero))))))))) l = record { writable = refl; stands = refl; shows = λ k h. rw h }
dac_at (suc (suc (suc (suc (suc (suc (suc (suc (suc (suc zero)))))))))) l = record { writable = refl; stands = refl; shows = λ k h. rw h }
dac_at (suc (suc (suc (suc (suc (suc (suc (suc (suc (suc (suc zero))))))))))) l = record { writable = refl; stands = refl; shows = λ k h. rw h }
dac_at (suc (suc (suc (suc (suc (suc (suc (suc (suc (suc (suc (suc zero)))))))))))) l = record { writable = refl; stands = refl; shows = λ k h. rw h }
dac_at (suc (suc (suc (suc (suc (suc (suc (suc (suc (suc (suc (suc (suc zero))))))))))))) l = record { writable = refl; stands = refl; shows = λ k h. rw h }
dac_at (suc (suc (suc (suc (suc (suc (suc (suc (suc (suc (suc (suc (suc (suc j)))))))))))))) l = absurd (omega arith)

dac_by : (a b : Bool) (r : ℕ) → ltb r 24 ≡ a → ltb r 38 ≡ b → pick a false b ≡ true → Dac r
dac_by true b r e f h = absurd (true≢false (sym h))
dac_by false false r e f h = absurd (true≢false (sym h))
dac_by false true r e f h =
    let l : 24 ≤ r = ltb-false r 24 e in
    let m : r < 38 = ltb-true r 38 f in
    let z : 24 + (r - 24) ≡ r = omega arith in
    subst Dac z (dac_at (r - 24) (omega arith))

dac : (r : ℕ) → is_dac r ≡ true → Dac r
unfolding is_dac
dac r h = dac_by (ltb r 24) (ltb r 38) r refl refl h

number_taken : (x y : Bool) → x ≡ true → y ≡ true → eqb (pick x (pick y 0 6) 4) 0 ≡ true
number_taken x y h g = rw (h, g)

dac_kept : (t : Target) → t ≡ on.Stored → (registers : List ℕ) (core : Core) (r b : ℕ)
    → chip_of (keep (kept_by t registers r b) registers) (written_to t core b) ≡ chip_of (set registers r (updated r (register_at registers r) b)) core
unfolding kept_by written_to
dac_kept t e registers core r b = rw e

dac_taken : (core : Core) (r : ℕ) → Dac r → core.reset ≡ true → eqb (write_number core.reset r) 0 ≡ true
unfolding write_number
dac_taken core r d h = number_taken core.reset (is_writable r) h d.writable

dac_chip : (registers : List ℕ) (core : Core) (r b : ℕ) → Dac r
    → chip_of (keep (stored_by registers r b) registers) (written core r b) ≡ chip_of (set registers r (updated r (register_at registers r) b)) core
unfolding stored_by written
dac_chip registers core r b d = dac_kept (target r) d.stands registers core r b

dac_changed : (seen registers : List ℕ) (core : Core) (r b : ℕ) → is_dac r ≡ true → core.reset ≡ true → length seen ≡ 38 → Knows seen (chip_of registers core)
    → Changed registers core r b (set registers r (updated r (register_at registers r) b)) core (seen_after_dac seen (set registers r (updated r (register_at registers r) b)) r)
dac_changed seen registers core r b e h l k =
    let d = dac r e in
    let v = updated r (register_at registers r) b in
    record {
      taken = dac_taken core r d h;
      chip = write_chip registers core r b (dac_taken core r d h) ∙ dac_chip registers core r b d;
      knows = knows_stored registers core r v seen _ l (writable_register r d.writable) k (read (sym (d.shows (chip_of (set registers r v) core) h)));
      size = stored_length registers core r v seen _ l;
      high = h;
    }

pub changed_dac : (seen registers : List ℕ) (core : Core) (r b : ℕ) (f : Bool) → f ≡ is_dac r → f ≡ true → core.reset ≡ true → length seen ≡ 38 → Knows seen (chip_of registers core)
    → (registers' seen' : List ℕ) → registers' ≡ set registers r (updated r (register_at registers r) b) → seen' ≡ seen_after_dac seen registers' r
    → Changed registers core r b registers' core seen'
changed_dac seen registers core r b f e g h l k registers' seen' x y = rw (y, x) (dac_changed seen registers core r b (sym e ∙ g) h l k)

dac_not_iex : (a b : Bool) (r : ℕ) → ltb r 24 ≡ a → pick a false b ≡ true → eqb IEX r ≡ false
dac_not_iex true b r e h = absurd (true≢false (sym h))
dac_not_iex false b r e h =
    let l : 24 ≤ r = ltb-false r 24 e in
    ne_eqb IEX r (λ z. omega (arith, l, z))

-- a DAC makes no request
pub dac_requests : (registers : List ℕ) (core : Core) (r v : ℕ) → is_dac r ≡ true → is_requesting (chip_of (set registers r v) core) ≡ is_requesting (chip_of registers core)
unfolding is_dac is_requesting
dac_requests registers core r v h =
    ap (λ (x : ℕ). not (eqb (requested core.irqx x) 0)) (get_or-set_other registers r IEX v 0 (eqb-false IEX r (dac_not_iex (ltb r 24) (ltb r 38) r refl h)))

-- w was the request
pub dac_asked : (registers : List ℕ) (core : Core) (r v : ℕ) (f : Bool) → f ≡ is_dac r → f ≡ true → (registers' : List ℕ) → registers' ≡ set registers r v → (w : Bool)
    → w ≡ is_requesting (chip_of registers core) → w ≡ is_requesting (chip_of registers' core)
dac_asked registers core r v f e g registers' x w y = y ∙ sym (dac_requests registers core r v (sym e ∙ g)) ∙ ap (λ (l : List ℕ). is_requesting (chip_of l core)) (sym x)

-- any other register
other_high : (t : Target) (core : Core) (b : ℕ) → (written_to t core b).reset ≡ core.reset
unfolding written_to mdcon_written clrflg_written clrwdt_written iiadr_written iidat_written iists_written
other_high on.Stored core b = refl
other_high on.Mdcon core b = refl
other_high on.Hvcon core b = refl
other_high on.Clrflg core b = refl
other_high on.Clrwdt core b = refl
other_high on.Iiadr core b = refl
other_high on.Iidat core b = refl
other_high on.Iists core b = refl
other_high on.Bt core b = refl

other_knows : (t : Target) (seen registers : List ℕ) (core : Core) (r b : ℕ) → length seen ≡ 38 → r < 38 → Knows seen (chip_of registers core)
    → Knows (pick (is_stored t) (forgotten r (ports_forgotten seen)) none_seen) (chip_of (keep (kept_by t registers r b) registers) (written_to t core b))
unfolding is_stored kept_by written_to
other_knows on.Stored seen registers core r b l m k = knows_stored registers core r (updated r (register_at registers r) b) seen (not_seen r) l m k (unseen refl)
other_knows on.Mdcon seen registers core r b l m k = knows_none _
other_knows on.Hvcon seen registers core r b l m k = knows_none _
other_knows on.Clrflg seen registers core r b l m k = knows_none _
other_knows on.Clrwdt seen registers core r b l m k = knows_none _
other_knows on.Iiadr seen registers core r b l m k = knows_none _
other_knows on.Iidat seen registers core r b l m k = knows_none _
other_knows on.Iists seen registers core r b l m k = knows_none _
other_knows on.Bt seen registers core r b l m k = knows_none _

other_length : (b : Bool) (core : Core) (seen : List ℕ) (r : ℕ) → length seen ≡ 38 → length (pick b (forgotten r (ports_forgotten seen)) none_seen) ≡ 38
other_length true core seen r l = stored_length [] core r 0 seen (not_seen r) l
other_length false core seen r l = refl

writable_by : (x y : Bool) → x ≡ true → eqb (pick x (pick y 0 6) 4) 0 ≡ true → y ≡ true
writable_by true true h g = refl
writable_by true false h g = absurd (true≢false (sym g))
writable_by false y h g = absurd (true≢false (sym h))

other_writable : (core : Core) (r : ℕ) → core.reset ≡ true → eqb (write_number core.reset r) 0 ≡ true → is_writable r ≡ true
unfolding write_number
other_writable core r h g = writable_by core.reset (is_writable r) h g

other_at : (seen registers : List ℕ) (core : Core) (r b : ℕ) → eqb (write_number core.reset r) 0 ≡ true → core.reset ≡ true → length seen ≡ 38 → Knows seen (chip_of registers core)
    → Changed registers core r b (keep (stored_by registers r b) registers) (written core r b) (seen_after_write seen r)
unfolding stored_by written
other_at seen registers core r b e h l k =
    record {
      taken = e;
      chip = write_chip registers core r b e;
      knows = other_knows (target r) seen registers core r b l (writable_register r (other_writable core r h e)) k;
      size = other_length (is_stored (target r)) core seen r l;
      high = other_high (target r) core b ∙ h;
    }

-- w is its number, with RESET high
pub changed_other : (seen registers : List ℕ) (core : Core) (r b w : ℕ) → w ≡ write_number true r → eqb w 0 ≡ true → core.reset ≡ true → length seen ≡ 38 → Knows seen (chip_of registers core)
    → (registers' : List ℕ) (core' : Core) (seen' : List ℕ) → core' ≡ written core r b → registers' ≡ keep (stored_by registers r b) registers → seen' ≡ seen_after_write seen r
    → Changed registers core r b registers' core' seen'
changed_other seen registers core r b w e z h l k registers' core' seen' x y s =
    let g : eqb (write_number core.reset r) 0 ≡ true = rw (h, ← e) z in
    rw (x, y, s) (other_at seen registers core r b g h l k)
