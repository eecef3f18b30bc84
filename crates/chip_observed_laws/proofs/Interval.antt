-- The interval after an event and after a list of words: at HSEL 0 it counts the 8 µs clocks modulo 1,024, at HSEL 1 it stands, and it is zeroed exactly
-- by HSEL written from 1 to 0 and by a reset.
-- Assumes nothing.
use mathlib.Core.Path.{◌≡◌, refl, sym, ap, ◌∙◌}
use mathlib.Core.Bool.{Bool, true, false, not, ◌&&◌, ◌||◌}
use mathlib.Core.List.{List, [], ◌∷◌}
use Prim.Native.Nat.{ℕ, ◌+◌, ◌%◌, ◌<◌}
use native.Mathlib.Omega.{arith}
use native.Mathlib.Nat.{zero-add}
use borrow.Author.Tests.{eqb-true, ltb-true, ltb-false, not-false}
use lib.Dec.{eqb, ltb}
use Rattle.bits.specs.Byte.{pick, num, bit}
use Rattle.registers.specs.Names.{MDCON, CLRFLG, BTCON}
use Rattle.registers.specs.Table.{table, row_of, is_writable, updated}
use Rattle.std.specs.Prelude.{Ok, Err}
use Rattle.events.specs.Decoded.{Decoded}
use Rattle.events.specs.declared.Event.TheVariants.{Read, Write, Pin, Clock, Polarity}
use Rattle.events.specs.Word.{decode}
use Rattle.sync.specs.declared.Sync.{Sync}
use Rattle.sync.specs.Sync.{on_hsync, on_vsync, on_period, interval_next, hsel_cleared, clear_overflow, zero_sync}
use Rattle.counters.specs.Count.{cycle_next, watchdog_fires, watchdog_next}
use Rattle.bus.specs.declared.Mode.{Mode}
use Rattle.bus.specs.declared.Mode.TheVariants.{Off, Ddc1, Ddc2b}
use Rattle.bus.specs.declared.Edge.{Edge}
use Rattle.bus.specs.declared.Edge.TheVariants.{Flat, Rise, Fall}
use Rattle.bus.specs.Bus.{edge}
use Rattle.chip.specs.declared.Core.{Core}
use Rattle.chip.specs.declared.Chip.{Chip}
use Rattle.chip.specs.State.{hsel_of, reset_at, reset_core, register_at, with_polarity, with_watchdog, with_reset, with_scl, with_sda}
use Rattle.chip_edges.specs.Edges.{on_scl, on_scl_ddc1, on_scl_ddc2b, scl_rise, scl_fall, leave_ddc1, scl_moved, on_sda, on_sda_ddc2b, started, stopped, sda_moved}
use Rattle.chip_ddc_writes.specs.DdcWrites.{sync_at_hsel}
use Rattle.chip_pins.specs.declared.PinKind.{PinKind}
use Rattle.chip_pins.specs.Pins.{rises, port0_moved, port1_moved, port2_moved, p16_moved, hsync_moved, vsync_level, vsync_moved, vsync_rise, on_reset, reset_moved, pin_moved_as, pin_moved}
use Rattle.chip_pins.specs.Numbers.{Unnamed, Numbered, p16_pin, sda_pin, scl_pin, hsynci_pin, vsynci_pin, reset_pin, port0_pin, port1_pin, port2_pin, no_pin}
use Rattle.chip_pins.proofs.Numbers.{numbered}
use Rattle.chip_clocks.specs.Clocks.{period_clock, timer_runs, timer_step, timer_clock, watchdog_clock, clocked_as, clocked, polarity_found}
use Rattle.chip_events.specs.Outcome.{core_after, next}
use Rattle.chip_flag_laws.specs.Causes.{is_clock}
use Rattle.chip_flag_laws.proofs.Clocks.{watchdog_last}
use Rattle.chip_write_laws.proofs.Fields.{fields, by_write}
use Rattle.step.specs.Step.{advance}
use Rattle.list_call.specs.Run.{advanced}
use Rattle.chip_count_laws.specs.Counting.{period_clocks, never}
use Rattle.chip_count_laws.proofs.Events.{hsel_written, effect}
use Rattle.chip_observed_laws.specs.Interval.{counts_interval, zeroes_interval, hsel_high, hsel_low}

-- what an event makes of the interval
abbrev After : Chip → Core → Decoded → Type 0
After c after e = after.sync.interval ≡ pick (zeroes_interval c e) 0 (pick (counts_interval c e) (cycle_next 1023 c.core.sync.interval) c.core.sync.interval)

-- ---- writes

by_tests : (mdcon reset clear old new h v : Bool) (s : Sync) → reset ≡ true →
    (pick mdcon (sync_at_hsel old new s) (pick clear (clear_overflow h v s) s)).interval ≡ pick (((mdcon && (reset && not new)) && old) || false) 0 s.interval
unfolding sync_at_hsel hsel_cleared clear_overflow
by_tests true true clear true true h v s r = refl
by_tests true true clear true false h v s r = refl
by_tests true true clear false true h v s r = refl
by_tests true true clear false false h v s r = refl
by_tests true false clear old new h v s r = cc
by_tests false reset true old new h v s r = refl
by_tests false reset false old new h v s r = refl

not_written : (c : Chip) (a : ℕ) (x : Bool) (found : Bool) → eqb a MDCON ≡ found → (c.core.reset && is_writable a) ≡ false → (((found && (c.core.reset && x)) && hsel_of c.core) || false) ≡ false
unfolding is_writable row_of table
not_written c a x true e h = low c.core.reset (rw (eqb-true a MDCON e) at h)
  where
    low : (r : Bool) → (r && true) ≡ false → (((true && (r && x)) && hsel_of c.core) || false) ≡ false
    low true k = cc
    low false k = refl
not_written c a x false e h = refl

at_write : (c : Chip) (a b : ℕ) → After c (next c (Ok (Write a b))).core (Ok (Write a b))
unfolding zeroes_interval counts_interval
at_write c a b =
    by_write (λ (x : Chip). After c x.core (Ok (Write a b))) c a b
    (λ r _. rw (hsel_written c.core.mdcon b) (by_tests (eqb a MDCON) c.core.reset (eqb a CLRFLG) (bit 2 c.core.mdcon) (bit 2 b) (bit 7 b) (bit 6 b) c.core.sync r))
    (λ h. rw (not_written c a (not (bit 2 b)) (eqb a MDCON) refl h))

-- ---- pins

scl_sync : (m : Mode) (e : Edge) (c : Core) → (on_scl m e c).sync ≡ c.sync
unfolding on_scl on_scl_ddc1 on_scl_ddc2b scl_rise scl_fall leave_ddc1
scl_sync Off e c = refl
scl_sync Ddc1 Flat c = refl
scl_sync Ddc1 Rise c = refl
scl_sync Ddc1 Fall c = refl
scl_sync Ddc2b Flat c = refl
scl_sync Ddc2b Rise c = refl
scl_sync Ddc2b Fall c = refl

sda_sync : (m : Mode) (high : Bool) (e : Edge) (c : Core) → (on_sda m high e c).sync ≡ c.sync
unfolding on_sda on_sda_ddc2b started stopped
sda_sync Off high e c = refl
sda_sync Ddc1 high e c = refl
sda_sync Ddc2b high Flat c = refl
sda_sync Ddc2b true Rise c = refl
sda_sync Ddc2b false Rise c = refl
sda_sync Ddc2b true Fall c = refl
sda_sync Ddc2b false Fall c = refl

hsync_kept : (t : Bool) (s : Sync) → (pick t (on_hsync s) s).interval ≡ s.interval
unfolding on_hsync
hsync_kept true s = refl
hsync_kept false s = refl

vsync_kept : (t : Bool) (c : Core) (level : Bool) → (pick t (vsync_rise (vsync_level c level)) (vsync_level c level)).sync.interval ≡ c.sync.interval
unfolding vsync_rise on_vsync
vsync_kept true c level = refl
vsync_kept false c level = refl

reset_by : (old level : Bool) (c : Core) → (on_reset (edge old level) (with_reset c level)).sync.interval ≡ pick (old && not level) 0 c.sync.interval
unfolding on_reset reset_core reset_at zero_sync
reset_by true true c = refl
reset_by true false c = refl
reset_by false true c = refl
reset_by false false c = refl

at_kind_lem : {k : PinKind} {p : ℕ} → Numbered k p → (c : Chip) (level : Bool) → After c (pin_moved_as k c.core p level) (Ok (Pin p level))
unfolding pin_moved_as port0_moved port1_moved port2_moved p16_moved scl_moved sda_moved hsync_moved vsync_moved reset_moved zeroes_interval counts_interval
at_kind_lem (port0_pin u high) c level = rw u.reset
at_kind_lem (port1_pin u low high) c level = rw u.reset
at_kind_lem (port2_pin u low high) c level = rw u.reset
at_kind_lem (no_pin u none) c level = rw u.reset
at_kind_lem p16_pin c level = refl
at_kind_lem sda_pin c level = ap (λ (s : Sync). s.interval) (sda_sync _ _ _ (with_sda c.core level))
at_kind_lem scl_pin c level = ap (λ (s : Sync). s.interval) (scl_sync _ _ (with_scl c.core level))
at_kind_lem hsynci_pin c level = hsync_kept (rises c.core.reset c.core.pins.hsynci level) c.core.sync
at_kind_lem vsynci_pin c level = vsync_kept (rises c.core.reset c.core.pins.vsynci level) c.core level
at_kind_lem reset_pin c level = reset_by c.core.reset level c.core

at_pin : (c : Chip) (p : ℕ) (level : Bool) → After c (next c (Ok (Pin p level))).core (Ok (Pin p level))
unfolding next core_after pin_moved
at_pin c p level = at_kind_lem (numbered p) c level

-- ---- clocks

period_by : (reset hsel : Bool) (c : Core) → hsel_of c ≡ hsel →
    (pick reset (period_clock c) c).sync.interval ≡ pick (reset && not hsel) (cycle_next 1023 c.sync.interval) c.sync.interval
unfolding period_clock on_period interval_next
period_by true true c h = rw h
period_by true false c h = rw h
period_by false hsel c h = refl

timer_by : (reset runs : Bool) (c : Core) → (pick reset (pick runs (timer_step c) c) c).sync ≡ c.sync
unfolding timer_step
timer_by true true c = refl
timer_by true false c = refl
timer_by false runs c = refl

watchdog_by : (reset fires : Bool) (c : Core) (n : ℕ) → (pick reset (pick fires (reset_core c) (with_watchdog c n)) c).sync.interval ≡ pick (reset && fires) 0 c.sync.interval
unfolding reset_core reset_at zero_sync
watchdog_by true true c n = refl
watchdog_by true false c n = refl
watchdog_by false fires c n = refl

clock_by : (c : Chip) (k : ℕ) (period watchdog : Bool) → eqb k 0 ≡ period → eqb k 3 ≡ watchdog → After c (next c (Ok (Clock k))).core (Ok (Clock k))
unfolding next core_after clocked clocked_as watchdog_clock timer_clock zeroes_interval counts_interval
clock_by c k true watchdog e f = rw (eqb-true k 0 e) (period_by c.core.reset (hsel_of c.core) c.core refl)
clock_by c k false true e f = rw (eqb-true k 3 f, ← (watchdog_last c.core.watchdog)) (watchdog_by c.core.reset (watchdog_fires c.core.watchdog) c.core (watchdog_next c.core.watchdog))
clock_by c k false false e f = rw (e, f) (ap (λ (s : Sync). s.interval) (timer_by c.core.reset (timer_runs (register_at c.registers BTCON) k) c.core))

-- ---- every event

polarity_by : (reset : Bool) (c : Core) (n : ℕ) → (pick reset (with_polarity c n) c).sync.interval ≡ c.sync.interval
polarity_by true c n = refl
polarity_by false c n = refl

after : (c : Chip) (e : Decoded) → After c (next c e).core e
unfolding next core_after polarity_found zeroes_interval counts_interval
after c (Ok (Read a)) = refl
after c (Ok (Write a b)) = at_write c a b
after c (Ok (Pin p level)) = at_pin c p level
after c (Ok (Clock k)) = clock_by c k _ _ refl refl
after c (Ok (Polarity vertical level)) = polarity_by c.core.reset c.core _
after c (Err r) = refl

-- ---- numbers

cycle : (t : Bool) (n : ℕ) → n < 1024 → pick t (cycle_next 1023 n) n ≡ (n + num t) % 1024
unfolding cycle_next
cycle true n h = below (ltb n 1023) refl
  where
    below : (t : Bool) → ltb n 1023 ≡ t → pick t (n + 1) 0 ≡ (n + 1) % 1024
    below true e = omega (arith, ltb-true n 1023 e)
    below false e = omega (arith, ltb-false n 1023 e)
cycle false n h = omega arith

-- the interval after an event: zeroed exactly by the events named, else one more for a clock that is counted, modulo 1,024
pub interval_after : (c : Chip) (e : Decoded) → c.core.sync.interval < 1024 →
    (next c e).core.sync.interval ≡ pick (zeroes_interval c e) 0 ((c.core.sync.interval + num (counts_interval c e)) % 1024)
interval_after c e h = after c e ∙ rw (cycle (counts_interval c e) c.core.sync.interval h)

-- ---- over a list of words

apart : (x y : Bool) → (not x && y) ≡ true → (x ≡ false) × (y ≡ true)
apart true y h = (cc, cc)
apart false y h = (refl, h)

stays_below : (t : Bool) (n : ℕ) → pick t 0 (n % 1024) < 1024
stays_below true n = omega arith
stays_below false n = omega arith

below_after : (c : Chip) (e : Decoded) → c.core.sync.interval < 1024 → (next c e).core.sync.interval < 1024
below_after c e h = rw (interval_after c e h) (stays_below (zeroes_interval c e) _)

kept_after_lem : (c : Chip) (e : Decoded) → c.core.sync.interval < 1024 → zeroes_interval c e ≡ false →
    (next c e).core.sync.interval ≡ (c.core.sync.interval + num (counts_interval c e)) % 1024
kept_after_lem c e h z = interval_after c e h ∙ rw z

counts_low : (x r h : Bool) → h ≡ false → (x && (r && not h)) ≡ (x && r)
counts_low true true h e = rw e
counts_low true false h e = refl
counts_low false r h e = refl

counts_high : (x r h : Bool) → h ≡ true → (x && (r && not h)) ≡ false
counts_high true true h e = rw e
counts_high true false h e = refl
counts_high false r h e = refl

-- with HSEL 0 at each word: the start plus the 8 µs clocks, modulo 1,024
pub interval_runs : (c : Chip) (ws : List ℕ) → c.core.sync.interval < 1024 → never hsel_high c ws ≡ true → never zeroes_interval c ws ≡ true →
    (advanced c ws).core.sync.interval ≡ (c.core.sync.interval + period_clocks c.core.reset ws) % 1024
unfolding advance counts_interval
interval_runs c [] b h z = omega (arith, b)
interval_runs c (w ∷ ws) b h z =
    let e : Decoded = decode w in
    let low = apart (hsel_of c.core) _ h in
    let kept = apart (zeroes_interval c e) _ z in
    let one : (next c e).core.sync.interval ≡ (c.core.sync.interval + num (is_clock 0 e && c.core.reset)) % 1024 =
    kept_after_lem c e b kept.0 ∙ rw (counts_low (is_clock 0 e) c.core.reset (hsel_of c.core) low.0) in
    interval_runs (next c e) ws (below_after c e b) low.1 kept.1
    ∙ rw (one, (effect c e).reset) (omega arith)

-- with HSEL 1 at each word: it stands
pub interval_stands : (c : Chip) (ws : List ℕ) → never hsel_low c ws ≡ true → never zeroes_interval c ws ≡ true →
    (advanced c ws).core.sync.interval ≡ c.core.sync.interval
unfolding advance counts_interval
interval_stands c [] h z = refl
interval_stands c (w ∷ ws) h z =
    let e : Decoded = decode w in
    let high = apart (not (hsel_of c.core)) _ h in
    let kept = apart (zeroes_interval c e) _ z in
    let one : (next c e).core.sync.interval ≡ c.core.sync.interval =
    after c e ∙ rw (kept.0, counts_high (is_clock 0 e) c.core.reset (hsel_of c.core) (not-false (hsel_of c.core) high.0)) in
    interval_stands (next c e) ws high.1 kept.1 ∙ one

-- since the word that zeroed it, with HSEL 0 at each word after: the 8 µs clocks, modulo 1,024
pub interval_since : (c : Chip) (w : ℕ) (ws : List ℕ) → c.core.sync.interval < 1024 → zeroes_interval c (decode w) ≡ true →
    never hsel_high (next c (decode w)) ws ≡ true → never zeroes_interval (next c (decode w)) ws ≡ true →
    (advanced c (w ∷ ws)).core.sync.interval ≡ period_clocks (next c (decode w)).core.reset ws % 1024
unfolding advance
interval_since c w ws b z h k =
    let zero : (next c (decode w)).core.sync.interval ≡ 0 = interval_after c (decode w) b ∙ rw z in
    interval_runs (next c (decode w)) ws (below_after c (decode w) b) h k ∙ rw (zero, zero-add (period_clocks (next c (decode w)).core.reset ws))
