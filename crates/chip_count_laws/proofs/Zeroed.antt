-- Each event that the tables name zeroes its count: the tables leave no more of a run out than must be.
-- Assumes nothing.
use mathlib.Core.Path.{◌≡◌, refl, ◌∙◌}
use mathlib.Core.Bool.{Bool, true, false, not, ◌&&◌, ◌||◌}
use mathlib.Core.Logic.{◌⊎◌, inl, inr, ⊎_elim}
use Prim.Native.Nat.{ℕ}
use native.Mathlib.Omega.{arith}
use borrow.Author.Tests.{ltb-true, le-ltb, eqb-true, not-true}
use lib.Dec.{eqb, ltb}
use Rattle.bits.specs.Byte.{bit}
use Rattle.bits.proofs.Finite.{both}
use Rattle.registers.specs.Names.{MDCON, CLRFLG}
use Rattle.registers.specs.Table.{row_of, is_writable}
use Rattle.std.specs.Prelude.{Ok, Err}
use Rattle.events.specs.Decoded.{Decoded}
use Rattle.events.specs.declared.Event.TheVariants.{Read, Write, Pin, Clock, Polarity}
use Rattle.bits.proofs.Level.{pick_by}
use Rattle.sync.specs.declared.Sync.{Sync}
use Rattle.sync.specs.declared.LineCounter.{LineCounter}
use Rattle.sync.specs.declared.PeriodCounter.{PeriodCounter}
use Rattle.counters.specs.Count.{zeroed}
use Rattle.sync.specs.Sync.{clear_lines, clear_periods, zero_lines, latch_lines, latch_periods, lines_on_vsync, lines_on_period, on_vsync, on_period, hsel_cleared, clear_overflow, zero_sync}
use Rattle.counters.specs.Count.{watchdog_fires}
use Rattle.bus.specs.Bus.{edge}
use Rattle.chip.specs.declared.Core.{Core}
use Rattle.chip.specs.declared.Chip.{Chip}
use Rattle.chip.specs.State.{hsel_of, reset_at, reset_core, with_reset}
use Rattle.chip_writes.specs.Writes.{target, clrflg_written, written_to, written, write_register}
use Rattle.chip_ddc_writes.specs.DdcWrites.{sync_at_hsel, mdcon_written}
use Rattle.chip_pins.specs.Pins.{pin_kind, rises, on_reset, reset_moved, vsync_moved, pin_moved_as, pin_moved}
use Rattle.chip_clocks.specs.Clocks.{watchdog_clock, clocked_as, clocked}
use Rattle.chip_events.specs.Outcome.{core_after, next}
use Rattle.chip_flag_laws.specs.Causes.{rises_vsynci}
use Rattle.chip_flag_laws.proofs.Clocks.{watchdog_last}
use Rattle.chip_count_laws.specs.Counting.{zeroes_lines, zeroes_periods}
use Rattle.chip_count_laws.proofs.Events.{hsel_written, rise_is, vsync_moves, period_moves}

-- ---- tests taken apart

either : (x y : Bool) → (x || y) ≡ true → (x ≡ true) ⊎ (y ≡ true)
either true y h = inl refl
either false y h = inr h

clash : {A : Type 0} (t : Bool) → t ≡ true → t ≡ false → A
clash t h k = absurd (let z : ◌≡◌ {A = ℕ} 0 1 = cc in omega arith)

-- ---- a reset zeroes both

at_reset_pin : (c : Core) (old level : Bool) → (old && not level) ≡ true → (on_reset (edge old level) (with_reset c level)).sync ≡ zero_sync
unfolding on_reset reset_core reset_at
at_reset_pin c true true h = cc
at_reset_pin c true false h = refl
at_reset_pin c false level h = cc

pub reset_pin : (c : Chip) (p : ℕ) (level : Bool) → (eqb p 28 && (c.core.reset && not level)) ≡ true → (next c (Ok (Pin p level))).core.sync ≡ zero_sync
unfolding next core_after pin_moved pin_moved_as pin_kind reset_moved
reset_pin c p level h =
    let k = both (eqb p 28) (c.core.reset && not level) h in
    rw (eqb-true p 28 k.0) (at_reset_pin c.core c.core.reset level k.1)

pub reset_clock : (c : Chip) (k : ℕ) → (eqb k 3 && (c.core.reset && ltb 62 c.core.watchdog)) ≡ true → (next c (Ok (Clock k))).core.sync ≡ zero_sync
unfolding next core_after clocked clocked_as watchdog_clock reset_core reset_at
reset_clock c k h =
    let e = both (eqb k 3) (c.core.reset && ltb 62 c.core.watchdog) h in
    let d = both c.core.reset (ltb 62 c.core.watchdog) e.1 in
    let P : Core → Type 0 = λ (x : Core). x.sync ≡ zero_sync in
    rw (eqb-true k 3 e.0) (pick_by P c.core.reset (λ _. pick_by P (watchdog_fires c.core.watchdog) (λ _. refl) (clash _ (watchdog_last c.core.watchdog ∙ d.1))) (clash _ d.0))

-- ---- writes

clear_lines_lem : (t : Bool) (l : LineCounter) → t ≡ true → (clear_lines t l).count.0 ≡ 0
unfolding clear_lines
clear_lines_lem t l h = rw h

clear_periods_lem : (t : Bool) (p : PeriodCounter) → t ≡ true → (clear_periods t p).count.0 ≡ 0
unfolding clear_periods
clear_periods_lem t p h = rw h

hsel_zero : (old new : Bool) (s : Sync) → old ≡ true → new ≡ false → (sync_at_hsel old new s).lines.count.0 ≡ 0
unfolding sync_at_hsel hsel_cleared zero_lines
hsel_zero old new s h k = rw (h, k)

pub clrflg_lines : (c : Chip) (a b : ℕ) → (eqb a CLRFLG && (c.core.reset && bit 7 b)) ≡ true → (next c (Ok (Write a b))).core.sync.lines.count.0 ≡ 0
unfolding next core_after write_register is_writable row_of written target written_to clrflg_written clear_overflow
clrflg_lines c a b h =
    let k = both (eqb a CLRFLG) (c.core.reset && bit 7 b) h in
    let d = both c.core.reset (bit 7 b) k.1 in
    rw (eqb-true a CLRFLG k.0) (pick_by (λ (x : Core). x.sync.lines.count.0 ≡ 0) c.core.reset (λ _. clear_lines_lem (bit 7 b) c.core.sync.lines d.1) (clash _ d.0))

pub clrflg_periods : (c : Chip) (a b : ℕ) → (eqb a CLRFLG && (c.core.reset && bit 6 b)) ≡ true → (next c (Ok (Write a b))).core.sync.periods.count.0 ≡ 0
unfolding next core_after write_register is_writable row_of written target written_to clrflg_written clear_overflow
clrflg_periods c a b h =
    let k = both (eqb a CLRFLG) (c.core.reset && bit 6 b) h in
    let d = both c.core.reset (bit 6 b) k.1 in
    rw (eqb-true a CLRFLG k.0) (pick_by (λ (x : Core). x.sync.periods.count.0 ≡ 0) c.core.reset (λ _. clear_periods_lem (bit 6 b) c.core.sync.periods d.1) (clash _ d.0))

pub mdcon_lines : (c : Chip) (a b : ℕ) → ((eqb a MDCON && (c.core.reset && not (bit 2 b))) && hsel_of c.core) ≡ true → (next c (Ok (Write a b))).core.sync.lines.count.0 ≡ 0
unfolding next core_after write_register is_writable row_of written target written_to mdcon_written
mdcon_lines c a b h =
    let j = both (eqb a MDCON && (c.core.reset && not (bit 2 b))) (hsel_of c.core) h in
    let k = both (eqb a MDCON) (c.core.reset && not (bit 2 b)) j.0 in
    let d = both c.core.reset (not (bit 2 b)) k.1 in
    rw (eqb-true a MDCON k.0)
    (pick_by (λ (x : Core). x.sync.lines.count.0 ≡ 0) c.core.reset
    (λ _. hsel_zero (hsel_of c.core) _ c.core.sync j.1 (hsel_written c.core.mdcon b ∙ not-true (bit 2 b) d.1))
    (clash _ d.0))

-- ---- latching

latch_lines_lem : (l : LineCounter) → l.overflow ≡ false → (latch_lines l).count.0 ≡ 0
unfolding latch_lines zeroed
latch_lines_lem l o = rw o

latch_periods_lem : (p : PeriodCounter) → p.overflow ≡ false → (latch_periods p).count.0 ≡ 0
unfolding latch_periods zeroed
latch_periods_lem p o = rw o

vsync_sync : (c : Chip) (p : ℕ) (level : Bool) → rises_vsynci c (Ok (Pin p level)) ≡ true → (next c (Ok (Pin p level))).core.sync ≡ on_vsync (hsel_of c.core) c.core.sync
unfolding next core_after pin_moved pin_moved_as pin_kind vsync_moved
vsync_sync c p level h =
    let k = both (eqb p 27 && level) (c.core.reset && not c.core.pins.vsynci) h in
    let e = both (eqb p 27) level k.0 in
    let rise : rises c.core.reset c.core.pins.vsynci level ≡ true = rise_is c.core.reset c.core.pins.vsynci level ∙ rw e.1 k.1 in
    rw (eqb-true p 27 e.0)
    ((vsync_moves (rises c.core.reset c.core.pins.vsynci level) c.core level).sync ∙ pick_by (λ (s : Sync). s ≡ on_vsync (hsel_of c.core) c.core.sync) (rises c.core.reset c.core.pins.vsynci level) (λ _. refl) (clash _ rise))

vsync_lines : (c : Chip) (p : ℕ) (level : Bool) → (rises_vsynci c (Ok (Pin p level)) && (hsel_of c.core && not c.core.sync.lines.overflow)) ≡ true → (next c (Ok (Pin p level))).core.sync.lines.count.0 ≡ 0
unfolding on_vsync lines_on_vsync
vsync_lines c p level h =
    let k = both (rises_vsynci c (Ok (Pin p level))) (hsel_of c.core && not c.core.sync.lines.overflow) h in
    let d = both (hsel_of c.core) (not c.core.sync.lines.overflow) k.1 in
    rw (vsync_sync c p level k.0)
    (pick_by (λ (l : LineCounter). l.count.0 ≡ 0) (hsel_of c.core) (λ _. latch_lines_lem c.core.sync.lines (not-true c.core.sync.lines.overflow d.1)) (clash _ d.0))

vsync_periods : (c : Chip) (p : ℕ) (level : Bool) → (rises_vsynci c (Ok (Pin p level)) && not c.core.sync.periods.overflow) ≡ true → (next c (Ok (Pin p level))).core.sync.periods.count.0 ≡ 0
unfolding on_vsync
vsync_periods c p level h =
    let k = both (rises_vsynci c (Ok (Pin p level))) (not c.core.sync.periods.overflow) h in
    rw (vsync_sync c p level k.0) (latch_periods_lem c.core.sync.periods (not-true c.core.sync.periods.overflow k.1))

period_lines : (c : Chip) (k : ℕ) →
    (eqb k 0 && (c.core.reset && (not (hsel_of c.core) && (ltb 1022 c.core.sync.interval && not c.core.sync.lines.overflow)))) ≡ true → (next c (Ok (Clock k))).core.sync.lines.count.0 ≡ 0
unfolding next core_after clocked clocked_as on_period lines_on_period
period_lines c k h =
    let e = both (eqb k 0) (c.core.reset && (not (hsel_of c.core) && (ltb 1022 c.core.sync.interval && not c.core.sync.lines.overflow))) h in
    let d = both c.core.reset (not (hsel_of c.core) && (ltb 1022 c.core.sync.interval && not c.core.sync.lines.overflow)) e.1 in
    let f = both (not (hsel_of c.core)) (ltb 1022 c.core.sync.interval && not c.core.sync.lines.overflow) d.1 in
    let g = both (ltb 1022 c.core.sync.interval) (not c.core.sync.lines.overflow) f.1 in
    let most : ltb c.core.sync.interval 1023 ≡ false = le-ltb c.core.sync.interval 1023 (omega (arith, ltb-true 1022 c.core.sync.interval g.0)) in
    rw (eqb-true k 0 e.0, (period_moves c.core.reset c.core).sync)
    (pick_by (λ (s : Sync). s.lines.count.0 ≡ 0) c.core.reset
    (λ _. rw (not-true (hsel_of c.core) f.0, most) (latch_lines_lem c.core.sync.lines (not-true c.core.sync.lines.overflow g.1)))
    (clash _ d.0))

-- ---- the theorems

impossible : {A : Type 0} → false ≡ true → A
impossible h = clash false h refl

pub lines_zeroed : (c : Chip) (e : Decoded) → zeroes_lines c e ≡ true → (next c e).core.sync.lines.count.0 ≡ 0
unfolding zeroes_lines zero_sync
lines_zeroed c (Ok (Read a)) h = impossible h
lines_zeroed c (Ok (Write a b)) h =
    ⊎_elim (clrflg_lines c a b)
    (λ k. ⊎_elim (mdcon_lines c a b) impossible (either ((eqb a MDCON && (c.core.reset && not (bit 2 b))) && hsel_of c.core) false k))
    (either (eqb a CLRFLG && (c.core.reset && bit 7 b)) _ h)
lines_zeroed c (Ok (Pin p level)) h =
    ⊎_elim (λ k. rw (reset_pin c p level k))
    (λ k. ⊎_elim (vsync_lines c p level) impossible (either (rises_vsynci c (Ok (Pin p level)) && (hsel_of c.core && not c.core.sync.lines.overflow)) false k))
    (either (eqb p 28 && (c.core.reset && not level)) _ h)
lines_zeroed c (Ok (Clock k)) h =
    ⊎_elim (λ e. rw (reset_clock c k e)) (period_lines c k) (either (eqb k 3 && (c.core.reset && ltb 62 c.core.watchdog)) _ h)
lines_zeroed c (Ok (Polarity vertical level)) h = impossible h
lines_zeroed c (Err r) h = impossible h

pub periods_zeroed : (c : Chip) (e : Decoded) → zeroes_periods c e ≡ true → (next c e).core.sync.periods.count.0 ≡ 0
unfolding zeroes_periods zero_sync
periods_zeroed c (Ok (Read a)) h = impossible h
periods_zeroed c (Ok (Write a b)) h = ⊎_elim (clrflg_periods c a b) impossible (either (eqb a CLRFLG && (c.core.reset && bit 6 b)) false h)
periods_zeroed c (Ok (Pin p level)) h =
    ⊎_elim (λ k. rw (reset_pin c p level k)) (vsync_periods c p level)
    (either (eqb p 28 && (c.core.reset && not level)) _ h)
periods_zeroed c (Ok (Clock k)) h = ⊎_elim (λ e. rw (reset_clock c k e)) impossible (either (eqb k 3 && (c.core.reset && ltb 62 c.core.watchdog)) false h)
periods_zeroed c (Ok (Polarity vertical level)) h = impossible h
periods_zeroed c (Err r) h = impossible h
