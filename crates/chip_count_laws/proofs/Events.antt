-- What one event does to the two counters, where it zeroes neither, and to the levels of RESET and HSYNCI.
-- Assumes nothing.
use mathlib.Core.Path.{◌≡◌, refl, ap, ◌∙◌}
use mathlib.Core.Bool.{Bool, true, false, not, ◌&&◌, ◌||◌}
use Prim.Native.Nat.{ℕ}
use native.Mathlib.Omega.{arith}
use borrow.Author.Tests.{eqb-true, ltb-true, ltb-false, lt-ltb, le-ltb, not-false}
use lib.Dec.{eqb, ltb}
use Rattle.bits.specs.Byte.{pick, bit}
use Rattle.bits.proofs.Finite.{neither}
use Rattle.bits.proofs.Bitwise.{bit_merge}
use Rattle.registers.specs.Names.{MDCON, CLRFLG, BTCON}
use Rattle.registers.specs.Table.{row_of, write_mask}
use Rattle.std.specs.Prelude.{Ok, Err}
use Rattle.events.specs.Decoded.{Decoded}
use Rattle.events.specs.declared.Event.TheVariants.{Read, Write, Pin, Clock, Polarity}
use Rattle.bits.proofs.Level.{pick_by}
use Rattle.sync.specs.declared.Sync.{Sync}
use Rattle.sync.specs.declared.LineCounter.{LineCounter}
use Rattle.sync.specs.declared.PeriodCounter.{PeriodCounter}
use Rattle.sync.specs.Sync.{step_lines, step_periods, latch_lines, latch_periods, clear_lines, clear_periods, lines_on_vsync, lines_on_period, on_hsync, on_vsync, on_period, hsel_cleared, clear_overflow}
use Rattle.counters.specs.Count.{latched, zeroed, watchdog_fires, watchdog_next}
use Rattle.bus.specs.declared.Mode.{Mode}
use Rattle.bus.specs.declared.Mode.TheVariants.{Off, Ddc1, Ddc2b}
use Rattle.bus.specs.declared.Edge.{Edge}
use Rattle.bus.specs.declared.Edge.TheVariants.{Flat, Rise, Fall}
use Rattle.bus.specs.Bus.{edge}
use Rattle.chip.specs.declared.Core.{Core}
use Rattle.chip.specs.declared.Chip.{Chip}
use Rattle.chip.specs.State.{hsel_of, reset_at, reset_core, register_at, with_polarity, with_watchdog, with_reset, with_scl, with_sda}
use Rattle.chip_edges.specs.Edges.{on_scl, on_scl_ddc1, on_scl_ddc2b, scl_rise, scl_fall, leave_ddc1, scl_moved, on_sda, on_sda_ddc2b, started, stopped, sda_moved}
use Rattle.chip_ddc_writes.specs.DdcWrites.{sync_at_hsel}
use Rattle.registers.specs.Table.{updated}
use Rattle.chip_pins.specs.declared.PinKind.{PinKind}
use Rattle.chip_pins.specs.Pins.{rises, port0_moved, port1_moved, port2_moved, p16_moved, hsync_moved, vsync_level, vsync_moved, vsync_rise, on_reset, reset_moved, pin_moved_as, pin_moved}
use Rattle.chip_pins.specs.Numbers.{Unnamed, Numbered, p16_pin, sda_pin, scl_pin, hsynci_pin, vsynci_pin, reset_pin, port0_pin, port1_pin, port2_pin, no_pin}
use Rattle.chip_pins.proofs.Numbers.{numbered}
use Rattle.chip_clocks.specs.Clocks.{period_clock, timer_runs, timer_step, timer_clock, watchdog_clock, clocked_as, clocked, polarity_found}
use Rattle.chip_events.specs.Outcome.{core_after, next}
use Rattle.chip_flag_laws.proofs.Clocks.{watchdog_last}
use Rattle.chip_flag_laws.specs.Causes.{put_high, is_clock}
use Rattle.chip_write_laws.proofs.Fields.{fields, by_write}
use Rattle.chip_count_laws.specs.Counting.{level_after, zeroes_lines, zeroes_periods}

-- what an event does to the counters and to the levels that say what is counted
pub record Effect (c : Chip) (after : Core) (e : Decoded) : Type 0 where
  pub lines : zeroes_lines c e ≡ false → after.sync.lines ≡ pick (put_high 26 e && (c.core.reset && not c.core.pins.hsynci)) (step_lines c.core.sync.lines) c.core.sync.lines
  pub periods : zeroes_periods c e ≡ false → after.sync.periods ≡ pick (is_clock 0 e && c.core.reset) (step_periods c.core.sync.periods) c.core.sync.periods
  pub reset : after.reset ≡ level_after 28 e c.core.reset
  pub hsynci : after.pins.hsynci ≡ level_after 26 e c.core.pins.hsynci

-- ---- writes

-- HSEL as it is written
pub hsel_written : (old b : ℕ) → bit 2 (updated MDCON old b) ≡ bit 2 b
unfolding write_mask row_of bit
hsel_written old b = bit_merge 2 0x0f old b (omega arith) (omega arith)

hsel_lines : (old new : Bool) (s : Sync) → (not new && old) ≡ false → (sync_at_hsel old new s).lines ≡ s.lines
unfolding sync_at_hsel
hsel_lines true true s h = refl
hsel_lines true false s h = cc
hsel_lines false new s h = refl

hsel_periods : (old new : Bool) (s : Sync) → (sync_at_hsel old new s).periods ≡ s.periods
unfolding sync_at_hsel hsel_cleared
hsel_periods true true s = refl
hsel_periods true false s = refl
hsel_periods false new s = refl

clear_lines_lem : (bit : Bool) (c : LineCounter) → bit ≡ false → clear_lines bit c ≡ c
unfolding clear_lines
clear_lines_lem bit c h = rw h

clear_periods_lem : (bit : Bool) (c : PeriodCounter) → bit ≡ false → clear_periods bit c ≡ c
unfolding clear_periods
clear_periods_lem bit c h = rw h

module _ (c : Chip) (a b : ℕ) (r : c.core.reset ≡ true) where
  -- the two tests of a write that zeroes HCNT
  mdcon_kept : zeroes_lines c (Ok (Write a b)) ≡ false → eqb a MDCON ≡ true → (not (bit 2 b) && hsel_of c.core) ≡ false
  unfolding zeroes_lines
  mdcon_kept h m =
      let k = (neither (eqb a CLRFLG && (c.core.reset && bit 7 b)) _ h).1 in
      let j = (neither ((eqb a MDCON && (c.core.reset && not (bit 2 b))) && hsel_of c.core) _ k).0 in
      rw (m, r) at j

  -- a bit of CLRFLG that zeroes, among other causes
  bit_kept : (k : ℕ) (other : Bool) → ((eqb a CLRFLG && (c.core.reset && bit k b)) || other) ≡ false → eqb a CLRFLG ≡ true → bit k b ≡ false
  bit_kept k other h m =
      let j = (neither (eqb a CLRFLG && (c.core.reset && bit k b)) other h).0 in
      rw (m, r) at j

  write_lines : zeroes_lines c (Ok (Write a b)) ≡ false → (fields c a b).core.sync.lines ≡ c.core.sync.lines
  unfolding clear_overflow zeroes_lines
  write_lines h =
      let P : Sync → Type 0 = λ (s : Sync). s.lines ≡ c.core.sync.lines in
      pick_by P (eqb a MDCON)
      (λ m. rw (hsel_written c.core.mdcon b) (hsel_lines (hsel_of c.core) (bit 2 b) c.core.sync (mdcon_kept h m)))
      (λ _. pick_by P (eqb a CLRFLG) (λ m. clear_lines_lem (bit 7 b) c.core.sync.lines (bit_kept 7 _ h m)) (λ _. refl))

  write_periods : zeroes_periods c (Ok (Write a b)) ≡ false → (fields c a b).core.sync.periods ≡ c.core.sync.periods
  unfolding clear_overflow zeroes_periods
  write_periods h =
      let P : Sync → Type 0 = λ (s : Sync). s.periods ≡ c.core.sync.periods in
      pick_by P (eqb a MDCON)
      (λ _. hsel_periods _ _ c.core.sync)
      (λ _. pick_by P (eqb a CLRFLG) (λ m. clear_periods_lem (bit 6 b) c.core.sync.periods (bit_kept 6 _ h m)) (λ _. refl))

at_write : (c : Chip) (a b : ℕ) → Effect c (next c (Ok (Write a b))).core (Ok (Write a b))
at_write c a b =
    by_write (λ (x : Chip). Effect c x.core (Ok (Write a b))) c a b
    (λ r _. record { lines = write_lines c a b r; periods = write_periods c a b r; reset = refl; hsynci = refl })
    (λ _. record { lines = λ _. refl; periods = λ _. refl; reset = refl; hsynci = refl })

-- ---- pins

-- a pin whose level is not one of RESET, HSYNCI and VSYNCI
plain_pin : (c : Chip) (after : Core) (p : ℕ) (level : Bool) → eqb p 26 ≡ false → eqb p 27 ≡ false → eqb p 28 ≡ false →
    after.sync ≡ c.core.sync → after.reset ≡ c.core.reset → after.pins.hsynci ≡ c.core.pins.hsynci → Effect c after (Ok (Pin p level))
plain_pin c after p level hsynci vsynci reset s r v =
    record {
      lines = λ _. rw (hsynci, s);
      periods = λ _. rw s;
      reset = rw (reset, r);
      hsynci = rw (hsynci, v);
    }

unnamed_pin : (c : Chip) (after : Core) {p : ℕ} (level : Bool) → Unnamed p →
    after.sync ≡ c.core.sync → after.reset ≡ c.core.reset → after.pins.hsynci ≡ c.core.pins.hsynci → Effect c after (Ok (Pin p level))
unnamed_pin c after {p} level u s r v = plain_pin c after p level u.hsynci u.vsynci u.reset s r v

-- the SCL and SDA lines touch neither
record Untouched (c after : Core) : Type 0 where
  pub sync : after.sync ≡ c.sync
  pub reset : after.reset ≡ c.reset
  pub pins : after.pins ≡ c.pins

scl_untouched : (m : Mode) (e : Edge) (c : Core) → Untouched c (on_scl m e c)
unfolding on_scl on_scl_ddc1 on_scl_ddc2b scl_rise scl_fall leave_ddc1
scl_untouched Off e c = record { sync = refl; reset = refl; pins = refl }
scl_untouched Ddc1 Flat c = record { sync = refl; reset = refl; pins = refl }
scl_untouched Ddc1 Rise c = record { sync = refl; reset = refl; pins = refl }
scl_untouched Ddc1 Fall c = record { sync = refl; reset = refl; pins = refl }
scl_untouched Ddc2b Flat c = record { sync = refl; reset = refl; pins = refl }
scl_untouched Ddc2b Rise c = record { sync = refl; reset = refl; pins = refl }
scl_untouched Ddc2b Fall c = record { sync = refl; reset = refl; pins = refl }

sda_untouched : (m : Mode) (high : Bool) (e : Edge) (c : Core) → Untouched c (on_sda m high e c)
unfolding on_sda on_sda_ddc2b started stopped
sda_untouched Off high e c = record { sync = refl; reset = refl; pins = refl }
sda_untouched Ddc1 high e c = record { sync = refl; reset = refl; pins = refl }
sda_untouched Ddc2b high Flat c = record { sync = refl; reset = refl; pins = refl }
sda_untouched Ddc2b true Rise c = record { sync = refl; reset = refl; pins = refl }
sda_untouched Ddc2b false Rise c = record { sync = refl; reset = refl; pins = refl }
sda_untouched Ddc2b true Fall c = record { sync = refl; reset = refl; pins = refl }
sda_untouched Ddc2b false Fall c = record { sync = refl; reset = refl; pins = refl }

at_scl : (c : Chip) (level : Bool) → Effect c (scl_moved c.core level) (Ok (Pin 25 level))
unfolding scl_moved
at_scl c level =
    let u = scl_untouched _ _ (with_scl c.core level) in
    plain_pin c _ 25 level refl refl refl u.sync u.reset (rw u.pins)

at_sda : (c : Chip) (level : Bool) → Effect c (sda_moved c.core level) (Ok (Pin 24 level))
unfolding sda_moved
at_sda c level =
    let u = sda_untouched _ _ _ (with_sda c.core level) in
    plain_pin c _ 24 level refl refl refl u.sync u.reset (rw u.pins)

-- HSYNCI
hsync_lines : (rise : Bool) (s : Sync) → (pick rise (on_hsync s) s).lines ≡ pick rise (step_lines s.lines) s.lines
unfolding on_hsync
hsync_lines true s = refl
hsync_lines false s = refl

hsync_periods : (rise : Bool) (s : Sync) → (pick rise (on_hsync s) s).periods ≡ s.periods
unfolding on_hsync
hsync_periods true s = refl
hsync_periods false s = refl

-- the two orders of the same test
pub rise_is : (reset old level : Bool) → rises reset old level ≡ (level && (reset && not old))
rise_is true true true = refl
rise_is true true false = refl
rise_is true false true = refl
rise_is true false false = refl
rise_is false old true = refl
rise_is false old false = refl

at_hsynci : (c : Chip) (level : Bool) → Effect c (hsync_moved c.core level) (Ok (Pin 26 level))
unfolding hsync_moved
at_hsynci c level =
    record {
      lines = λ _. rw (rise_is c.core.reset c.core.pins.hsynci level) (hsync_lines (level && (c.core.reset && not c.core.pins.hsynci)) c.core.sync);
      periods = λ _. hsync_periods (rises c.core.reset c.core.pins.hsynci level) c.core.sync;
      reset = refl;
      hsynci = refl;
    }

-- VSYNCI
pub record VsyncMoves (rise : Bool) (c after : Core) : Type 0 where
  pub sync : after.sync ≡ pick rise (on_vsync (hsel_of c) c.sync) c.sync
  pub reset : after.reset ≡ c.reset
  pub hsynci : after.pins.hsynci ≡ c.pins.hsynci

pub vsync_moves : (rise : Bool) (c : Core) (level : Bool) → VsyncMoves rise c (pick rise (vsync_rise (vsync_level c level)) (vsync_level c level))
unfolding vsync_rise
vsync_moves true c level = record { sync = refl; reset = refl; hsynci = refl }
vsync_moves false c level = record { sync = refl; reset = refl; hsynci = refl }

-- in overflow latching moves neither count nor latch
zeroed_kept : (overflow : Bool) (n : ℕ) → overflow ≡ true → zeroed overflow n ≡ n
unfolding zeroed
zeroed_kept overflow n h = rw h

latched_kept : (overflow : Bool) (n latch : ℕ) → overflow ≡ true → latched overflow n latch ≡ latch
unfolding latched
latched_kept overflow n latch h = rw h

lines_kept : (l : LineCounter) → l.overflow ≡ true → latch_lines l ≡ l
unfolding latch_lines
lines_kept l o = rw (zeroed_kept l.overflow l.count.0 o, latched_kept l.overflow l.count.0 l.latch.0 o)

periods_kept : (p : PeriodCounter) → p.overflow ≡ true → latch_periods p ≡ p
unfolding latch_periods
periods_kept p o = rw (zeroed_kept p.overflow p.count.0 o, latched_kept p.overflow p.count.0 p.latch.0 o)

vsync_lines : (rise hsel : Bool) (s : Sync) → (rise && (hsel && not s.lines.overflow)) ≡ false → (pick rise (on_vsync hsel s) s).lines ≡ s.lines
unfolding on_vsync lines_on_vsync
vsync_lines true true s h = lines_kept s.lines (not-false s.lines.overflow h)
vsync_lines true false s h = refl
vsync_lines false hsel s h = refl

vsync_periods : (rise : Bool) (hsel : Bool) (s : Sync) → (rise && not s.periods.overflow) ≡ false → (pick rise (on_vsync hsel s) s).periods ≡ s.periods
unfolding on_vsync
vsync_periods true hsel s h = periods_kept s.periods (not-false s.periods.overflow h)
vsync_periods false hsel s h = refl

vsync_kept : (c : Chip) (level : Bool) → zeroes_lines c (Ok (Pin 27 level)) ≡ false → ((level && (c.core.reset && not c.core.pins.vsynci)) && (hsel_of c.core && not c.core.sync.lines.overflow)) ≡ false
unfolding zeroes_lines
vsync_kept c level h = (neither ((level && (c.core.reset && not c.core.pins.vsynci)) && (hsel_of c.core && not c.core.sync.lines.overflow)) false h).0

at_vsynci : (c : Chip) (level : Bool) → Effect c (vsync_moved c.core level) (Ok (Pin 27 level))
unfolding vsync_moved zeroes_periods
at_vsynci c level =
    let m = vsync_moves (rises c.core.reset c.core.pins.vsynci level) c.core level in
    let e = rise_is c.core.reset c.core.pins.vsynci level in
    let rise : Bool = level && (c.core.reset && not c.core.pins.vsynci) in
    record {
      lines = λ h. ap (λ (s : Sync). s.lines) m.sync ∙ rw e (vsync_lines rise (hsel_of c.core) c.core.sync (vsync_kept c level h));
      periods = λ h. ap (λ (s : Sync). s.periods) m.sync ∙ rw e (vsync_periods rise (hsel_of c.core) c.core.sync h);
      reset = m.reset;
      hsynci = m.hsynci;
    }

-- RESET
record ResetMoves (old level : Bool) (c after : Core) : Type 0 where
  pub sync : (old && not level) ≡ false → after.sync ≡ c.sync
  pub reset : after.reset ≡ level
  pub hsynci : after.pins.hsynci ≡ c.pins.hsynci

reset_moves : (old level : Bool) (c : Core) → ResetMoves old level c (on_reset (edge old level) (with_reset c level))
unfolding on_reset reset_core reset_at
reset_moves true true c = record { sync = λ _. refl; reset = refl; hsynci = refl }
reset_moves true false c = record { sync = λ h. cc; reset = refl; hsynci = refl }
reset_moves false true c = record { sync = λ _. refl; reset = refl; hsynci = refl }
reset_moves false false c = record { sync = λ _. refl; reset = refl; hsynci = refl }

at_reset_lem : (c : Chip) (level : Bool) → Effect c (reset_moved c.core level) (Ok (Pin 28 level))
unfolding reset_moved zeroes_lines zeroes_periods
at_reset_lem c level =
    let m = reset_moves c.core.reset level c.core in
    record {
      lines = λ h. ap (λ (s : Sync). s.lines) (m.sync (neither (c.core.reset && not level) false h).0);
      periods = λ h. ap (λ (s : Sync). s.periods) (m.sync (neither (c.core.reset && not level) false h).0);
      reset = m.reset;
      hsynci = m.hsynci;
    }

-- all pins
at_kind_lem : {k : PinKind} {p : ℕ} → Numbered k p → (c : Chip) (level : Bool) → Effect c (pin_moved_as k c.core p level) (Ok (Pin p level))
unfolding pin_moved_as port0_moved port1_moved port2_moved p16_moved
at_kind_lem (port0_pin u high) c level = unnamed_pin c _ level u refl refl refl
at_kind_lem (port1_pin u low high) c level = unnamed_pin c _ level u refl refl refl
at_kind_lem (port2_pin u low high) c level = unnamed_pin c _ level u refl refl refl
at_kind_lem (no_pin u none) c level = unnamed_pin c _ level u refl refl refl
at_kind_lem p16_pin c level = plain_pin c _ 14 level refl refl refl refl refl refl
at_kind_lem sda_pin c level = at_sda c level
at_kind_lem scl_pin c level = at_scl c level
at_kind_lem hsynci_pin c level = at_hsynci c level
at_kind_lem vsynci_pin c level = at_vsynci c level
at_kind_lem reset_pin c level = at_reset_lem c level

at_pin : (c : Chip) (p : ℕ) (level : Bool) → Effect c (next c (Ok (Pin p level))).core (Ok (Pin p level))
unfolding next core_after pin_moved
at_pin c p level = at_kind_lem (numbered p) c level

-- ---- clocks

-- 8 µs
pub record PeriodMoves (high : Bool) (c after : Core) : Type 0 where
  pub sync : after.sync ≡ pick high (on_period (hsel_of c) c.sync) c.sync
  pub reset : after.reset ≡ c.reset
  pub pins : after.pins ≡ c.pins

pub period_moves : (reset : Bool) (c : Core) → PeriodMoves reset c (pick reset (period_clock c) c)
unfolding period_clock
period_moves true c = record { sync = refl; reset = refl; pins = refl }
period_moves false c = record { sync = refl; reset = refl; pins = refl }

period_by : (last : Bool) (s : Sync) → ltb 1022 s.interval ≡ last → (last && not s.lines.overflow) ≡ false → lines_on_period false s.interval s.lines ≡ s.lines
unfolding lines_on_period
period_by true s t h = rw (le-ltb s.interval 1023 (omega (arith, ltb-true 1022 s.interval t))) (lines_kept s.lines (not-false s.lines.overflow h))
period_by false s t h = rw (lt-ltb s.interval 1023 (omega (arith, ltb-false 1022 s.interval t)))

period_lines : (reset hsel : Bool) (s : Sync) → (reset && (not hsel && (ltb 1022 s.interval && not s.lines.overflow))) ≡ false → (pick reset (on_period hsel s) s).lines ≡ s.lines
unfolding on_period lines_on_period
period_lines true true s h = refl
period_lines true false s h = period_by (ltb 1022 s.interval) s refl h
period_lines false hsel s h = refl

period_periods : (reset hsel : Bool) (s : Sync) → (pick reset (on_period hsel s) s).periods ≡ pick reset (step_periods s.periods) s.periods
unfolding on_period
period_periods true hsel s = refl
period_periods false hsel s = refl

at_period : (c : Chip) → Effect c (pick c.core.reset (period_clock c.core) c.core) (Ok (Clock 0))
unfolding zeroes_lines
at_period c =
    let m = period_moves c.core.reset c.core in
    record {
      lines = λ h. ap (λ (s : Sync). s.lines) m.sync ∙ period_lines c.core.reset (hsel_of c.core) c.core.sync h;
      periods = λ _. ap (λ (s : Sync). s.periods) m.sync ∙ period_periods c.core.reset (hsel_of c.core) c.core.sync;
      reset = m.reset;
      hsynci = rw m.pins;
    }

-- base clocks
timer_untouched : (reset runs : Bool) (c : Core) → Untouched c (pick reset (pick runs (timer_step c) c) c)
unfolding timer_step
timer_untouched true true c = record { sync = refl; reset = refl; pins = refl }
timer_untouched true false c = record { sync = refl; reset = refl; pins = refl }
timer_untouched false runs c = record { sync = refl; reset = refl; pins = refl }

at_timer : (c : Chip) (k : ℕ) → eqb k 0 ≡ false → Effect c (pick c.core.reset (timer_clock (register_at c.registers BTCON) c.core k) c.core) (Ok (Clock k))
unfolding timer_clock
at_timer c k n =
    let u = timer_untouched c.core.reset (timer_runs (register_at c.registers BTCON) k) c.core in
    record {
      lines = λ _. ap (λ (s : Sync). s.lines) u.sync;
      periods = λ _. rw n (ap (λ (s : Sync). s.periods) u.sync);
      reset = u.reset;
      hsynci = rw u.pins;
    }

-- watchdog
record WatchdogMoves (high fires : Bool) (c after : Core) : Type 0 where
  pub sync : (high && fires) ≡ false → after.sync ≡ c.sync
  pub reset : after.reset ≡ c.reset
  pub pins : after.pins ≡ c.pins

watchdog_moves : (reset fires : Bool) (c : Core) (n : ℕ) → WatchdogMoves reset fires c (pick reset (pick fires (reset_core c) (with_watchdog c n)) c)
unfolding reset_core reset_at
watchdog_moves true true c n = record { sync = λ h. cc; reset = refl; pins = refl }
watchdog_moves true false c n = record { sync = λ _. refl; reset = refl; pins = refl }
watchdog_moves false fires c n = record { sync = λ _. refl; reset = refl; pins = refl }

at_watchdog : (c : Chip) → Effect c (pick c.core.reset (watchdog_clock c.core) c.core) (Ok (Clock 3))
unfolding watchdog_clock zeroes_lines zeroes_periods
at_watchdog c =
    let m = watchdog_moves c.core.reset (watchdog_fires c.core.watchdog) c.core (watchdog_next c.core.watchdog) in
    let none : (c.core.reset && ltb 62 c.core.watchdog) ≡ false → (c.core.reset && watchdog_fires c.core.watchdog) ≡ false = λ h. rw (watchdog_last c.core.watchdog) h in
    record {
      lines = λ h. ap (λ (s : Sync). s.lines) (m.sync (none (neither (c.core.reset && ltb 62 c.core.watchdog) false h).0));
      periods = λ h. ap (λ (s : Sync). s.periods) (m.sync (none (neither (c.core.reset && ltb 62 c.core.watchdog) false h).0));
      reset = m.reset;
      hsynci = rw m.pins;
    }

clock_by : (c : Chip) (k : ℕ) (period watchdog : Bool) → eqb k 0 ≡ period → eqb k 3 ≡ watchdog → Effect c (next c (Ok (Clock k))).core (Ok (Clock k))
unfolding next core_after clocked clocked_as
clock_by c k true watchdog e f = rw (eqb-true k 0 e) (at_period c)
clock_by c k false true e f = rw (eqb-true k 3 f) (at_watchdog c)
clock_by c k false false e f = rw (e, f) (at_timer c k e)

at_clock : (c : Chip) (k : ℕ) → Effect c (next c (Ok (Clock k))).core (Ok (Clock k))
at_clock c k = clock_by c k _ _ refl refl

-- ---- every event

polarity_untouched : (reset : Bool) (c : Core) (n : ℕ) → Untouched c (pick reset (with_polarity c n) c)
polarity_untouched true c n = record { sync = refl; reset = refl; pins = refl }
polarity_untouched false c n = record { sync = refl; reset = refl; pins = refl }

at_polarity : (c : Chip) (vertical level : Bool) → Effect c (next c (Ok (Polarity vertical level))).core (Ok (Polarity vertical level))
unfolding next core_after polarity_found
at_polarity c vertical level =
    let u = polarity_untouched c.core.reset c.core _ in
    record {
      lines = λ _. ap (λ (s : Sync). s.lines) u.sync;
      periods = λ _. ap (λ (s : Sync). s.periods) u.sync;
      reset = u.reset;
      hsynci = rw u.pins;
    }

pub effect : (c : Chip) (e : Decoded) → Effect c (next c e).core e
unfolding next core_after
effect c (Ok (Read a)) = record { lines = λ _. refl; periods = λ _. refl; reset = refl; hsynci = refl }
effect c (Ok (Write a b)) = at_write c a b
effect c (Ok (Pin p level)) = at_pin c p level
effect c (Ok (Clock k)) = at_clock c k
effect c (Ok (Polarity vertical level)) = at_polarity c vertical level
effect c (Err r) = record { lines = λ _. refl; periods = λ _. refl; reset = refl; hsynci = refl }
