-- The overflow bits and the latches after any event, exactly.
use mathlib.Core.Path.{◌≡◌, refl, sym, ap, ◌∙◌}
use mathlib.Core.Bool.{Bool, true, false, not, ◌&&◌, ◌||◌, true≢false, and-false}
use Prim.Native.Nat.{ℕ}
use native.Mathlib.Omega.{arith}
use borrow.Author.Tests.{eqb-true, lt-ltb, le-ltb, ltb-true, ltb-false}
use lib.Dec.{eqb, ltb}
use Rattle.bits.specs.Byte.{pick, bit}
use Rattle.bits.proofs.Level.{pick_by}
use Rattle.registers.specs.Names.{MDCON, CLRFLG, BTCON}
use Rattle.registers.specs.Table.{table, row_of, is_writable, updated}
use Rattle.std.specs.Prelude.{Ok, Err}
use Rattle.events.specs.Decoded.{Decoded}
use Rattle.events.specs.declared.Event.TheVariants.{Read, Write, Pin, Clock, Polarity}
use Rattle.bus.specs.declared.Mode.{Mode}
use Rattle.bus.specs.declared.Mode.TheVariants.{Off, Ddc1, Ddc2b}
use Rattle.bus.specs.declared.Edge.{Edge}
use Rattle.bus.specs.declared.Edge.TheVariants.{Flat, Rise, Fall}
use Rattle.bus.specs.Bus.{edge}
use Rattle.counters.specs.Count.{overflowed, latched, watchdog_next}
use Rattle.sync.specs.declared.Sync.{Sync}
use Rattle.sync.specs.Sync.{step_lines, latch_lines, clear_lines, zero_lines, step_periods, latch_periods, clear_periods, on_hsync, lines_on_vsync, on_vsync, lines_on_period, on_period, hsel_cleared, clear_overflow, zero_sync}
use Rattle.chip.specs.declared.Core.{Core}
use Rattle.chip.specs.declared.Chip.{Chip}
use Rattle.chip.specs.State.{hsel_of, register_at, reset_at, reset_core, with_reset, with_scl, with_sda, with_watchdog}
use Rattle.chip_edges.specs.Edges.{on_scl, on_scl_ddc1, on_scl_ddc2b, scl_rise, scl_fall, leave_ddc1, scl_moved, on_sda, on_sda_ddc2b, started, stopped, sda_moved}
use Rattle.chip_ddc_writes.specs.DdcWrites.{sync_at_hsel}
use Rattle.chip_pins.specs.declared.PinKind.{PinKind}
use Rattle.chip_pins.specs.Pins.{rises, port0_moved, port1_moved, port2_moved, p16_moved, hsync_moved, vsync_moved, on_reset, reset_moved, pin_moved_as, pin_moved}
use Rattle.chip_pins.specs.Numbers.{Numbered, p16_pin, sda_pin, scl_pin, hsynci_pin, vsynci_pin, reset_pin, port0_pin, port1_pin, port2_pin, no_pin}
use Rattle.chip_pins.proofs.Numbers.{numbered}
use Rattle.chip_clocks.specs.Clocks.{timer_runs, timer_step, timer_clock, watchdog_clock, clocked_as, clocked, polarity_found}
use Rattle.chip_events.specs.Outcome.{core_after, next}
use Rattle.chip_flag_laws.proofs.Clocks.{watchdog_last}
use Rattle.chip_write_laws.proofs.Fields.{fields, by_write}
use Rattle.chip_count_laws.specs.Counting.{resets}
use Rattle.chip_count_laws.proofs.Events.{rise_is, vsync_moves, period_moves}
use Rattle.chip_rule_laws.specs.Counters.{overflows_lines, overflows_periods, clears_lines, clears_periods, set_or_kept, latches_lines, latches_periods, After}

-- ---- what the tests come to

record Quiet (c : Chip) (e : Decoded) : Type 0 where
  pub reset : resets c e ≡ false
  pub h : overflows_lines c e ≡ false
  pub v : overflows_periods c e ≡ false
  pub clears_h : clears_lines c e ≡ false
  pub clears_v : clears_periods c e ≡ false
  pub latches_h : latches_lines c e ≡ false
  pub latches_v : latches_periods c e ≡ false

and_true : (x : Bool) → x ≡ (x && true)
and_true true = refl
and_true false = refl

-- an event of none of them leaves the four
quiet : (c : Chip) (e : Decoded) (s : Sync) → s ≡ c.core.sync → Quiet c e → After c e s
quiet c e s same q =
    record {
      hcntov = rw (same, q.h, q.clears_h) (and_true c.core.sync.lines.overflow);
      vcntov = rw (same, q.v, q.clears_v) (and_true c.core.sync.periods.overflow);
      hlatch = rw (same, q.reset, q.latches_h) refl;
      vlatch = rw (same, q.reset, q.latches_v) refl;
    }

-- a reset zeroes the four
zero_by : (c : Chip) (e : Decoded) (s : Sync) → s ≡ zero_sync → resets c e ≡ true → overflows_lines c e ≡ false → overflows_periods c e ≡ false → After c e s
unfolding zero_sync clears_lines clears_periods
zero_by c e s same r h v =
    record {
      hcntov = rw (same, r, h, and-false c.core.sync.lines.overflow) refl;
      vcntov = rw (same, r, v, and-false c.core.sync.periods.overflow) refl;
      hlatch = rw (same, r) refl;
      vlatch = rw (same, r) refl;
    }

-- a count at its last value
last_is : (n : ℕ) → not (ltb n 4095) ≡ ltb 4094 n
last_is n = by (ltb 4094 n) refl
  where
    by : (t : Bool) → ltb 4094 n ≡ t → not (ltb n 4095) ≡ t
    by true e = ap not (le-ltb n 4095 (ltb-true 4094 n e))
    by false e = ap not (lt-ltb n 4095 (let l = ltb-false 4094 n e in omega arith))

or_kept : (x y : Bool) → (x || y) ≡ (y || (x && true))
or_kept true true = refl
or_kept true false = refl
or_kept false true = refl
or_kept false false = refl

-- a step sets the overflow bit where it is due at the last value
step_overflow : (rise : Bool) (overflow : Bool) (n : ℕ) → pick rise (overflowed 4095 overflow n) overflow ≡ set_or_kept (rise && ltb 4094 n) false overflow
unfolding overflowed
step_overflow true overflow n = rw (last_is n) (or_kept overflow (ltb 4094 n))
step_overflow false overflow n = and_true overflow

-- latching takes the count where there is no overflow
latch_by : (does overflow : Bool) (count latch : ℕ) → pick does (latched overflow count latch) latch ≡ pick (does && not overflow) count latch
unfolding latched
latch_by true true count latch = refl
latch_by true false count latch = refl
latch_by false overflow count latch = refl

-- ---- writes

module _ (c : Chip) (a b : ℕ) where
  clear_by : (flag : Bool) (old : Bool) → pick flag false old ≡ set_or_kept false flag old
  clear_by true true = refl
  clear_by true false = refl
  clear_by false true = refl
  clear_by false false = refl

  cleared_h_lem : (s : Sync) (h v : Bool) → (clear_overflow h v s).lines.overflow ≡ pick h false s.lines.overflow
  unfolding clear_overflow clear_lines
  cleared_h_lem s true v = refl
  cleared_h_lem s false v = refl

  cleared_v_lem : (s : Sync) (h v : Bool) → (clear_overflow h v s).periods.overflow ≡ pick v false s.periods.overflow
  unfolding clear_overflow clear_periods
  cleared_v_lem s h true = refl
  cleared_v_lem s h false = refl

  cleared_latches : (s : Sync) (h v : Bool) → ((clear_overflow h v s).lines.latch.0 ≡ s.lines.latch.0) × ((clear_overflow h v s).periods.latch.0 ≡ s.periods.latch.0)
  unfolding clear_overflow clear_lines clear_periods
  cleared_latches s true true = (refl, refl)
  cleared_latches s true false = (refl, refl)
  cleared_latches s false true = (refl, refl)
  cleared_latches s false false = (refl, refl)

  -- a write sets no overflow bit and latches nothing
  write_after : (s : Sync) → s.lines.overflow ≡ pick (eqb a CLRFLG && (c.core.reset && bit 7 b)) false c.core.sync.lines.overflow →
      s.periods.overflow ≡ pick (eqb a CLRFLG && (c.core.reset && bit 6 b)) false c.core.sync.periods.overflow →
      s.lines.latch.0 ≡ c.core.sync.lines.latch.0 → s.periods.latch.0 ≡ c.core.sync.periods.latch.0 → After c (Ok (Write a b)) s
  unfolding overflows_lines overflows_periods clears_lines clears_periods latches_lines latches_periods
  write_after s h v hl vl = record { hcntov = h ∙ clear_by (eqb a CLRFLG && (c.core.reset && bit 7 b)) c.core.sync.lines.overflow; vcntov = v ∙ clear_by (eqb a CLRFLG && (c.core.reset && bit 6 b)) c.core.sync.periods.overflow; hlatch = hl; vlatch = vl }

  hsel_kept : (old new : Bool) (s : Sync) → ((sync_at_hsel old new s).lines.overflow ≡ s.lines.overflow) × ((sync_at_hsel old new s).periods ≡ s.periods) × ((sync_at_hsel old new s).lines.latch.0 ≡ s.lines.latch.0)
  unfolding sync_at_hsel hsel_cleared zero_lines
  hsel_kept true true s = (refl, refl, refl)
  hsel_kept true false s = (refl, refl, refl)
  hsel_kept false new s = (refl, refl, refl)

  not_clrflg : eqb a MDCON ≡ true → eqb a CLRFLG ≡ false
  not_clrflg t = rw (eqb-true a MDCON t) refl

  taken : c.core.reset ≡ true → After c (Ok (Write a b)) (fields c a b).core.sync
  taken r =
      pick_by (After c (Ok (Write a b))) (eqb a MDCON)
      (λ t.
      let old : Bool = bit 2 c.core.mdcon in
      let new : Bool = bit 2 (updated MDCON c.core.mdcon b) in
      let k = hsel_kept old new c.core.sync in
      write_after (sync_at_hsel old new c.core.sync) (rw (not_clrflg t) k.0) (rw (not_clrflg t, k.1) refl) k.2 (rw k.1 refl))
      (λ _. pick_by (After c (Ok (Write a b))) (eqb a CLRFLG)
      (λ t.
      let l = cleared_latches c.core.sync (bit 7 b) (bit 6 b) in
      write_after _ (rw (t, r) (cleared_h_lem c.core.sync (bit 7 b) (bit 6 b))) (rw (t, r) (cleared_v_lem c.core.sync (bit 7 b) (bit 6 b))) l.0 l.1)
      (λ f. write_after _ (rw f refl) (rw f refl) refl refl))

  -- CLRFLG takes writes, so that a refused one comes with RESET low
  not_taken : (k : Bool) (flag : Bool) → eqb a CLRFLG ≡ flag → (c.core.reset && is_writable a) ≡ false → (flag && (c.core.reset && k)) ≡ false
  unfolding is_writable row_of table
  not_taken k true t q = low c.core.reset (rw (eqb-true a CLRFLG t) at q)
    where
      low : (r : Bool) → (r && true) ≡ false → (r && k) ≡ false
      low true z = absurd (true≢false z)
      low false z = refl
  not_taken k false t q = refl

  at_write : After c (Ok (Write a b)) (next c (Ok (Write a b))).core.sync
  at_write =
      by_write (λ (x : Chip). After c (Ok (Write a b)) x.core.sync) c a b (λ r _. taken r)
      (λ q. write_after c.core.sync (rw (not_taken (bit 7 b) _ refl q) refl) (rw (not_taken (bit 6 b) _ refl q) refl) refl refl)

-- ---- pins

scl_sync : (m : Mode) (e : Edge) (c : Core) → (on_scl m e c).sync ≡ c.sync
unfolding on_scl on_scl_ddc1 on_scl_ddc2b scl_rise scl_fall leave_ddc1
scl_sync Off e c = refl
scl_sync Ddc1 Flat c = refl
scl_sync Ddc1 Rise c = refl
scl_sync Ddc1 Fall c = refl
scl_sync Ddc2b Flat c = refl
scl_sync Ddc2b Rise c = refl
scl_sync Ddc2b Fall c = refl

sda_sync : (m : Mode) (high : Bool) (e : Edge) (c : Core) → (on_sda m high e c).sync ≡ c.sync
unfolding on_sda on_sda_ddc2b started stopped
sda_sync Off high e c = refl
sda_sync Ddc1 high e c = refl
sda_sync Ddc2b high Flat c = refl
sda_sync Ddc2b true Rise c = refl
sda_sync Ddc2b false Rise c = refl
sda_sync Ddc2b true Fall c = refl
sda_sync Ddc2b false Fall c = refl

module _ (c : Chip) (level : Bool) where
  -- none of HSYNCI, VSYNCI and RESET
  plain : (p : ℕ) (s : Sync) → eqb p 26 ≡ false → eqb p 27 ≡ false → eqb p 28 ≡ false → s ≡ c.core.sync → After c (Ok (Pin p level)) s
  unfolding overflows_lines overflows_periods clears_lines clears_periods latches_lines latches_periods
  plain p s h v r same = quiet c (Ok (Pin p level)) s same (record { reset = rw r refl; h = rw h refl; v = refl; clears_h = rw r refl; clears_v = rw r refl; latches_h = rw v refl; latches_v = rw v refl })

  hsynci_lines : (rise : Bool) (s : Sync) → (pick rise (on_hsync s) s).lines.overflow ≡ pick rise (overflowed 4095 s.lines.overflow s.lines.count.0) s.lines.overflow
  unfolding on_hsync step_lines
  hsynci_lines true s = refl
  hsynci_lines false s = refl

  hsynci_kept : (rise : Bool) (s : Sync) → ((pick rise (on_hsync s) s).periods ≡ s.periods) × ((pick rise (on_hsync s) s).lines.latch.0 ≡ s.lines.latch.0)
  unfolding on_hsync step_lines
  hsynci_kept true s = (refl, refl)
  hsynci_kept false s = (refl, refl)

  at_hsynci : After c (Ok (Pin 26 level)) (hsync_moved c.core level).sync
  unfolding hsync_moved overflows_lines overflows_periods clears_lines clears_periods latches_lines latches_periods
  at_hsynci =
      let rise : Bool = level && (c.core.reset && not c.core.pins.hsynci) in
      let k = hsynci_kept rise c.core.sync in
      rw (rise_is c.core.reset c.core.pins.hsynci level)
      (record {
        hcntov = hsynci_lines rise c.core.sync ∙ step_overflow rise c.core.sync.lines.overflow c.core.sync.lines.count.0;
        vcntov = rw k.0 (and_true c.core.sync.periods.overflow);
        hlatch = k.1;
        vlatch = rw k.0 refl;
      })

  vsynci_kept : (rise hsel : Bool) (s : Sync) → ((pick rise (on_vsync hsel s) s).lines.overflow ≡ s.lines.overflow) × ((pick rise (on_vsync hsel s) s).periods.overflow ≡ s.periods.overflow)
  unfolding on_vsync lines_on_vsync latch_lines latch_periods
  vsynci_kept true true s = (refl, refl)
  vsynci_kept true false s = (refl, refl)
  vsynci_kept false hsel s = (refl, refl)

  vsynci_lines : (rise hsel : Bool) (s : Sync) → (pick rise (on_vsync hsel s) s).lines.latch.0 ≡ pick (rise && hsel) (latched s.lines.overflow s.lines.count.0 s.lines.latch.0) s.lines.latch.0
  unfolding on_vsync lines_on_vsync latch_lines
  vsynci_lines true true s = refl
  vsynci_lines true false s = refl
  vsynci_lines false hsel s = refl

  vsynci_periods : (rise hsel : Bool) (s : Sync) → (pick rise (on_vsync hsel s) s).periods.latch.0 ≡ pick rise (latched s.periods.overflow s.periods.count.0 s.periods.latch.0) s.periods.latch.0
  unfolding on_vsync latch_periods
  vsynci_periods true hsel s = refl
  vsynci_periods false hsel s = refl

  or_none : (x : Bool) → (x || false) ≡ x
  or_none true = refl
  or_none false = refl

  at_vsynci : After c (Ok (Pin 27 level)) (vsync_moved c.core level).sync
  unfolding vsync_moved overflows_lines overflows_periods clears_lines clears_periods latches_lines latches_periods
  at_vsynci =
      let rise : Bool = level && (c.core.reset && not c.core.pins.vsynci) in
      let s : Sync = c.core.sync in
      let hsel : Bool = hsel_of c.core in
      let m = (vsync_moves (rises c.core.reset c.core.pins.vsynci level) c.core level).sync ∙ ap (λ (t : Bool). pick t (on_vsync hsel s) s) (rise_is c.core.reset c.core.pins.vsynci level) in
      let k = vsynci_kept rise hsel s in
      record {
        hcntov = ap (λ (x : Sync). x.lines.overflow) m ∙ k.0 ∙ and_true s.lines.overflow;
        vcntov = ap (λ (x : Sync). x.periods.overflow) m ∙ k.1 ∙ and_true s.periods.overflow;
        hlatch = ap (λ (x : Sync). x.lines.latch.0) m ∙ vsynci_lines rise hsel s ∙ latch_by (rise && hsel) s.lines.overflow s.lines.count.0 s.lines.latch.0
            ∙ ap (λ (t : Bool). pick (t && not s.lines.overflow) s.lines.count.0 s.lines.latch.0) (sym (or_none (rise && hsel)));
        vlatch = ap (λ (x : Sync). x.periods.latch.0) m ∙ vsynci_periods rise hsel s ∙ latch_by rise s.periods.overflow s.periods.count.0 s.periods.latch.0;
      }

  reset_by : (old : Bool) → c.core.reset ≡ old → (new : Bool) → level ≡ new → After c (Ok (Pin 28 level)) (on_reset (edge old new) (with_reset c.core new)).sync
  unfolding on_reset reset_core reset_at overflows_lines overflows_periods clears_lines clears_periods latches_lines latches_periods
  reset_by true r true l = quiet c (Ok (Pin 28 level)) _ refl (record { reset = rw (r, l) refl; h = refl; v = refl; clears_h = rw (r, l) refl; clears_v = rw (r, l) refl; latches_h = refl; latches_v = refl })
  reset_by true r false l = zero_by c (Ok (Pin 28 level)) _ refl (rw (r, l) refl) refl refl
  reset_by false r true l = quiet c (Ok (Pin 28 level)) _ refl (record { reset = rw r refl; h = refl; v = refl; clears_h = rw r refl; clears_v = rw r refl; latches_h = refl; latches_v = refl })
  reset_by false r false l = quiet c (Ok (Pin 28 level)) _ refl (record { reset = rw r refl; h = refl; v = refl; clears_h = rw r refl; clears_v = rw r refl; latches_h = refl; latches_v = refl })

  at_kind_lem : {k : PinKind} {p : ℕ} → Numbered k p → After c (Ok (Pin p level)) (pin_moved_as k c.core p level).sync
  unfolding pin_moved_as port0_moved port1_moved port2_moved p16_moved sda_moved scl_moved reset_moved
  at_kind_lem {p = p} (port0_pin u high) = plain p _ u.hsynci u.vsynci u.reset refl
  at_kind_lem {p = p} (port1_pin u low high) = plain p _ u.hsynci u.vsynci u.reset refl
  at_kind_lem {p = p} (port2_pin u low high) = plain p _ u.hsynci u.vsynci u.reset refl
  at_kind_lem {p = p} (no_pin u none) = plain p _ u.hsynci u.vsynci u.reset refl
  at_kind_lem p16_pin = plain 14 _ refl refl refl refl
  at_kind_lem sda_pin = plain 24 _ refl refl refl (sda_sync _ _ _ (with_sda c.core level))
  at_kind_lem scl_pin = plain 25 _ refl refl refl (scl_sync _ _ (with_scl c.core level))
  at_kind_lem hsynci_pin = at_hsynci
  at_kind_lem vsynci_pin = at_vsynci
  at_kind_lem reset_pin = reset_by c.core.reset refl level refl

-- ---- clocks

-- the interval at its last value
interval_last_lem : (n : ℕ) → ltb n 1023 ≡ not (ltb 1022 n)
interval_last_lem n = by (ltb 1022 n) refl
  where
    by : (t : Bool) → ltb 1022 n ≡ t → ltb n 1023 ≡ not t
    by true e = le-ltb n 1023 (ltb-true 1022 n e)
    by false e = lt-ltb n 1023 (let l = ltb-false 1022 n e in omega arith)

module _ (c : Chip) where
  period_kept : (reset hsel : Bool) (s : Sync) → (pick reset (on_period hsel s) s).periods.latch.0 ≡ s.periods.latch.0
  unfolding on_period step_periods
  period_kept true hsel s = refl
  period_kept false hsel s = refl

  period_overflow : (reset hsel : Bool) (s : Sync) → (pick reset (on_period hsel s) s).periods.overflow ≡ pick reset (overflowed 4095 s.periods.overflow s.periods.count.0) s.periods.overflow
  unfolding on_period step_periods
  period_overflow true hsel s = refl
  period_overflow false hsel s = refl

  lines_overflow : (hsel below : Bool) (s : Sync) → (pick hsel s.lines (pick below s.lines (latch_lines s.lines))).overflow ≡ s.lines.overflow
  unfolding latch_lines
  lines_overflow true below s = refl
  lines_overflow false true s = refl
  lines_overflow false false s = refl

  period_lines : (reset hsel : Bool) (s : Sync) → (pick reset (on_period hsel s) s).lines.overflow ≡ s.lines.overflow
  unfolding on_period lines_on_period
  period_lines true hsel s = lines_overflow hsel (ltb s.interval 1023) s
  period_lines false hsel s = refl

  lines_latch : (hsel last : Bool) (s : Sync) → (pick hsel s.lines (pick (not last) s.lines (latch_lines s.lines))).latch.0 ≡ pick (not hsel && last) (latched s.lines.overflow s.lines.count.0 s.lines.latch.0) s.lines.latch.0
  unfolding latch_lines
  lines_latch true last s = refl
  lines_latch false true s = refl
  lines_latch false false s = refl

  period_latch : (reset hsel : Bool) (s : Sync) → (pick reset (on_period hsel s) s).lines.latch.0 ≡ pick (reset && (not hsel && ltb 1022 s.interval)) (latched s.lines.overflow s.lines.count.0 s.lines.latch.0) s.lines.latch.0
  unfolding on_period lines_on_period
  period_latch true hsel s = rw (interval_last_lem s.interval) (lines_latch hsel (ltb 1022 s.interval) s)
  period_latch false hsel s = refl

  at_period : After c (Ok (Clock 0)) (next c (Ok (Clock 0))).core.sync
  unfolding next core_after clocked clocked_as overflows_lines overflows_periods clears_lines clears_periods latches_lines latches_periods
  at_period =
      let s : Sync = c.core.sync in
      let hsel : Bool = hsel_of c.core in
      let reset : Bool = c.core.reset in
      let m = (period_moves reset c.core).sync in
      record {
        hcntov = ap (λ (x : Sync). x.lines.overflow) m ∙ period_lines reset hsel s ∙ and_true s.lines.overflow;
        vcntov = ap (λ (x : Sync). x.periods.overflow) m ∙ period_overflow reset hsel s ∙ step_overflow reset s.periods.overflow s.periods.count.0;
        hlatch = ap (λ (x : Sync). x.lines.latch.0) m ∙ period_latch reset hsel s ∙ latch_by (reset && (not hsel && ltb 1022 s.interval)) s.lines.overflow s.lines.count.0 s.lines.latch.0;
        vlatch = ap (λ (x : Sync). x.periods.latch.0) m ∙ period_kept reset hsel s;
      }

  watchdog_by : (reset fires : Bool) → c.core.reset ≡ reset → ltb 62 c.core.watchdog ≡ fires →
      After c (Ok (Clock 3)) (pick reset (pick fires (reset_core c.core) (with_watchdog c.core (watchdog_next c.core.watchdog))) c.core).sync
  unfolding reset_core reset_at overflows_lines overflows_periods clears_lines clears_periods latches_lines latches_periods
  watchdog_by true true r f = zero_by c (Ok (Clock 3)) _ refl (rw (r, f) refl) refl refl
  watchdog_by true false r f = quiet c (Ok (Clock 3)) _ refl (record { reset = rw (r, f) refl; h = refl; v = refl; clears_h = rw (r, f) refl; clears_v = rw (r, f) refl; latches_h = refl; latches_v = refl })
  watchdog_by false fires r f = quiet c (Ok (Clock 3)) _ refl (record { reset = rw r refl; h = refl; v = refl; clears_h = rw r refl; clears_v = rw r refl; latches_h = refl; latches_v = refl })

  at_watchdog : After c (Ok (Clock 3)) (next c (Ok (Clock 3))).core.sync
  unfolding next core_after clocked clocked_as watchdog_clock
  at_watchdog = rw (watchdog_last c.core.watchdog) (watchdog_by c.core.reset (ltb 62 c.core.watchdog) refl refl)

  at_timer : (k : ℕ) → eqb k 0 ≡ false → eqb k 3 ≡ false → After c (Ok (Clock k)) (next c (Ok (Clock k))).core.sync
  unfolding next core_after clocked clocked_as timer_clock timer_step overflows_lines overflows_periods clears_lines clears_periods latches_lines latches_periods
  at_timer k e f =
      rw (e, f)
      (quiet c (Ok (Clock k)) _
      (pick_by (λ (x : Core). x.sync ≡ c.core.sync) c.core.reset
      (λ _. pick_by (λ (x : Core). x.sync ≡ c.core.sync) (timer_runs (register_at c.registers BTCON) k) (λ _. refl) (λ _. refl))
      (λ _. refl))
      (record { reset = rw f refl; h = refl; v = rw e refl; clears_h = rw f refl; clears_v = rw f refl; latches_h = rw e refl; latches_v = refl }))

  clock_by : (k : ℕ) (zero three : Bool) → eqb k 0 ≡ zero → eqb k 3 ≡ three → After c (Ok (Clock k)) (next c (Ok (Clock k))).core.sync
  clock_by k true three e f = rw (eqb-true k 0 e) at_period
  clock_by k false true e f = rw (eqb-true k 3 f) at_watchdog
  clock_by k false false e f = at_timer k e f

-- ---- every event

nothing : (c : Chip) (e : Decoded) → Quiet c e → After c e c.core.sync
nothing c e q = quiet c e c.core.sync refl q

pub counters_after : (c : Chip) (e : Decoded) → After c e (next c e).core.sync
unfolding next core_after pin_moved polarity_found overflows_lines overflows_periods clears_lines clears_periods latches_lines latches_periods
counters_after c (Ok (Read a)) = nothing c (Ok (Read a)) (record { reset = refl; h = refl; v = refl; clears_h = refl; clears_v = refl; latches_h = refl; latches_v = refl })
counters_after c (Ok (Write a b)) = at_write c a b
counters_after c (Ok (Pin p level)) = at_kind_lem c level (numbered p)
counters_after c (Ok (Clock k)) = clock_by c k _ _ refl refl
counters_after c (Ok (Polarity vertical level)) =
    quiet c (Ok (Polarity vertical level)) _ (pick_by (λ (x : Core). x.sync ≡ c.core.sync) c.core.reset (λ _. refl) (λ _. refl))
    (record { reset = refl; h = refl; v = refl; clears_h = refl; clears_v = refl; latches_h = refl; latches_v = refl })
counters_after c (Err r) = nothing c (Err r) (record { reset = refl; h = refl; v = refl; clears_h = refl; clears_v = refl; latches_h = refl; latches_v = refl })
