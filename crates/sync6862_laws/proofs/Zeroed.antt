-- Each call that the tables name zeroes its count.
-- Assumes nothing.
use Prim.Native.Nat.{ℕ}
use mathlib.Core.Path.{◌≡◌, refl}
use mathlib.Core.Bool.{Bool, true, false, not, ◌&&◌}
use lib.Dec.{ltb}
use Rattle.bits.specs.Byte.{pick}
use Rattle.counters.specs.Count.{zeroed}
use Rattle.sync.specs.declared.LineCounter.{LineCounter}
use Rattle.sync.specs.declared.Sync.{Sync}
use Rattle.sync.specs.Sync.{latch_lines, latch_periods, clear_lines, clear_periods, zero_lines, lines_on_vsync, on_vsync, hsel_cleared, clear_overflow}
use Rattle.sync6862.specs.declared.Part.{Part}
use Rattle.sync6862.specs.declared.Part.TheVariants.{Nt6861, Nt6862}
use Rattle.sync6862.specs.declared.Counters.{Counters}
use Rattle.sync6862.specs.declared.Call.{Call}
use Rattle.sync6862.specs.declared.Call.TheVariants.{Hsynci, Vsynci, Clock, Enhsel, Hsel, ClearH, ClearV}
use Rattle.sync6862.specs.Unit.{interval_last, per_field, differs, restarts, has_enhsel, lines_on_period_to, on_period_to, clear_lines_of, restarted_if, on_vsync_if, vsync_moved, clocked, hsel_set, enhsel_set, cleared_h, cleared_v, on_enhsel, answered, left}
use Rattle.sync6862_laws.specs.Counting.{changes_enhsel, zeroes_lines, zeroes_periods}

at_zero : (overflow : Bool) (count : ℕ) → not overflow ≡ true → zeroed overflow count ≡ 0
unfolding zeroed
at_zero true count h = cc
at_zero false count h = refl

-- ---- HCNT

rise_lines : (rise field : Bool) (s : Sync) → (rise && (field && not s.lines.overflow)) ≡ true → (on_vsync_if rise field s).lines.count.0 ≡ 0
unfolding on_vsync lines_on_vsync latch_lines
rise_lines true true s h = at_zero s.lines.overflow s.lines.count.0 h
rise_lines true false s h = cc
rise_lines false field s h = cc

period_lines : (field below : Bool) (c : LineCounter) → (not field && (not below && not c.overflow)) ≡ true → (pick field c (pick below c (latch_lines c))).count.0 ≡ 0
unfolding latch_lines
period_lines true below c h = cc
period_lines false true c h = cc
period_lines false false c h = at_zero c.overflow c.count.0 h

restarted_lines : (changed : Bool) (s : Sync) → changed ≡ true → (restarted_if changed s).lines.count.0 ≡ 0
unfolding hsel_cleared zero_lines
restarted_lines changed s h = rw h

enhsel_lines : (part : Part) (s : Counters) (new : Bool) → changes_enhsel part new ≡ true → (left s (on_enhsel part s new)).sync.lines.count.0 ≡ 0
unfolding on_enhsel enhsel_set
enhsel_lines Nt6861 s new h = cc
enhsel_lines (Nt6862 old) s new h = restarted_lines (differs old new) s.sync h

clear_lines_lem : (part : Part) (c : LineCounter) → not (has_enhsel part) ≡ true → (clear_lines_of part c).count.0 ≡ 0
unfolding clear_lines_of clear_lines has_enhsel
clear_lines_lem Nt6861 c h = refl
clear_lines_lem (Nt6862 enhsel) c h = cc

clear_zeroed : (s : Counters) → zeroes_lines s ClearH ≡ true → (left s (answered s ClearH)).sync.lines.count.0 ≡ 0
unfolding answered cleared_h zeroes_lines
clear_zeroed s h = clear_lines_lem s.part s.sync.lines h

pub lines_zeroed : (s : Counters) (call : Call) → zeroes_lines s call ≡ true → (left s (answered s call)).sync.lines.count.0 ≡ 0
unfolding answered vsync_moved clocked hsel_set cleared_h on_period_to lines_on_period_to zeroes_lines
lines_zeroed s (Hsynci level) h = cc
lines_zeroed s (Vsynci level) h = rise_lines (level && not s.vsynci) (per_field s.part s.hsel) s.sync h
lines_zeroed s Clock h = period_lines (per_field s.part s.hsel) (ltb s.sync.interval (interval_last s.part s.hsel)) s.sync.lines h
lines_zeroed s (Enhsel new) h = enhsel_lines s.part s new h
lines_zeroed s (Hsel new) h = restarted_lines (restarts s.part s.hsel new) s.sync h
lines_zeroed s ClearH h = clear_zeroed s h
lines_zeroed s ClearV h = cc

-- ---- VCNT

rise_periods : (rise field : Bool) (s : Sync) → (rise && not s.periods.overflow) ≡ true → (on_vsync_if rise field s).periods.count.0 ≡ 0
unfolding on_vsync latch_periods
rise_periods true field s h = at_zero s.periods.overflow s.periods.count.0 h
rise_periods false field s h = cc

pub periods_zeroed : (s : Counters) (call : Call) → zeroes_periods s call ≡ true → (left s (answered s call)).sync.periods.count.0 ≡ 0
unfolding answered vsync_moved cleared_v clear_overflow clear_periods zeroes_periods
periods_zeroed s (Hsynci level) h = cc
periods_zeroed s (Vsynci level) h = rise_periods (level && not s.vsynci) (per_field s.part s.hsel) s.sync h
periods_zeroed s Clock h = cc
periods_zeroed s (Enhsel new) h = cc
periods_zeroed s (Hsel new) h = cc
periods_zeroed s ClearH h = cc
periods_zeroed s ClearV h = refl

-- ---- clear H of the NT6862 lets the count stand

pub release_keeps : (s : Counters) (enhsel : Bool) → s.part ≡ Nt6862 enhsel
    → ((left s (answered s ClearH)).sync.lines.count ≡ s.sync.lines.count) × ((left s (answered s ClearH)).sync.lines.overflow ≡ false)
unfolding answered cleared_h clear_lines_of
release_keeps s enhsel e = (rw e, rw e)
