-- What one call does to the two counters, where it breaks neither count, and to the level that says what HCNT counts.
-- Assumes nothing.
use mathlib.Core.Path.{◌≡◌, refl, sym, ap}
use mathlib.Core.Bool.{Bool, true, false, not, ◌&&◌}
use lib.Dec.{ltb}
use Rattle.bits.specs.Byte.{pick}
use Rattle.counters.specs.Count.{latched, zeroed}
use Rattle.sync.specs.declared.LineCounter.{LineCounter}
use Rattle.sync.specs.declared.PeriodCounter.{PeriodCounter}
use Rattle.sync.specs.declared.Sync.{Sync}
use Rattle.sync.specs.Sync.{step_lines, latch_lines, latch_periods, clear_lines, lines_on_vsync, on_hsync, on_vsync, hsel_cleared, clear_overflow}
use Rattle.sync6862.specs.declared.Part.{Part}
use Rattle.sync6862.specs.declared.Part.TheVariants.{Nt6861, Nt6862}
use Rattle.sync6862.specs.declared.Counters.{Counters}
use Rattle.sync6862.specs.declared.Call.{Call}
use Rattle.sync6862.specs.declared.Call.TheVariants.{Hsynci, Vsynci, Clock, Enhsel, Hsel, ClearH, ClearV}
use Rattle.sync6862.specs.Unit.{periods_last, interval_last, per_field, differs, restarts, has_enhsel, step_periods_to, lines_on_period_to, on_period_to, well_formed, clear_lines_of, release_lines, restarted_if, on_hsync_if, on_vsync_if, hsync_moved, vsync_moved, clocked, hsel_set, enhsel_set, cleared_h, cleared_v, on_enhsel, answered, answer, left}
use Rattle.sync6862_laws.specs.Counting.{rises_hsynci, hsynci_after, is_clock, changes_enhsel, zeroes_lines, releases_lines, zeroes_periods}

-- a call on a well formed state is carried out
pub done : (s : Counters) (call : Call) → well_formed s ≡ true → answer s call ≡ answered s call
unfolding answer
done s call w = rw w

-- ---- HCNT

latch_kept : (c : LineCounter) → c.overflow ≡ true → latch_lines c ≡ c
unfolding latch_lines latched zeroed
latch_kept c o = rw o

-- a test that fails of what is not in overflow
overflows : (a b : Bool) → (a && not b) ≡ false → a ≡ true → b ≡ true
overflows true true h e = refl
overflows true false h e = sym h
overflows false b h e = cc

rise_lines : (rise field : Bool) (s : Sync) → (rise && (field && not s.lines.overflow)) ≡ false → (on_vsync_if rise field s).lines ≡ s.lines
unfolding on_vsync lines_on_vsync
rise_lines true true s h = latch_kept s.lines (overflows true s.lines.overflow h refl)
rise_lines true false s h = refl
rise_lines false field s h = refl

period_lines : (field below : Bool) (c : LineCounter) → (not field && (not below && not c.overflow)) ≡ false → pick field c (pick below c (latch_lines c)) ≡ c
period_lines true below c h = refl
period_lines false true c h = refl
period_lines false false c h = latch_kept c (overflows true c.overflow h refl)

restarted_lines : (changed : Bool) (s : Sync) → changed ≡ false → (restarted_if changed s).lines ≡ s.lines
restarted_lines changed s h = rw h

enhsel_lines : (part : Part) (s : Counters) (new : Bool) → changes_enhsel part new ≡ false → (left s (on_enhsel part s new)).sync.lines ≡ s.sync.lines
unfolding on_enhsel enhsel_set
enhsel_lines Nt6861 s new h = refl
enhsel_lines (Nt6862 old) s new h = restarted_lines (differs old new) s.sync h

released_kept : (c : LineCounter) → c.overflow ≡ false → release_lines c ≡ c
released_kept c o = ap (λ (b : Bool). record { count = c.count; latch = c.latch; overflow = b }) (sym o)

clear_lines_lem : (part : Part) (c : LineCounter) → not (has_enhsel part) ≡ false → (has_enhsel part && c.overflow) ≡ false → clear_lines_of part c ≡ c
unfolding clear_lines_of has_enhsel
clear_lines_lem Nt6861 c h k = cc
clear_lines_lem (Nt6862 enhsel) c h k = released_kept c k

rising : (rise : Bool) (s : Sync) → (on_hsync_if rise s).lines ≡ pick rise (step_lines s.lines) s.lines
unfolding on_hsync
rising true s = refl
rising false s = refl

rise_effect : (s : Counters) (level : Bool) → (left s (answered s (Hsynci level))).sync.lines ≡ pick (rises_hsynci s.hsynci (Hsynci level)) (step_lines s.sync.lines) s.sync.lines
unfolding answered hsync_moved
rise_effect s level = rising (level && not s.hsynci) s.sync

clear_effect : (s : Counters) → zeroes_lines s ClearH ≡ false → releases_lines s ClearH ≡ false → (left s (answered s ClearH)).sync.lines ≡ s.sync.lines
unfolding answered cleared_h zeroes_lines releases_lines
clear_effect s h k = clear_lines_lem s.part s.sync.lines h k

-- HCNT steps at a rise of HSYNCI and at no other call
pub lines_effect : (s : Counters) (call : Call) → zeroes_lines s call ≡ false → releases_lines s call ≡ false
    → (left s (answered s call)).sync.lines ≡ pick (rises_hsynci s.hsynci call) (step_lines s.sync.lines) s.sync.lines
unfolding answered hsync_moved vsync_moved clocked hsel_set cleared_h cleared_v on_period_to lines_on_period_to clear_overflow clear_lines zeroes_lines releases_lines
lines_effect s (Hsynci level) h k = rise_effect s level
lines_effect s (Vsynci level) h k = rise_lines (level && not s.vsynci) (per_field s.part s.hsel) s.sync h
lines_effect s Clock h k = period_lines (per_field s.part s.hsel) (ltb s.sync.interval (interval_last s.part s.hsel)) s.sync.lines h
lines_effect s (Enhsel new) h k = enhsel_lines s.part s new h
lines_effect s (Hsel new) h k = restarted_lines (restarts s.part s.hsel new) s.sync h
lines_effect s ClearH h k = clear_effect s h k
lines_effect s ClearV h k = refl

enhsel_hsynci : (part : Part) (s : Counters) (new : Bool) → (left s (on_enhsel part s new)).hsynci ≡ s.hsynci
unfolding on_enhsel enhsel_set
enhsel_hsynci Nt6861 s new = refl
enhsel_hsynci (Nt6862 old) s new = refl

pub hsynci_effect : (s : Counters) (call : Call) → (left s (answered s call)).hsynci ≡ hsynci_after s.hsynci call
unfolding answered hsync_moved vsync_moved clocked hsel_set cleared_h cleared_v
hsynci_effect s (Hsynci level) = refl
hsynci_effect s (Vsynci level) = refl
hsynci_effect s Clock = refl
hsynci_effect s (Enhsel new) = enhsel_hsynci s.part s new
hsynci_effect s (Hsel new) = refl
hsynci_effect s ClearH = refl
hsynci_effect s ClearV = refl

-- ---- VCNT

periods_kept : (c : PeriodCounter) → c.overflow ≡ true → latch_periods c ≡ c
unfolding latch_periods latched zeroed
periods_kept c o = rw o

rise_periods : (rise field : Bool) (s : Sync) → (rise && not s.periods.overflow) ≡ false → (on_vsync_if rise field s).periods ≡ s.periods
unfolding on_vsync
rise_periods true field s h = periods_kept s.periods (overflows true s.periods.overflow h refl)
rise_periods false field s h = refl

rise_of_hsynci : (rise : Bool) (s : Sync) → (on_hsync_if rise s).periods ≡ s.periods
unfolding on_hsync
rise_of_hsynci true s = refl
rise_of_hsynci false s = refl

restarted_periods : (changed : Bool) (s : Sync) → (restarted_if changed s).periods ≡ s.periods
unfolding hsel_cleared
restarted_periods true s = refl
restarted_periods false s = refl

enhsel_periods : (part : Part) (s : Counters) (new : Bool) → (left s (on_enhsel part s new)).sync.periods ≡ s.sync.periods
unfolding on_enhsel enhsel_set
enhsel_periods Nt6861 s new = refl
enhsel_periods (Nt6862 old) s new = restarted_periods (differs old new) s.sync

-- VCNT steps at an 8 µs clock and at no other call
pub periods_effect : (s : Counters) (call : Call) → zeroes_periods s call ≡ false
    → (left s (answered s call)).sync.periods ≡ pick (is_clock call) (step_periods_to (periods_last s.part) s.sync.periods) s.sync.periods
unfolding answered hsync_moved vsync_moved clocked hsel_set cleared_h cleared_v on_period_to zeroes_periods
periods_effect s (Hsynci level) h = rise_of_hsynci (level && not s.hsynci) s.sync
periods_effect s (Vsynci level) h = rise_periods (level && not s.vsynci) (per_field s.part s.hsel) s.sync h
periods_effect s Clock h = refl
periods_effect s (Enhsel new) h = enhsel_periods s.part s new
periods_effect s (Hsel new) h = restarted_periods (restarts s.part s.hsel new) s.sync
periods_effect s ClearH h = refl
periods_effect s ClearV h = cc
