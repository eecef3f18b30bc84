-- Each call leaves a well formed state well formed, and a fresh state is. What holds of HCNT is taken from `sync`, what holds of VCNT and
-- of the interval from the laws of `counters` over the last value.
-- Assumes nothing.
use Prim.Native.Nat.{ℕ, ◌+◌, ◌≤◌, ◌<◌}
use mathlib.Core.Path.{◌≡◌, refl}
use mathlib.Core.Bool.{Bool, true, false, not, ◌&&◌}
use native.Mathlib.Omega.{arith}
use lib.Dec.{ltb}
use borrow.Author.Tests.{ltb-true, lt-ltb}
use Rattle.bits.proofs.Finite.{both}
use Rattle.bits.proofs.Level.{pick_by}
use Rattle.counters.proofs.Counting.{counted_within, latched_below, zeroed_below, cycle_within}
use Rattle.sync.specs.declared.LineCounter.{LineCounter}
use Rattle.sync.specs.declared.PeriodCounter.{PeriodCounter}
use Rattle.sync.specs.declared.Sync.{Sync}
use Rattle.sync.specs.Sync.{latch_periods, clear_periods, clear_lines, zero_lines, on_hsync, on_vsync, hsel_cleared, clear_overflow, zero_sync}
use Rattle.sync.specs.Fits.{LinesFit}
use Rattle.sync.proofs.WellFormed.{step_lines_fits, clear_lines_fits, lines_on_vsync_fits, interval_end_fits}
use Rattle.sync6862.specs.declared.Part.{Part}
use Rattle.sync6862.specs.declared.Part.TheVariants.{Nt6861, Nt6862}
use Rattle.sync6862.specs.declared.Counters.{Counters}
use Rattle.sync6862.specs.declared.Call.{Call}
use Rattle.sync6862.specs.declared.Call.TheVariants.{Hsynci, Vsynci, Clock, Enhsel, Hsel, ClearH, ClearV}
use Rattle.sync6862.specs.declared.Refusal.{Refusal}
use Rattle.std.proofs.Common.{Result}
use Rattle.sync6862.specs.Unit.{periods_last, interval_last, per_field, differs, restarts, step_periods_to, interval_next_to, lines_on_period_to, on_period_to, well_to, well_formed, clear_lines_of, restarted_if, on_hsync_if, on_vsync_if, hsync_moved, vsync_moved, clocked, hsel_set, enhsel_set, cleared_h, cleared_v, on_enhsel, answered, answer, fresh_as, left}

-- ---- the ranges as facts on the numbers

pub record PeriodsWithin (last : ℕ) (c : PeriodCounter) : Type 0 where
  pub count : c.count.0 ≤ last
  pub latch : c.latch.0 ≤ last

pub record Within (v i : ℕ) (s : Sync) : Type 0 where
  pub lines : LinesFit s.lines
  pub periods : PeriodsWithin v s.periods
  pub interval : s.interval ≤ i

at_most_lem : (n last : ℕ) → ltb n (last + 1) ≡ true → n ≤ last
at_most_lem n last h = let less = ltb-true n (last + 1) h in omega arith

below : (n last : ℕ) → n ≤ last → ltb n (last + 1) ≡ true
below n last h = lt-ltb n (last + 1) (omega arith)

pub within : (periods interval : ℕ) (s : Sync) → well_to periods interval s ≡ true → Within periods interval s
unfolding well_to
within periods interval s h =
    let four = both _ _ h in
    let three = both _ _ four.0 in
    let two = both _ _ three.0 in
    let one = both _ _ two.0 in
    record {
      lines = record { count = ltb-true _ _ one.0; latch = ltb-true _ _ one.1 };
      periods = record { count = at_most_lem _ _ two.1; latch = at_most_lem _ _ three.1 };
      interval = at_most_lem _ _ four.1;
    }

pub well_to_lem : (periods interval : ℕ) (s : Sync) → Within periods interval s → well_to periods interval s ≡ true
unfolding well_to
well_to_lem periods interval s h =
    simp (
      lt-ltb _ _ h.lines.count,
      lt-ltb _ _ h.lines.latch,
      below _ _ h.periods.count,
      below _ _ h.periods.latch,
      below _ _ h.interval,
    )

-- ---- VCNT and the interval, over the last value

step_within : (last : ℕ) (c : PeriodCounter) → PeriodsWithin last c → PeriodsWithin last (step_periods_to last c)
unfolding step_periods_to
step_within last c h = record { count = counted_within last _ _ h.count; latch = h.latch }

latch_within : (last : ℕ) (c : PeriodCounter) → PeriodsWithin last c → PeriodsWithin last (latch_periods c)
unfolding latch_periods
latch_within last c h =
    let count : c.count.0 < last + 1 = omega (arith, h.count) in
    let latch : c.latch.0 < last + 1 = omega (arith, h.latch) in
    record {
      count = omega (arith, zeroed_below (last + 1) c.count.0 c.overflow count);
      latch = omega (arith, latched_below (last + 1) c.count.0 c.latch.0 c.overflow count latch);
    }

interval_within : (field : Bool) (last n : ℕ) → n ≤ last → interval_next_to field last n ≤ last
unfolding interval_next_to
interval_within true last n h = h
interval_within false last n h = cycle_within last n

lines_on_period_fits : (field : Bool) (last n : ℕ) (c : LineCounter) → LinesFit c → LinesFit (lines_on_period_to field last n c)
unfolding lines_on_period_to
lines_on_period_fits true last n c h = h
lines_on_period_fits false last n c h = interval_end_fits (ltb n last) c h

clear_lines_of_fits : (part : Part) (c : LineCounter) → LinesFit c → LinesFit (clear_lines_of part c)
unfolding clear_lines_of
clear_lines_of_fits Nt6861 c h = clear_lines_fits true c h
clear_lines_of_fits (Nt6862 enhsel) c h = record { count = h.count; latch = h.latch }

-- ---- each call

module _ (periods interval : ℕ) (s : Sync) (h : Within periods interval s) where
  hsync_within : (rise : Bool) → Within periods interval (on_hsync_if rise s)
  unfolding on_hsync
  hsync_within true = record { lines = step_lines_fits _ h.lines; periods = h.periods; interval = h.interval }
  hsync_within false = h

  vsync_within : (rise field : Bool) → Within periods interval (on_vsync_if rise field s)
  unfolding on_vsync
  vsync_within true field = record { lines = lines_on_vsync_fits field _ h.lines; periods = latch_within periods _ h.periods; interval = h.interval }
  vsync_within false field = h

  period_within : (field : Bool) → Within periods interval (on_period_to field periods interval s)
  unfolding on_period_to
  period_within field =
      record {
        lines = lines_on_period_fits field interval _ _ h.lines;
        periods = step_within periods _ h.periods;
        interval = interval_within field interval _ h.interval;
      }

  -- whatever the interval's last value then is
  cleared_within : (other : ℕ) → Within periods other (hsel_cleared s)
  unfolding hsel_cleared zero_lines
  cleared_within other = record { lines = record { count = omega arith; latch = h.lines.latch }; periods = h.periods; interval = omega arith }

  clear_v_within : Within periods interval (clear_overflow false true s)
  unfolding clear_overflow clear_lines clear_periods
  clear_v_within = record { lines = h.lines; periods = record { count = omega arith; latch = h.periods.latch }; interval = h.interval }

  clear_h_within : (part : Part) → Within periods interval (record { lines = clear_lines_of part s.lines; periods = s.periods; interval = s.interval })
  clear_h_within part = record { lines = clear_lines_of_fits part _ h.lines; periods = h.periods; interval = h.interval }

-- the interval's last value goes by the new HSEL
hsel_within : (part : Part) (old new : Bool) (s : Sync) → Within (periods_last part) (interval_last part old) s → Within (periods_last part) (interval_last part new) (restarted_if (restarts part old new) s)
unfolding periods_last interval_last restarts
hsel_within Nt6861 true true s h = h
hsel_within Nt6861 true false s h = cleared_within 4095 1023 s h 1023
hsel_within Nt6861 false new s h = h
hsel_within (Nt6862 enhsel) true true s h = h
hsel_within (Nt6862 enhsel) true false s h = cleared_within 16383 4095 s h 2047
hsel_within (Nt6862 enhsel) false true s h = cleared_within 16383 2047 s h 4095
hsel_within (Nt6862 enhsel) false false s h = h

-- it does not go by ENHSEL
enhsel_within : (old new hsel changed : Bool) (s : Sync) → Within (periods_last (Nt6862 old)) (interval_last (Nt6862 old) hsel) s
    → Within (periods_last (Nt6862 new)) (interval_last (Nt6862 new) hsel) (restarted_if changed s)
unfolding periods_last interval_last
enhsel_within old new hsel true s h = cleared_within 16383 _ s h _
enhsel_within old new hsel false s h = h

-- ---- the theorem

fits : (s : Counters) → well_formed s ≡ true → Within (periods_last s.part) (interval_last s.part s.hsel) s.sync
unfolding well_formed
fits s w = within _ _ s.sync w

on_enhsel_well : (part : Part) (s : Counters) (new : Bool) → s.part ≡ part → well_formed s ≡ true → well_formed (left s (on_enhsel part s new)) ≡ true
unfolding on_enhsel enhsel_set well_formed
on_enhsel_well Nt6861 s new e w = w
on_enhsel_well (Nt6862 old) s new e w = well_to_lem _ _ _ (enhsel_within old new s.hsel (differs old new) s.sync (rw e at (fits s w)))

answered_well : (s : Counters) (call : Call) → well_formed s ≡ true → well_formed (left s (answered s call)) ≡ true
unfolding answered well_formed hsync_moved vsync_moved clocked hsel_set cleared_h cleared_v
answered_well s (Hsynci level) w = well_to_lem _ _ _ (hsync_within _ _ s.sync (fits s w) (level && not s.hsynci))
answered_well s (Vsynci level) w = well_to_lem _ _ _ (vsync_within _ _ s.sync (fits s w) (level && not s.vsynci) (per_field s.part s.hsel))
answered_well s Clock w = well_to_lem _ _ _ (period_within _ _ s.sync (fits s w) (per_field s.part s.hsel))
answered_well s (Enhsel new) w = on_enhsel_well s.part s new refl w
answered_well s (Hsel new) w = well_to_lem _ _ _ (hsel_within s.part s.hsel new s.sync (fits s w))
answered_well s ClearH w = well_to_lem _ _ _ (clear_h_within _ _ s.sync (fits s w) s.part)
answered_well s ClearV w = well_to_lem _ _ _ (clear_v_within _ _ s.sync (fits s w))

-- a well formed state stays so
pub well_kept : (s : Counters) (call : Call) → well_formed s ≡ true → well_formed (left s (answer s call)) ≡ true
unfolding answer
well_kept s call w = pick_by (λ (o : Result Counters Refusal). well_formed (left s o) ≡ true) (well_formed s) (λ _. answered_well s call w) (λ _. w)

-- a fresh state is well formed
pub fresh_well : (part : Part) → well_formed (fresh_as part) ≡ true
unfolding well_formed well_to fresh_as zero_sync periods_last interval_last
fresh_well Nt6861 = refl
fresh_well (Nt6862 enhsel) = refl
