-- Runs from a fresh NT6862 at which the premises hold.
-- Assumes nothing.
use Prim.Native.Nat.{ℕ}
use mathlib.Core.Path.{◌≡◌, refl}
use mathlib.Core.Bool.{Bool, true}
use mathlib.Core.List.{◌++◌}
use Rattle.counters.specs.Count.{counted, overflowed, latched, zeroed, cycle_next}
use Rattle.sync.specs.Sync.{step_lines, latch_lines, on_hsync, hsel_cleared, zero_lines, zero_sync}
use Rattle.sync6862.specs.declared.Part.TheVariants.{Nt6862}
use Rattle.sync6862.specs.Unit.{periods_last, interval_last, per_field, restarts, step_periods_to, interval_next_to, lines_on_period_to, on_period_to, well_to, well_formed, hsync_moved, clocked, hsel_set, enhsel_set, on_enhsel, answered, answer, fresh_as}
use Rattle.sync6862_laws.specs.Counting.{run, clocks, hsync_rises, period_clocks, zeroes_lines, releases_lines, zeroes_periods, breaks_lines, never}
use Rattle.sync6862_laws.specs.Worked.{field, short}

-- a field of two lines and a clock, on a fresh NT6862: VSYNCI rises, and then two pulses and the clock
pub counted_at : ◌≡◌ {A = Bool × Bool × ℕ × ℕ × ℕ × ℕ} (
  never breaks_lines (fresh_as (Nt6862 true)) field,
  never zeroes_periods (fresh_as (Nt6862 true)) field,
  hsync_rises true field,
  period_clocks field,
  (run (fresh_as (Nt6862 true)) field).sync.lines.count.0,
  (run (fresh_as (Nt6862 true)) field).sync.periods.count.0,
)
    (true, true, 2, 1, 2, 1)
unfolding counted overflowed latched zeroed cycle_next step_lines on_hsync zero_sync periods_last interval_last per_field step_periods_to interval_next_to lines_on_period_to on_period_to well_to well_formed hsync_moved clocked answered answer fresh_as run zeroes_lines releases_lines zeroes_periods never
counted_at = refl

-- with ENHSEL 0 and HSEL 0 the 2,048th clock latches the pulse counted, and the 2,047th does not
pub latched_at : ◌≡◌ {A = ℕ × ℕ × ℕ × ℕ} (
  (run (fresh_as (Nt6862 true)) (short ++ clocks 2047)).sync.lines.latch.0,
  (run (fresh_as (Nt6862 true)) (short ++ clocks 2047)).sync.lines.count.0,
  (run (fresh_as (Nt6862 true)) (short ++ clocks 2048)).sync.lines.latch.0,
  (run (fresh_as (Nt6862 true)) (short ++ clocks 2048)).sync.lines.count.0,
)
    (0, 1, 1, 0)
unfolding counted overflowed latched zeroed cycle_next step_lines latch_lines on_hsync hsel_cleared zero_lines zero_sync periods_last interval_last per_field restarts step_periods_to interval_next_to lines_on_period_to on_period_to well_to well_formed hsync_moved clocked hsel_set enhsel_set on_enhsel answered answer fresh_as run
latched_at = refl
