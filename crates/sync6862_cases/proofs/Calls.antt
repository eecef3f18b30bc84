-- The calls are answered so, and these are the fresh states.
use mathlib.Core.Path.{◌≡◌, refl}
use mathlib.Core.Bool.{true}
use Rattle.counters.specs.Count.{counted, overflowed, latched, zeroed, cycle_next}
use Rattle.sync.specs.Sync.{step_lines, latch_lines, clear_lines, zero_lines, latch_periods, clear_periods, on_hsync, lines_on_vsync, on_vsync, hsel_cleared, clear_overflow, zero_sync}
use Rattle.sync6862.specs.declared.Part.TheVariants.{Nt6861, Nt6862}
use Rattle.sync6862.specs.declared.Counters.{Counters}
use Rattle.sync6862.specs.declared.Refusal.{Refusal}
use Rattle.sync6862.specs.declared.Refusal.TheVariants.{NoSuchChip}
use Rattle.std.specs.Prelude.{Result, Ok, Err}
use Rattle.sync6862.specs.Unit.{periods_last, interval_last, per_field, restarts, step_periods_to, interval_next_to, lines_on_period_to, on_period_to, well_to, well_formed, clear_lines_of, hsync_moved, vsync_moved, clocked, hsel_set, enhsel_set, cleared_h, cleared_v, on_enhsel, answered, answer, refusal_number, fresh_as, fresh}
use Rattle.sync6862_cases.specs.Calls.{rows, given, expected, unit, at}

pub calls_answered : given rows ≡ expected rows
unfolding rows counted overflowed latched zeroed cycle_next step_lines latch_lines clear_lines zero_lines latch_periods clear_periods on_hsync lines_on_vsync on_vsync hsel_cleared clear_overflow periods_last interval_last per_field restarts step_periods_to interval_next_to lines_on_period_to on_period_to well_to well_formed clear_lines_of hsync_moved vsync_moved clocked hsel_set enhsel_set cleared_h cleared_v on_enhsel answered answer refusal_number
calls_answered = refl

-- all zero, both bits and both levels 1; no chip but these two
pub fresh_states : ◌≡◌ {A = Result Counters Refusal × Result Counters Refusal × Result Counters Refusal × Result Counters Refusal} (
  fresh 6861,
  fresh 6862,
  fresh 6863,
  fresh 0,
)
    (Ok (unit Nt6861 true (at 0 0) (at 0 0) 0 true true), Ok (unit (Nt6862 true) true (at 0 0) (at 0 0) 0 true true), Err NoSuchChip, Err NoSuchChip)
unfolding fresh fresh_as zero_sync
fresh_states = refl
