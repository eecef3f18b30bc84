-- A run from a fresh chip at which the premises hold: two rises of HSYNCI and one 8 µs clock are counted.
-- Assumes nothing.
use mathlib.Core.Path.{◌≡◌, refl}
use mathlib.Core.Bool.{Bool, true}
use Prim.Native.Nat.{ℕ}
use Rattle.bits.specs.Byte.{bit, with_bit}
use Rattle.registers.specs.Table.{resets, reset_value, row_of}
use Rattle.events.specs.Word.{event, no_event, no_place, bad_byte, decode}
use Rattle.counters.specs.Count.{counted, overflowed}
use Rattle.sync.specs.Sync.{step_lines, step_periods, on_hsync, lines_on_period, interval_next, on_period, zero_sync}
use Rattle.chip.specs.State.{reset_at, fresh}
use Rattle.chip_pins.specs.Pins.{pin_kind, hsync_moved, pin_moved_as, pin_moved}
use Rattle.chip_clocks.specs.Clocks.{period_clock, clocked_as, clocked}
use Rattle.chip_events.specs.Outcome.{core_after, was_reset, kept_after, next}
use Rattle.step.specs.Step.{advance}
use Rattle.list_call.specs.Run.{advanced}
use Rattle.chip_count_laws.specs.Counting.{hsync_rises, period_clocks, zeroes_lines, zeroes_periods, never}
use Rattle.chip_count_laws.specs.Worked.{words}

pub counted_at : ◌≡◌ {A = Bool × Bool × ℕ × ℕ × ℕ × ℕ} (
  never zeroes_lines fresh words,
  never zeroes_periods fresh words,
  hsync_rises true true words,
  period_clocks true words,
  (advanced fresh words).core.sync.lines.count.0,
  (advanced fresh words).core.sync.periods.count.0,
)
    (true, true, 2, 1, 2, 1)
unfolding bit with_bit resets reset_value row_of event no_event no_place bad_byte decode counted overflowed step_lines step_periods on_hsync lines_on_period interval_next on_period zero_sync reset_at fresh pin_kind hsync_moved pin_moved_as pin_moved period_clock clocked_as clocked core_after was_reset kept_after next advance zeroes_lines zeroes_periods
counted_at = refl
