-- A run from a fresh chip at which the premises hold: address A0H is sent, the ninth clock ends, and 8 µs clocks are counted.
-- Assumes nothing.
use mathlib.Core.Path.{◌≡◌, refl}
use mathlib.Core.Bool.{Bool, true}
use mathlib.Core.List.{[], ◌∷◌, ◌++◌}
use Prim.Native.Nat.{ℕ}
use Rattle.bits.specs.Byte.{bit, merge, with_bit}
use Rattle.registers.specs.Table.{table, resets, reset_value, row_of, write_mask, is_writable}
use Rattle.events.specs.Word.{event, no_event, no_place, bad_byte, decode}
use Rattle.counters.specs.Count.{counted, overflowed, watchdog_next, watchdog_fires, cycle_next}
use Rattle.sync.specs.Sync.{step_periods, lines_on_period, interval_next, on_period, hsel_cleared, zero_sync}
use Rattle.bus.specs.declared.OwnAddress.TheVariants.{A0}
use Rattle.bus.specs.declared.Phase.{Phase}
use Rattle.bus.specs.declared.Phase.TheVariants.{Receive, Held}
use Rattle.bus.specs.Bus.{mode, changes_mode, pulls_at_bit, pulls_sda, pulls_scl, sda_pulled, scl_pulled, compared_in}
use Rattle.bus_ddc2b.specs.Ddc2b.{matches, compared, gathered, phase_at_rise, data_at_rise, matches_at_rise, status_at_rise, holds_at_fall, phase_at_fall, held_longer, phase_at_period, phase_let_go}
use Rattle.chip.specs.State.{released, reset_at, fresh}
use Rattle.chip_edges.specs.Edges.{bus_at_mode, bus_at_rise, scl_rise, scl_fall, on_scl_ddc2b, on_scl, scl_moved, started, on_sda_ddc2b, on_sda, sda_moved}
use Rattle.chip_writes.specs.Writes.{target, written_to, kept_by, written, stored_by, write_register, write_kept}
use Rattle.chip_ddc_writes.specs.DdcWrites.{sync_at_hsel, mdcon_written, status_written, iists_written, bus_risen, bus_at_iidat, iidat_written}
use Rattle.chip_pins.specs.Pins.{pin_kind, pin_moved_as, pin_moved}
use Rattle.chip_clocks.specs.Clocks.{period_clock, watchdog_clock, clocked_as, clocked}
use Rattle.chip_events.specs.Outcome.{core_after, was_reset, kept_after, next}
use Rattle.step.specs.Step.{advance}
use Rattle.list_call.specs.Run.{advanced}
use Rattle.chip_hold_laws.specs.Stretching.{takes_scl, lets_go, lasts, periods_given, bounded}
use Rattle.chip_hold_laws.specs.Worked.{ninth, fall, words}

-- the fall takes SCL low and the hold lasts, with three clocks counted; a write to II DAT ends it
pub held_at : ◌≡◌ {A = Bool × Bool × ℕ × Phase × Bool × Phase} (
  takes_scl ninth (decode fall),
  lasts (next ninth (decode fall)) words,
  bounded (periods_given (next ninth (decode fall)) words),
  (advanced ninth (fall ∷ words)).core.bus.phase,
  lets_go (advanced ninth (fall ∷ words)) (decode 0x02001400),
  (advanced ninth (fall ∷ (words ++ (0x02001400 ∷ [])))).core.bus.phase,
)
    (true, true, 3, Held A0 3, true, Receive A0 1 1)
unfolding compared_in compared phase_let_go bit merge with_bit table resets reset_value row_of write_mask is_writable event no_event no_place bad_byte decode counted overflowed watchdog_next watchdog_fires cycle_next step_periods lines_on_period interval_next on_period hsel_cleared zero_sync mode changes_mode pulls_at_bit pulls_sda pulls_scl sda_pulled scl_pulled matches gathered phase_at_rise data_at_rise matches_at_rise status_at_rise holds_at_fall phase_at_fall held_longer phase_at_period released reset_at fresh bus_at_mode bus_at_rise scl_rise scl_fall on_scl_ddc2b on_scl scl_moved started on_sda_ddc2b on_sda sda_moved target written_to kept_by written stored_by write_register write_kept sync_at_hsel mdcon_written status_written iists_written bus_risen bus_at_iidat iidat_written pin_kind pin_moved_as pin_moved period_clock watchdog_clock clocked_as clocked core_after was_reset kept_after next advance takes_scl lets_go bounded
held_at = refl
