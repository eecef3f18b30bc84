-- DDC1 from a fresh chip, computed: what is on SDA after each of rises 1 to 27 of VSYNCI.
-- Assumes nothing.
use mathlib.Core.Path.{◌≡◌, refl}
use Rattle.bits.specs.Byte.{bit, merge, with_bit}
use Rattle.registers.specs.Table.{table, resets, reset_value, row_of, write_mask, is_writable}
use Rattle.events.specs.Word.{event, no_event, no_place, bad_byte, decode}
use Rattle.counters.specs.Count.{latched, zeroed}
use Rattle.sync.specs.Sync.{latch_lines, lines_on_vsync, latch_periods, on_vsync, zero_sync}
use Rattle.bus.specs.Bus.{mode, changes_mode, pulls_scl, sda_pulled}
use Rattle.bus.specs.Ddc1.{loads_at_rise, shifter_at_rise}
use Rattle.chip.specs.State.{released, reset_at, fresh}
use Rattle.chip_edges.specs.Edges.{bus_at_mode, bus_at_vsync, loads_at_vsync}
use Rattle.chip_writes.specs.Writes.{target, written_to, kept_by, written, stored_by, write_register, write_kept}
use Rattle.chip_ddc_writes.specs.DdcWrites.{status_written, iists_written, bus_at_iidat, iidat_written}
use Rattle.chip_pins.specs.Pins.{pin_kind, vsync_rise, vsync_moved, pin_moved_as, pin_moved}
use Rattle.chip_events.specs.Outcome.{core_after, was_reset, kept_after, next}
use Rattle.step.specs.Step.{advance}
use Rattle.list_call.specs.Run.{advanced}
use Rattle.chip_observed_laws.specs.Ddc1.{puts_sda, puts_after_each}
use Rattle.chip_observed_laws.specs.Worked.{turned_on, rises, levels}

pub sent_over_rises : puts_after_each (advanced fresh turned_on) rises ≡ levels
unfolding bit merge with_bit table resets reset_value row_of write_mask is_writable event no_event no_place bad_byte decode latched zeroed latch_lines lines_on_vsync latch_periods on_vsync zero_sync mode changes_mode pulls_scl sda_pulled loads_at_rise shifter_at_rise released reset_at fresh bus_at_mode bus_at_vsync loads_at_vsync target written_to kept_by written stored_by write_register write_kept status_written iists_written bus_at_iidat iidat_written pin_kind vsync_rise vsync_moved pin_moved_as pin_moved core_after was_reset kept_after next advance puts_sda
sent_over_rises = refl
