-- Every definition that a step goes through, opened at once.
use Prim.Native.Nat.{ℕ}
use Rattle.bits.specs.Byte.{bit, merge, with_bit}
use Rattle.registers.specs.Table.{table, row_of, reset_value, write_mask, read_mask, is_writable, is_readable, resets}
use Rattle.events.specs.Word.{event, no_event, no_place, bad_byte, decode}
use Rattle.counters.specs.Count.{counted, overflowed, latched, zeroed, cycle_next}
use Rattle.sync.specs.Sync.{step_lines, latch_lines, clear_lines, zero_lines, step_periods, latch_periods, clear_periods, on_hsync, lines_on_vsync, on_vsync, interval_next, lines_on_period, on_period, hsel_cleared, clear_overflow, zero_sync, well_sync}
use Rattle.counters.specs.Count.{timer_next, timer_overflows, watchdog_next, watchdog_fires}
use Rattle.bus.specs.Ddc1.{loads_at_rise, shifter_at_rise}
use Rattle.bus_ddc2b.specs.Ddc2b.{matches, compared, gathered, phase_let_go, phase_at_rise, data_at_rise, matches_at_rise, status_at_rise, holds_at_fall, acknowledges, phase_at_fall, held_longer, phase_at_period}
use Rattle.bus.specs.Bus.{mode, changes_mode, pulls_at_bit, pulls_sda, pulls_scl, sda_pulled, scl_pulled, compared_in}
use Rattle.chip_well_formed.specs.WellFormed.{reserved_mask, reserved_at, reserved_apart, gathered_fits, phase_fits, is_idle, is_unused, bus_fits, well_formed}
use Rattle.chip_reads.specs.Reads.{port0, port1, port2, port3, hvcon, shown, reading}
use Rattle.chip.specs.State.{released, requested, reset_at, reset_core, fresh}
use Rattle.chip_edges.specs.Edges.{bus_at_mode, bus_at_rise, scl_rise, scl_fall, leave_ddc1, on_scl_ddc1, on_scl_ddc2b, on_scl, scl_moved, started, stopped, on_sda_ddc2b, on_sda, sda_moved, bus_at_vsync, loads_at_vsync}
use Rattle.chip_writes.specs.Writes.{target, clrflg_written, clrwdt_written, written_to, kept_by, written, stored_by, write_number, write_register, write_kept}
use Rattle.chip_ddc_writes.specs.DdcWrites.{sync_at_hsel, mdcon_written, iiadr_written, status_written, iists_written, bus_risen, bus_at_iidat, iidat_written}
use Rattle.chip_pins.specs.Pins.{port_kind, pin_kind, port0_moved, port1_moved, port2_moved, p16_moved, hsync_moved, vsync_rise, vsync_moved, on_reset, reset_moved, pin_moved_as, pin_moved}
use Rattle.chip_clocks.specs.Clocks.{period_clock, timer_runs, timer_step, timer_clock, watchdog_clock, clocked_as, clocked, polarity_found}
use Rattle.rates.specs.Report.{by_periods, by_interval, by_field, field_report, line_report}
use Rattle.chip_rate_report.specs.Report.{scan_report, rate_report}
use Rattle.step.specs.Step.{answered, advance, step}
use Rattle.chip_events.specs.Outcome.{core_after, watchdog_reset, was_reset, kept_after, next, number_given, byte_given}
use Rattle.list_call.specs.Run.{run, run_answers}

-- a proof that names this on its `unfolding` line computes steps
unfoldable pub opened : ℕ
unfolding compared_in compared phase_let_go bit merge with_bit table row_of reset_value write_mask read_mask is_writable is_readable resets event no_event no_place bad_byte decode counted overflowed latched zeroed cycle_next step_lines latch_lines clear_lines zero_lines step_periods latch_periods clear_periods on_hsync lines_on_vsync on_vsync interval_next lines_on_period on_period hsel_cleared clear_overflow zero_sync well_sync timer_next timer_overflows watchdog_next watchdog_fires loads_at_rise shifter_at_rise matches gathered phase_at_rise data_at_rise matches_at_rise status_at_rise holds_at_fall acknowledges phase_at_fall held_longer phase_at_period mode changes_mode pulls_at_bit pulls_sda pulls_scl sda_pulled scl_pulled reserved_mask reserved_at reserved_apart gathered_fits phase_fits is_idle is_unused bus_fits well_formed port0 port1 port2 port3 hvcon shown reading released requested reset_at reset_core fresh bus_at_mode bus_at_rise scl_rise scl_fall leave_ddc1 on_scl_ddc1 on_scl_ddc2b on_scl scl_moved started stopped on_sda_ddc2b on_sda sda_moved bus_at_vsync loads_at_vsync target sync_at_hsel mdcon_written clrflg_written clrwdt_written iiadr_written status_written iists_written bus_risen bus_at_iidat iidat_written written_to kept_by written stored_by write_number write_register write_kept port_kind pin_kind port0_moved port1_moved port2_moved p16_moved hsync_moved vsync_rise vsync_moved on_reset reset_moved pin_moved_as pin_moved period_clock timer_runs timer_step timer_clock watchdog_clock clocked_as clocked polarity_found core_after watchdog_reset was_reset kept_after next number_given byte_given answered advance step run run_answers by_periods by_interval by_field field_report line_report scan_report rate_report
opened = 0
