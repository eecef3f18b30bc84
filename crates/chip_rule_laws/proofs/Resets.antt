-- The fresh chip and both resets, each as one equation.
use mathlib.Core.Path.{◌≡◌, refl}
use mathlib.Core.Bool.{true, false}
use Rattle.registers.specs.Table.{table, row_of, reset_value, resets}
use Rattle.std.specs.Prelude.{Ok}
use Rattle.events.specs.Pins.{RESET}
use Rattle.events.specs.Clocks.{watchdog}
use Rattle.events.specs.declared.Event.TheVariants.{Pin, Clock}
use Rattle.counters.specs.Count.{watchdog_fires}
use Rattle.sync.specs.Sync.{zero_sync}
use Rattle.chip.specs.declared.Chip.{Chip}
use Rattle.chip.specs.State.{reset_at, reset_core, fresh}
use Rattle.chip_pins.specs.Pins.{pin_kind, pin_moved_as, pin_moved, reset_moved, on_reset}
use Rattle.chip_clocks.specs.Clocks.{clocked, clocked_as, watchdog_clock}
use Rattle.chip_events.specs.Outcome.{core_after, kept_after, was_reset, next}
use Rattle.chip_rule_laws.specs.Resets.{reset_column, reset_state, fresh_state}

pub reset_column_lem : resets ≡ reset_column
unfolding resets table
reset_column_lem = refl

pub fresh_state_lem : fresh ≡ fresh_state
unfolding fresh reset_at resets reset_value row_of table zero_sync
fresh_state_lem = refl

-- RESET going low: every outside level stays but RESET's
pub reset_by_pin : (c : Chip) → c.core.reset ≡ true → next c (Ok (Pin RESET false)) ≡ reset_state c.core.pins c.core.sda c.core.scl false
unfolding next core_after kept_after was_reset pin_moved pin_moved_as pin_kind reset_moved on_reset reset_core reset_at resets reset_value row_of table zero_sync
reset_by_pin c r = rw r refl

-- the watchdog clock that finds 63 counted: every level stays
pub reset_by_watchdog : (c : Chip) → c.core.reset ≡ true → c.core.watchdog ≡ 63 → next c (Ok (Clock watchdog)) ≡ reset_state c.core.pins c.core.sda c.core.scl true
unfolding next core_after kept_after was_reset clocked clocked_as watchdog_clock watchdog_fires reset_core reset_at resets reset_value row_of table zero_sync
reset_by_watchdog c r w = rw (r, w) refl
