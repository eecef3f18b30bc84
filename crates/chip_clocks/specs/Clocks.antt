-- What a clock does, and a polarity that is found (document 01, "Flags, timer, watchdog, reset" and "Counting sync").
use Rattle.std.specs.Prelude.{ℕ, Bool, false, eqb}
use Rattle.bits.specs.Byte.{pick, weight_if, bit, with_bit}
use Rattle.registers.specs.Names.{HPOLI, VPOLI, ENBT, TBS, INTR}
use Rattle.events.specs.Clocks as clock
use Rattle.sync.specs.Sync.{on_period}
use Rattle.counters.specs.Count.{timer_next, timer_overflows, watchdog_next, watchdog_fires}
use Rattle.chip.specs.declared.Core.{Core}
use Rattle.chip.specs.State.{hsel_of, reset_core, raised, with_bt, with_watchdog, with_sync, with_bus, with_polarity}
use Rattle.bus_ddc2b.specs.Ddc2b.{phase_at_period}
use Rattle.chip_edges.specs.Edges.{with_phase}

-- 8 µs: VCNT steps, and with HSEL 0 the interval; a hold of SCL has lasted one clock more
unfoldable pub period_clock : Core → Core
period_clock c = with_bus (with_sync c (on_period (hsel_of c) c.sync)) (with_phase c.bus (phase_at_period c.bus.phase))

-- the base timer runs while ENBT of BTCON is 0, on the base clock that TBS selects
unfoldable pub timer_runs : ℕ → ℕ → Bool
timer_runs btcon k = pick (bit ENBT btcon) false (pick (bit TBS btcon) (eqb k clock.base1) (eqb k clock.base0))

-- it steps by one, and the step FF to 00 sets flag R
unfoldable pub timer_step : Core → Core
timer_step c = with_bt (raised c (weight_if (timer_overflows c.bt) INTR)) (timer_next c.bt)

unfoldable pub timer_clock : ℕ → Core → ℕ → Core
timer_clock btcon c k = pick (timer_runs btcon k) (timer_step c) c

-- the 64th watchdog clock since a reset or the last clearing resets the chip
unfoldable pub watchdog_clock : Core → Core
watchdog_clock c = pick (watchdog_fires c.watchdog) (reset_core c) (with_watchdog c (watchdog_next c.watchdog))

-- the clock of this number
unfoldable pub clocked_as : ℕ → Core → ℕ → Core
clocked_as btcon c k = pick (eqb k clock.period) (period_clock c) (pick (eqb k clock.watchdog) (watchdog_clock c) (timer_clock btcon c k))

-- no clock runs while RESET is low; of the stored registers BTCON alone steers one
unfoldable pub clocked : ℕ → Core → ℕ → Core
clocked btcon c k = pick c.reset (clocked_as btcon c k) c

-- a polarity found is put in HPOLI or VPOLI of HVCON
unfoldable pub polarity_found : Core → Bool → Bool → Core
polarity_found c vertical level = pick c.reset (with_polarity c (with_bit c.polarity (pick vertical VPOLI HPOLI) level)) c
