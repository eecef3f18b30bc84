-- A well formed core stays well formed at every clock and every polarity found.
-- Assumes nothing.
use mathlib.Core.Bool.{Bool, true, false}
use Prim.Native.Nat.{ℕ, ◌%◌, ◌^◌, ◌<◌}
use native.Mathlib.Omega.{arith}
use lib.Dec.{eqb}
use Rattle.bits.specs.Byte.{pick}
use Rattle.bits.proofs.Level.{pick_by}
use Rattle.counters.specs.Count.{watchdog_fires, watchdog_next, timer_overflows}
use Rattle.counters.proofs.Counting.{cycle_within}
use Rattle.sync.proofs.WellFormed.{period_well}
use Rattle.chip.specs.declared.Core.{Core}
use Rattle.chip.specs.State.{hsel_of}
use Rattle.chip_clocks.specs.Clocks.{period_clock, timer_runs, timer_step, timer_clock, watchdog_clock, clocked_as, clocked, polarity_found}
use Rattle.chip_laws.proofs.Formed.{Formed, with_flags, with_polarity_lem, with_bt_lem, with_watchdog_lem, with_sync_lem, with_bus_lem}
use Rattle.chip_laws.proofs.Bus.{period_formed}
use Rattle.chip_laws.proofs.Ranges.{with_bit_below, pick_below}
use Rattle.chip_laws.proofs.Reset.{reset_core_formed}

timer_formed : (btcon : ℕ) (c : Core) (k : ℕ) → Formed c → Formed (timer_clock btcon c k)
unfolding timer_clock timer_step
timer_formed btcon c k f =
    pick_by Formed (timer_runs btcon k)
    (λ _. with_bt_lem (with_flags f _ (pick_below (timer_overflows c.bt) 0x04 0 64 (omega arith) (omega arith))) _)
    (λ _. f)

watchdog_formed : (c : Core) → Formed c → Formed (watchdog_clock c)
unfolding watchdog_clock watchdog_next
watchdog_formed c f =
    pick_by Formed (watchdog_fires c.watchdog) (λ _. reset_core_formed c f.port1) (λ _. with_watchdog_lem f _ (omega (arith, cycle_within 63 c.watchdog)))

clocked_as_formed : (btcon : ℕ) (c : Core) (k : ℕ) → Formed c → Formed (clocked_as btcon c k)
unfolding clocked_as period_clock
clocked_as_formed btcon c k f =
    pick_by Formed (eqb k 0)
    (λ _. with_bus_lem (with_sync_lem f _ (period_well (hsel_of c) c.sync f.sync)) _ (period_formed c.mdcon c.bus f.bus))
    (λ _. pick_by Formed (eqb k 3) (λ _. watchdog_formed c f) (λ _. timer_formed btcon c k f))

pub clock_formed : (btcon : ℕ) (c : Core) (k : ℕ) → Formed c → Formed (clocked btcon c k)
unfolding clocked
clock_formed btcon c k f = pick_by Formed c.reset (λ _. clocked_as_formed btcon c k f) (λ _. f)

polarity_bit : (vertical : Bool) → 2 ^ (pick vertical 2 3 % 8) < 16
polarity_bit true = omega arith
polarity_bit false = omega arith

pub polarity_formed : (c : Core) (vertical level : Bool) → Formed c → Formed (polarity_found c vertical level)
unfolding polarity_found
polarity_formed c vertical level f =
    pick_by Formed c.reset
    (λ _. with_polarity_lem f _ (with_bit_below 4 c.polarity (pick vertical 2 3) level (polarity_bit vertical) f.polarity))
    (λ _. f)
