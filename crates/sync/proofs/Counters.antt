-- HCNT and VCNT count by the laws of `Counting`, for 12 bits.
use Prim.Native.Nat.{ℕ, zero, suc, ◌+◌, ◌%◌}
use mathlib.Core.Path.{◌≡◌, ap}
use mathlib.Core.Bool.{Bool, false}
use lib.Dec.{eqb}
use Rattle.counters.specs.Count.{at_last, steps, cycles}
use Rattle.sync.specs.Sync.{step_lines, steps_lines, step_periods, steps_periods}
use Rattle.sync.specs.declared.LineCounter.{LineCounter}
use Rattle.sync.specs.declared.PeriodCounter.{PeriodCounter}
use Rattle.sync.specs.Counters.{lines_at, periods_at}
use Rattle.counters.proofs.Counting.{cycle_due}

start : (count : ℕ) (overflow : Bool) → count ≡ 0 → overflow ≡ false → ◌≡◌ {A = ℕ × Bool} (count, overflow) (0, false)
start count overflow h k = cc

-- n rises of HSYNCI since HCNT was zeroed, no overflow standing
pub lines_since_zero : (n : ℕ) (c : LineCounter) → c.count.0 ≡ 0 → c.overflow ≡ false → steps_lines n c ≡ lines_at c (steps 4095 n)
unfolding steps_lines step_lines steps
lines_since_zero zero c h k = ap (lines_at c) (start _ _ h k)
lines_since_zero (suc n) c h k = ap step_lines (lines_since_zero n c h k)

-- n clocks of 8 µs since VCNT was zeroed, no overflow standing
pub periods_since_zero : (n : ℕ) (c : PeriodCounter) → c.count.0 ≡ 0 → c.overflow ≡ false → steps_periods n c ≡ periods_at c (steps 4095 n)
unfolding steps_periods step_periods steps
periods_since_zero zero c h k = ap (periods_at c) (start _ _ h k)
periods_since_zero (suc n) c h k = ap step_periods (periods_since_zero n c h k)

-- with HSEL 0, every 1,024th clock of 8 µs is the interval's last
pub interval_due : (n : ℕ) → at_last 1023 (cycles 1023 n) ≡ eqb ((n + 1) % 1024) 0
interval_due n = cycle_due 1023 n
