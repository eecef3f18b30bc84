-- Each operation on the sync counters keeps them well formed.
use Prim.Native.Nat.{ℕ, ◌<◌}
use mathlib.Core.Path.{◌≡◌, refl}
use mathlib.Core.Bool.{Bool, true, false}
use native.Mathlib.Omega.{arith}
use lib.Dec.{ltb}
use borrow.Author.Tests.{ltb-true, lt-ltb}
use Rattle.bits.specs.Byte.{pick}
use Rattle.bits.proofs.Finite.{both}
use Rattle.counters.specs.Count.{counted}
use Rattle.sync.specs.Sync.{step_lines, latch_lines, clear_lines, zero_lines, step_periods, latch_periods, clear_periods, on_hsync, lines_on_vsync, on_vsync, interval_next, lines_on_period, on_period, hsel_cleared, clear_overflow, zero_sync, well_sync}
use Rattle.sync.specs.declared.LineCounter.{LineCounter}
use Rattle.sync.specs.declared.PeriodCounter.{PeriodCounter}
use Rattle.sync.specs.declared.Sync.{Sync}
use Rattle.sync.specs.Fits.{LinesFit, PeriodsFit, SyncFits}
use Rattle.counters.proofs.Counting.{counted_within, latched_below, zeroed_below, cycle_within}

-- ---- the ranges as facts on the numbers

pub fits : (s : Sync) → well_sync s ≡ true → SyncFits s
unfolding well_sync
fits s h =
    let four = both _ _ h in
    let three = both _ _ four.0 in
    let two = both _ _ three.0 in
    let one = both _ _ two.0 in
    record {
      lines = record { count = ltb-true _ _ one.0; latch = ltb-true _ _ one.1 };
      periods = record { count = ltb-true _ _ two.1; latch = ltb-true _ _ three.1 };
      interval = ltb-true _ _ four.1;
    }

pub well : (s : Sync) → SyncFits s → well_sync s ≡ true
unfolding well_sync
well s h = simp (lt-ltb _ _ h.lines.count, lt-ltb _ _ h.lines.latch, lt-ltb _ _ h.periods.count, lt-ltb _ _ h.periods.latch, lt-ltb _ _ h.interval)

counted_fits : (overflow : Bool) (count : ℕ) → count < 4096 → counted 4095 overflow count < 4096
counted_fits overflow count h = let most = counted_within 4095 count overflow (omega arith) in omega arith

-- ---- HCNT and VCNT

pub step_lines_fits : (c : LineCounter) → LinesFit c → LinesFit (step_lines c)
unfolding step_lines
step_lines_fits c h = record { count = counted_fits _ _ h.count; latch = h.latch }

pub latch_lines_fits : (c : LineCounter) → LinesFit c → LinesFit (latch_lines c)
unfolding latch_lines
latch_lines_fits c h = record { count = zeroed_below 4096 _ _ h.count; latch = latched_below 4096 _ _ _ h.count h.latch }

pub clear_lines_fits : (bit : Bool) (c : LineCounter) → LinesFit c → LinesFit (clear_lines bit c)
unfolding clear_lines
clear_lines_fits true c h = record { count = omega arith; latch = h.latch }
clear_lines_fits false c h = h

step_periods_fits : (c : PeriodCounter) → PeriodsFit c → PeriodsFit (step_periods c)
unfolding step_periods
step_periods_fits c h = record { count = counted_fits _ _ h.count; latch = h.latch }

latch_periods_fits : (c : PeriodCounter) → PeriodsFit c → PeriodsFit (latch_periods c)
unfolding latch_periods
latch_periods_fits c h = record { count = zeroed_below 4096 _ _ h.count; latch = latched_below 4096 _ _ _ h.count h.latch }

clear_periods_fits : (bit : Bool) (c : PeriodCounter) → PeriodsFit c → PeriodsFit (clear_periods bit c)
unfolding clear_periods
clear_periods_fits true c h = record { count = omega arith; latch = h.latch }
clear_periods_fits false c h = h

pub lines_on_vsync_fits : (hsel : Bool) (c : LineCounter) → LinesFit c → LinesFit (lines_on_vsync hsel c)
unfolding lines_on_vsync
lines_on_vsync_fits true c h = latch_lines_fits c h
lines_on_vsync_fits false c h = h

pub interval_end_fits : (below : Bool) (c : LineCounter) → LinesFit c → LinesFit (pick below c (latch_lines c))
interval_end_fits true c h = h
interval_end_fits false c h = latch_lines_fits c h

lines_on_period_fits : (hsel : Bool) (n : ℕ) (c : LineCounter) → LinesFit c → LinesFit (lines_on_period hsel n c)
unfolding lines_on_period
lines_on_period_fits true n c h = h
lines_on_period_fits false n c h = interval_end_fits (ltb n 1023) c h

interval_fits : (hsel : Bool) (n : ℕ) → n < 1024 → interval_next hsel n < 1024
unfolding interval_next
interval_fits true n h = h
interval_fits false n h = let most = cycle_within 1023 n in omega arith

-- ---- well formed before, well formed after

pub hsync_well : (s : Sync) → well_sync s ≡ true → well_sync (on_hsync s) ≡ true
unfolding on_hsync
hsync_well s w =
    let h = fits s w in
    well _ (record { lines = step_lines_fits _ h.lines; periods = h.periods; interval = h.interval })

pub vsync_well : (hsel : Bool) (s : Sync) → well_sync s ≡ true → well_sync (on_vsync hsel s) ≡ true
unfolding on_vsync
vsync_well hsel s w =
    let h = fits s w in
    well _ (record { lines = lines_on_vsync_fits hsel _ h.lines; periods = latch_periods_fits _ h.periods; interval = h.interval })

pub period_well : (hsel : Bool) (s : Sync) → well_sync s ≡ true → well_sync (on_period hsel s) ≡ true
unfolding on_period
period_well hsel s w =
    let h = fits s w in
    well _ (record { lines = lines_on_period_fits hsel _ _ h.lines; periods = step_periods_fits _ h.periods; interval = interval_fits hsel _ h.interval })

pub hsel_cleared_well : (s : Sync) → well_sync s ≡ true → well_sync (hsel_cleared s) ≡ true
unfolding hsel_cleared zero_lines
hsel_cleared_well s w =
    let h = fits s w in
    well _ (record { lines = record { count = omega arith; latch = h.lines.latch }; periods = h.periods; interval = omega arith })

pub clear_overflow_well : (bitH bitV : Bool) (s : Sync) → well_sync s ≡ true → well_sync (clear_overflow bitH bitV s) ≡ true
unfolding clear_overflow
clear_overflow_well bitH bitV s w =
    let h = fits s w in
    well _ (record { lines = clear_lines_fits bitH _ h.lines; periods = clear_periods_fits bitV _ h.periods; interval = h.interval })

pub zero_well : well_sync zero_sync ≡ true
unfolding well_sync zero_sync
zero_well = refl
