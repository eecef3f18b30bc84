-- What the calls for C and Rust give: the rate that is reported (document 01, "Counting sync") on counters with these latches.
use Rattle.std.specs.Prelude.{ℕ, false, Float, Result, Ok, Err}
use Rattle.sync.specs.declared.Sync.{Sync}
use Rattle.rates.specs.Hertz.{quotient}
use Rattle.rates.specs.declared.NoRate.{NoRate}
use Rattle.rates.specs.declared.NoRate.TheVariants.{IllFormed, NothingLatched, Overflow}
use Rattle.rates.specs.declared.Rate.{Rate}
use Rattle.rates.specs.Report.{in_hertz}

-- counts of 0 and no overflow, with these latches of HCNT and VCNT
abbrev pub latches : ℕ → ℕ → Sync
latches h v =
    record {
      lines = record { count = record { 0 = 0 }; latch = record { 0 = h }; overflow = false };
      periods = record { count = record { 0 = 0 }; latch = record { 0 = v }; overflow = false };
      interval = 0;
    }

-- the rate of a report; 0, which is no rate, where it tells none
unfoldable pub hertz : Result Rate NoRate → Float
hertz (Err IllFormed) = quotient 0 1
hertz (Err NothingLatched) = quotient 0 1
hertz (Err Overflow) = quotient 0 1
hertz (Ok rate) = in_hertz rate
