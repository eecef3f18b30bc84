-- The sync counters (document 01, "Counting sync").
use Rattle.std.specs.Prelude.{ℕ, zero, suc, ◌+◌, Bool, false, ◌&&◌, ltb}
use Rattle.bits.specs.Byte.{pick}
use Rattle.counters.specs.Count.{counted, overflowed, latched, zeroed, cycle_next}
use Rattle.sync.specs.declared.LineCounter.{LineCounter}
use Rattle.sync.specs.declared.PeriodCounter.{PeriodCounter}
use Rattle.sync.specs.declared.Sync.{Sync}

-- the last value of a count of 12 bits, and of the interval of 1,024 periods
abbrev pub count_last : ℕ
count_last = 4095

abbrev pub interval_last : ℕ
interval_last = 1023

-- ---- HCNT

-- a rise of HSYNCI is a step
unfoldable pub step_lines : LineCounter → LineCounter
step_lines c =
    record {
      count = record { 0 = counted count_last c.overflow c.count.0 };
      latch = c.latch;
      overflow = overflowed count_last c.overflow c.count.0;
    }

-- n rises of HSYNCI
unfoldable pub steps_lines : ℕ → LineCounter → LineCounter
steps_lines zero c = c
steps_lines (suc n) c = step_lines (steps_lines n c)

-- the latch takes the count, and the count is zeroed; in overflow nothing moves
unfoldable pub latch_lines : LineCounter → LineCounter
latch_lines c =
    record {
      count = record { 0 = zeroed c.overflow c.count.0 };
      latch = record { 0 = latched c.overflow c.count.0 c.latch.0 };
      overflow = c.overflow;
    }

-- CLRFLG's bit 7: a 1 clears the overflow bit and the count
unfoldable pub clear_lines : Bool → LineCounter → LineCounter
clear_lines bit c = pick bit (record { count = record { 0 = 0 }; latch = c.latch; overflow = false }) c

-- a cleared HSEL starts the count anew, also in overflow, whose bit it leaves
unfoldable pub zero_lines : LineCounter → LineCounter
zero_lines c = record { count = record { 0 = 0 }; latch = c.latch; overflow = c.overflow }

-- ---- VCNT

-- an 8 µs clock is a step
unfoldable pub step_periods : PeriodCounter → PeriodCounter
step_periods c =
    record {
      count = record { 0 = counted count_last c.overflow c.count.0 };
      latch = c.latch;
      overflow = overflowed count_last c.overflow c.count.0;
    }

-- n clocks of 8 µs
unfoldable pub steps_periods : ℕ → PeriodCounter → PeriodCounter
steps_periods zero c = c
steps_periods (suc n) c = step_periods (steps_periods n c)

-- the latch takes the count, and the count is zeroed; in overflow nothing moves
unfoldable pub latch_periods : PeriodCounter → PeriodCounter
latch_periods c =
    record {
      count = record { 0 = zeroed c.overflow c.count.0 };
      latch = record { 0 = latched c.overflow c.count.0 c.latch.0 };
      overflow = c.overflow;
    }

-- CLRFLG's bit 6: a 1 clears the overflow bit and the count
unfoldable pub clear_periods : Bool → PeriodCounter → PeriodCounter
clear_periods bit c = pick bit (record { count = record { 0 = 0 }; latch = c.latch; overflow = false }) c

-- ---- both counters and the interval; `hsel` is bit HSEL of MDCON

-- a rise of HSYNCI
unfoldable pub on_hsync : Sync → Sync
on_hsync s = record { lines = step_lines s.lines; periods = s.periods; interval = s.interval }

-- HCNT at a rise of VSYNCI: latched and zeroed where HSEL is 1
unfoldable pub lines_on_vsync : Bool → LineCounter → LineCounter
lines_on_vsync hsel c = pick hsel (latch_lines c) c

-- a rise of VSYNCI
unfoldable pub on_vsync : Bool → Sync → Sync
on_vsync hsel s =
    record {
      lines = lines_on_vsync hsel s.lines;
      periods = latch_periods s.periods;
      interval = s.interval;
    }

-- the interval after an 8 µs clock: it stands while HSEL is 1, else it runs through 1,024 values, whatever HCNT's overflow bit
unfoldable pub interval_next : Bool → ℕ → ℕ
interval_next hsel n = pick hsel n (cycle_next interval_last n)

-- HCNT at an 8 µs clock: with HSEL 0, every 1,024th latches and zeroes it
unfoldable pub lines_on_period : Bool → ℕ → LineCounter → LineCounter
lines_on_period hsel n c = pick hsel c (pick (ltb n interval_last) c (latch_lines c))

-- an 8 µs clock
unfoldable pub on_period : Bool → Sync → Sync
on_period hsel s =
    record {
      lines = lines_on_period hsel s.interval s.lines;
      periods = step_periods s.periods;
      interval = interval_next hsel s.interval;
    }

-- HSEL changed from 1 to 0
unfoldable pub hsel_cleared : Sync → Sync
hsel_cleared s = record { lines = zero_lines s.lines; periods = s.periods; interval = 0 }

-- CLRFLG written, its bits 7 and 6 being these
unfoldable pub clear_overflow : Bool → Bool → Sync → Sync
clear_overflow h v s =
    record {
      lines = clear_lines h s.lines;
      periods = clear_periods v s.periods;
      interval = s.interval;
    }

-- after a reset
unfoldable pub zero_sync : Sync
zero_sync =
    record {
      lines = record { count = record { 0 = 0 }; latch = record { 0 = 0 }; overflow = false };
      periods = record { count = record { 0 = 0 }; latch = record { 0 = 0 }; overflow = false };
      interval = 0;
    }

-- "Numbers given back", well formed: counts, latches and interval no more than their last values
unfoldable pub well_sync : Sync → Bool
well_sync s =
    (((ltb s.lines.count.0 (count_last + 1)
    && ltb s.lines.latch.0 (count_last + 1))
    && ltb s.periods.count.0 (count_last + 1))
    && ltb s.periods.latch.0 (count_last + 1))
    && ltb s.interval (interval_last + 1)
