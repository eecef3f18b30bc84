-- Counters after n counts from zero.
use Rattle.std.specs.Prelude.{ℕ, Bool}
use Rattle.sync.specs.declared.LineCounter.{LineCounter}
use Rattle.sync.specs.declared.PeriodCounter.{PeriodCounter}

-- the counter of this count and overflow bit, its latch being as it was
abbrev pub lines_at : LineCounter → ℕ × Bool → LineCounter
lines_at c p = record { count = record { 0 = p.0 }; latch = c.latch; overflow = p.1 }

abbrev pub periods_at : PeriodCounter → ℕ × Bool → PeriodCounter
periods_at c p = record { count = record { 0 = p.0 }; latch = c.latch; overflow = p.1 }
