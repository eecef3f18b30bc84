-- Well formed counters, field by field.
use Rattle.std.specs.Prelude.{◌<◌}
use Rattle.sync.specs.declared.LineCounter.{LineCounter}
use Rattle.sync.specs.declared.PeriodCounter.{PeriodCounter}
use Rattle.sync.specs.declared.Sync.{Sync}

-- HCNT and its latch have 12 bits
pub record LinesFit (c : LineCounter) : Type 0 where
  pub count : c.count.0 < 4096
  pub latch : c.latch.0 < 4096

-- and so have VCNT and its latch
pub record PeriodsFit (c : PeriodCounter) : Type 0 where
  pub count : c.count.0 < 4096
  pub latch : c.latch.0 < 4096

-- both, and an interval of 10 bits
pub record SyncFits (s : Sync) : Type 0 where
  pub lines : LinesFit s.lines
  pub periods : PeriodsFit s.periods
  pub interval : s.interval < 1024
