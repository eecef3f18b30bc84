-- Latches at which nothing of a rate is lost (document 01, "Counting sync").
use Rattle.std.specs.Prelude.{ℕ, Bool}
use Rattle.sync.specs.declared.Sync.{Sync}

-- the latches of HCNT and VCNT, each with its overflow bit
abbrev pub latches : ℕ → Bool → ℕ → Bool → Sync
latches h hov v vov =
    record {
      lines = record { count = record { 0 = 0 }; latch = record { 0 = h }; overflow = hov };
      periods = record { count = record { 0 = 0 }; latch = record { 0 = v }; overflow = vov };
      interval = 0;
    }
