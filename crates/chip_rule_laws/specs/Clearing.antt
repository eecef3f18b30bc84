-- Writes to CLRFLG and CLRWDT, by the byte (document 01, "Flags, timer, watchdog, reset").
use Rattle.std.specs.Prelude.{ℕ, ◌<◌, false, not, ◌&&◌, ◌≡◌}
use Rattle.bits.specs.Byte.{pick, bit}
use Rattle.sync.specs.declared.Sync.{Sync}
use Rattle.chip.specs.declared.Chip.{Chip}
use Rattle.chip.specs.State.{chip_of, with_irqx, with_sync}

-- bits 7 and 6 clear HCNTOV and VCNTOV and set that counter to 0; latches and interval stay
abbrev pub counters_cleared : ℕ → Sync → Sync
counters_cleared b s =
    record {
      lines = record { count = record { 0 = pick (bit 7 b) 0 s.lines.count.0 }; latch = s.lines.latch; overflow = pick (bit 7 b) false s.lines.overflow };
      periods = record { count = record { 0 = pick (bit 6 b) 0 s.periods.count.0 }; latch = s.periods.latch; overflow = pick (bit 6 b) false s.periods.overflow };
      interval = s.interval;
    }

-- bits 5 to 0 clear the flags; nothing else moves
pub record Cleared (c : Chip) (b : ℕ) (after : Chip) : Type 0 where
  pub flags : (k : ℕ) → k < 6 → bit k after.core.irqx ≡ (bit k c.core.irqx && not (bit k b))
  pub whole : after ≡ chip_of c.registers (with_sync (with_irqx c.core after.core.irqx) (counters_cleared b c.core.sync))
