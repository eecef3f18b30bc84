-- What a write to CLRFLG clears, and one to CLRWDT.
use mathlib.Core.Path.{◌≡◌, refl, ◌∙◌, ap}
use mathlib.Core.Bool.{Bool, true, false, ◌&&◌}
use Prim.Native.Nat.{ℕ, ◌-◌, ◌<◌}
use native.Mathlib.Omega.{arith}
use lib.Bits.{bit_and}
use lib.Dec.{eqb}
use Rattle.bits.specs.Byte.{pick, bit}
use Rattle.bits.proofs.Bitwise.{bit_and_lem, bit_not}
use Rattle.registers.specs.Names.{CLRFLG, CLRWDT}
use Rattle.registers.specs.Table.{table, row_of, is_writable}
use Rattle.std.specs.Prelude.{Ok}
use Rattle.events.specs.declared.Event.TheVariants.{Write}
use Rattle.sync.specs.declared.Sync.{Sync}
use Rattle.sync.specs.Sync.{clear_lines, clear_periods, clear_overflow}
use Rattle.chip.specs.declared.Chip.{Chip}
use Rattle.chip.specs.State.{chip_of, with_irqx, with_sync, with_watchdog}
use Rattle.chip_writes.specs.Writes.{target, clrflg_written, clrwdt_written, written_to, kept_by, written, stored_by, write_register, write_kept}
use Rattle.chip_events.specs.Outcome.{core_after, kept_after, next}
use Rattle.chip_rule_laws.specs.Clearing.{counters_cleared, Cleared}

by_bits : (h v : Bool) (s : Sync) → clear_overflow h v s ≡ record {
  lines = record { count = record { 0 = pick h 0 s.lines.count.0 }; latch = s.lines.latch; overflow = pick h false s.lines.overflow };
  periods = record { count = record { 0 = pick v 0 s.periods.count.0 }; latch = s.periods.latch; overflow = pick v false s.periods.overflow };
  interval = s.interval;
}
unfolding clear_overflow clear_lines clear_periods
by_bits true true s = refl
by_bits true false s = refl
by_bits false true s = refl
by_bits false false s = refl

clearing : (c : Chip) (b : ℕ) → c.core.reset ≡ true → next c (Ok (Write CLRFLG b)) ≡ chip_of c.registers (with_sync (with_irqx c.core (bit_and c.core.irqx (255 - b))) (counters_cleared b c.core.sync))
unfolding next core_after kept_after write_register write_kept written stored_by target written_to kept_by is_writable row_of table clrflg_written
clearing c b r = rw (r, by_bits (bit 7 b) (bit 6 b) c.core.sync) refl

pub clrflg_clears : (c : Chip) (b : ℕ) → b < 256 → c.core.reset ≡ true → Cleared c b (next c (Ok (Write CLRFLG b)))
clrflg_clears c b l r =
    record {
      flags = λ k h. rw (clearing c b r) (bit_and_lem k c.core.irqx (255 - b) ∙ ap (λ (x : Bool). bit k c.core.irqx && x) (bit_not k b (omega arith) l));
      whole = rw (clearing c b r) refl;
    }

-- 55H clears the watchdog; no other byte moves anything
pub clrwdt_clears : (c : Chip) (b : ℕ) → c.core.reset ≡ true → next c (Ok (Write CLRWDT b)) ≡ chip_of c.registers (with_watchdog c.core (pick (eqb b 0x55) 0 c.core.watchdog))
unfolding next core_after kept_after write_register write_kept written stored_by target written_to kept_by is_writable row_of table clrwdt_written
clrwdt_clears c b r = rw r refl
