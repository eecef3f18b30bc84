-- A write to II STS that is taken leaves START and STOP as they were where the byte has a 1, and clears them where it has a 0.
-- Assumes nothing.
use mathlib.Core.Path.{◌≡◌, refl}
use mathlib.Core.Bool.{Bool, true, false, ◌&&◌, ◌||◌}
use Prim.Native.Nat.{ℕ, ◌<◌}
use native.Mathlib.Omega.{arith}
use lib.Bits.{bit_or}
use Rattle.bits.specs.Byte.{bit}
use Rattle.bits.proofs.Bitwise.{bit_or_lem, bit_and_lem, bit_merge}
use Rattle.registers.specs.Names.{IISTS, START, STOP}
use Rattle.registers.specs.Table.{row_of, write_mask, read_mask, is_writable, is_readable, updated}
use Rattle.std.specs.Prelude.{Ok}
use Rattle.events.specs.declared.Event.TheVariants.{Write}
use Rattle.chip.specs.declared.Chip.{Chip}
use Rattle.chip_reads.specs.Reads.{shown, reading}
use Rattle.chip_ddc_writes.specs.DdcWrites.{status_written}
use Rattle.chip_events.specs.Outcome.{next}
use Rattle.chip_write_laws.proofs.Fields.{by_write}
use Rattle.chip_write_laws.proofs.Frame.{mode_keeps}
use Rattle.bus_transfer_laws.specs.Transfers.{shows, kept_flag}

-- a read of II STS shows a bit of its read mask as it is stored
pub status_shown : (c : Chip) (k : ℕ) → c.core.reset ≡ true → bit k 0x3e ≡ true → shows IISTS k c ≡ bit k c.core.bus.iists
unfolding reading is_readable read_mask row_of shown
status_shown c k r m = rw (r, bit_and_lem k c.core.bus.iists 0x3e, m) (and_true (bit k c.core.bus.iists))
  where
    and_true : (x : Bool) → (x && true) ≡ x
    and_true true = refl
    and_true false = refl

-- the bit after a write, for a bit that is neither stored nor kept whatever the byte has
status_bit_lem : (k old b : ℕ) → k < 8 → bit k 0x0d ≡ false → bit k 0xcf ≡ false → bit k (status_written old b) ≡ (bit k old && bit k b)
unfolding status_written write_mask row_of
status_bit_lem k old b h m n = rw (bit_and_lem k (updated IISTS old b) (bit_or b 0xcf), bit_or_lem k b 0xcf, bit_merge k 0x0d old b h (omega arith), m, n) (or_false (bit k old) (bit k b))
  where
    or_false : (x y : Bool) → (x && (y || false)) ≡ (x && y)
    or_false x true = refl
    or_false x false = refl

module _ (c : Chip) (b : ℕ) (r : c.core.reset ≡ true) where
  reset_kept : (next c (Ok (Write IISTS b))).core.reset ≡ true
  reset_kept = by_write (λ (x : Chip). x.core.reset ≡ true) c IISTS b (λ _ _. r) (λ _. r)

  stored : (k : ℕ) → k < 8 → bit k 0x0d ≡ false → bit k 0xcf ≡ false → bit k (next c (Ok (Write IISTS b))).core.bus.iists ≡ (bit k c.core.bus.iists && bit k b)
  unfolding is_writable row_of
  stored k h m n =
      by_write (λ (x : Chip). bit k x.core.bus.iists ≡ (bit k c.core.bus.iists && bit k b)) c IISTS b
      (λ _ _. rw (mode_keeps _ _ _).iists (status_bit_lem k c.core.bus.iists b h m n))
      (λ q. let z : ◌≡◌ {A = Bool} true false = rw r at q in cc)

  -- START, as a read shows it before and after
  pub start_written : shows IISTS START (next c (Ok (Write IISTS b))) ≡ kept_flag (shows IISTS START c) (bit START b)
  unfolding bit
  start_written = rw (status_shown (next c (Ok (Write IISTS b))) START reset_kept refl, status_shown c START r refl) (stored START (omega arith) refl refl)

  -- STOP likewise
  pub stop_written : shows IISTS STOP (next c (Ok (Write IISTS b))) ≡ kept_flag (shows IISTS STOP c) (bit STOP b)
  unfolding bit
  stop_written = rw (status_shown (next c (Ok (Write IISTS b))) STOP reset_kept refl, status_shown c STOP r refl) (stored STOP (omega arith) refl refl)
