-- A write sets no flag, and a write to CLRFLG alone clears one.
-- Assumes nothing.
use mathlib.Core.Path.{◌≡◌, refl}
use mathlib.Core.Bool.{Bool, true, false, ◌&&◌, true≢false}
use Prim.Native.Nat.{ℕ}
use borrow.Author.Tests.{eqb-true}
use lib.Dec.{eqb}
use Rattle.registers.specs.Names.{CLRFLG}
use Rattle.registers.specs.Table.{row_of, is_writable}
use Rattle.std.specs.Prelude.{Ok}
use Rattle.events.specs.declared.Event.TheVariants.{Write}
use Rattle.events.specs.Word.{InRange}
use Rattle.chip.specs.declared.Chip.{Chip}
use Rattle.chip_events.specs.Outcome.{next}
use Rattle.chip_write_laws.proofs.Fields.{by_write}
use Rattle.chip_flag_laws.specs.Causes.{Source, flag, clears}
use Rattle.chip_flag_laws.proofs.Flags.{after, never_write, clear_bit}

low : (reset bit : Bool) → (reset && true) ≡ false → (reset && bit) ≡ false
low true bit n = absurd (true≢false n)
low false bit n = refl

-- CLRFLG takes writes, so that one is refused only while RESET is low
unclear : (a : ℕ) (found reset bit : Bool) → eqb a CLRFLG ≡ found → (reset && is_writable a) ≡ false → (found && (reset && bit)) ≡ false
unfolding is_writable row_of
unclear a true reset bit e n = low reset bit (rw (eqb-true a CLRFLG e) at n)
unclear a false reset bit e n = refl

pub at_write : (s : Source) (c : Chip) (a b : ℕ) → InRange (Ok (Write a b)) → flag s (next c (Ok (Write a b))) ≡ after s c (Ok (Write a b))
unfolding clears
at_write s c a b h =
    by_write (λ (x : Chip). flag s x ≡ after s c (Ok (Write a b))) c a b
    (λ r _. rw (never_write s c a b, r) (clear_bit s c.core.irqx b (eqb a CLRFLG) h.1))
    (λ n. rw (never_write s c a b, unclear a (eqb a CLRFLG) c.core.reset _ refl n))
