-- A word that leaves IRQX as it was is the last change of no flag.
-- Assumes nothing.
use mathlib.Core.Path.{◌≡◌, refl}
use mathlib.Core.Bool.{Bool, true, false, not, ◌&&◌}
use Prim.Native.Nat.{ℕ}
use Rattle.bits.specs.Byte.{bit}
use Rattle.bus.specs.declared.Mode.{Mode}
use Rattle.bus.specs.declared.Comparison.{Comparison}
use Rattle.bus.specs.declared.Comparison.TheVariants.{None, Own}
use Rattle.chip.specs.declared.Core.{Core}
use Rattle.why_last_set.specs.declared.Last.{Last}
use Rattle.why_last_set.specs.declared.LastSet.{LastSet}
use Rattle.why_last_set.specs.LastSet.{Source, goes_up, last_at, address_at, noted, all_noted}
use Rattle.why_last_set.specs.LastSet.Source.{IntV, IntE, IntR, IntA, IntD, IntS}

-- a bit does not go up to what it is
pub same_bit : (k n : ℕ) → goes_up k n n ≡ false
unfolding goes_up
same_bit k n = by (bit k n)
  where
    by : (b : Bool) → (not b && b) ≡ false
    by true = refl
    by false = refl

pub no_address : (place : ℕ) (outcome : Comparison) (last : Last) → address_at false place outcome last ≡ last
unfolding address_at last_at
no_address place None last = refl
no_address place (Own matched) last = refl

-- of each source
same_noted : (s : Source) (place irqx : ℕ) (mode : Mode) (after : Core) (last : Last) → irqx ≡ after.irqx → noted s place irqx mode after last ≡ last
unfolding noted last_at
same_noted IntV place irqx mode after last e = rw (e, same_bit)
same_noted IntE place irqx mode after last e = rw (e, same_bit)
same_noted IntR place irqx mode after last e = rw (e, same_bit)
same_noted IntA place irqx mode after last e = rw (e, same_bit, no_address)
same_noted IntD place irqx mode after last e = rw (e, same_bit)
same_noted IntS place irqx mode after last e = rw (e, same_bit)

-- of all six
pub unchanged : (place irqx : ℕ) (mode : Mode) (after : Core) (l : LastSet) → irqx ≡ after.irqx → all_noted place irqx mode after l ≡ l
unfolding all_noted
unchanged place irqx mode after l e =
    rw (
      same_noted IntV place irqx mode after l.v e,
      same_noted IntE place irqx mode after l.e e,
      same_noted IntR place irqx mode after l.r e,
      same_noted IntA place irqx mode after l.a e,
      same_noted IntD place irqx mode after l.d e,
      same_noted IntS place irqx mode after l.s e,
    )
