-- An address matches exactly where the outcome of its comparison is not none.
-- Assumes nothing.
use Prim.Native.Nat.{ℕ}
use mathlib.Core.Path.{◌≡◌, refl, ◌∙◌}
use mathlib.Core.Bool.{Bool, true, false, ◌||◌, true≢false}
use lib.Dec.{eqb}
use Rattle.bus.specs.declared.Comparison.{Comparison}
use Rattle.bus.specs.declared.Comparison.TheVariants.{None, Own}
use Rattle.bus.specs.Bus.{is_own}
use Rattle.bus_ddc2b.specs.Ddc2b.{address_bits, comparison, compared, matches}

own_either : (a0 own : Bool) → is_own (comparison a0 own) ≡ (a0 || own)
own_either false false = refl
own_either true false = refl
own_either false true = refl
own_either true true = refl

pub own_matches : (own byte : ℕ) → is_own (compared own byte) ≡ matches own byte
unfolding compared matches
own_matches own byte = own_either (eqb (address_bits byte) 80) (eqb (address_bits byte) (address_bits own))

none_by : (k : Comparison) → is_own k ≡ false → k ≡ None
none_by None h = refl
none_by (Own matched) h = absurd (true≢false h)

-- so a foreign address gives none
pub none_foreign : (own byte : ℕ) → matches own byte ≡ false → compared own byte ≡ None
none_foreign own byte h = none_by (compared own byte) (own_matches own byte ∙ h)
