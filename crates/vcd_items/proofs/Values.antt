-- The states of a vector and the bytes of a real, as chains give them.
-- Assumes nothing.
use mathlib.Core.Bool.{Bool, true, false, ◌&&◌}
use mathlib.Core.Path.{◌≡◌, refl}
use mathlib.Core.List.{List, [], ◌∷◌}
use Prim.Native.Nat.{ℕ}
use Rattle.std.specs.List.{list_all, fold}
use Rattle.bits.specs.Byte.{pick}
use Rattle.vcd_items.specs.Items.{four_state, all_states, real_class, real_next, real_state}

both : (t : Bool) {f g : Bool} → f ≡ g → (t && f) ≡ pick t g false
both true e = e
both false e = refl

pub states_list : (t : List ℕ) → list_all four_state t ≡ all_states t
unfolding all_states
states_list [] = refl
states_list (b ∷ rest) = both (four_state b) (states_list rest)

pub real_fold : (q : ℕ) (t : List ℕ) → fold (λ p b. real_next p (real_class b)) q t ≡ real_state q t
unfolding real_state
real_fold q [] = refl
real_fold q (b ∷ rest) = real_fold (real_next q (real_class b)) rest
