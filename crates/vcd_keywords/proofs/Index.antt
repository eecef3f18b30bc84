-- The bytes of an index, as a chain gives them.
-- Assumes nothing.
use mathlib.Core.Path.{◌≡◌, refl}
use mathlib.Core.List.{List, [], ◌∷◌}
use Prim.Native.Nat.{ℕ}
use Rattle.std.specs.List.{fold}
use Rattle.vcd_keywords.specs.Words.{index_class, index_next, index_state}

pub index_fold : (q : ℕ) (t : List ℕ) → fold (λ p b. index_next p (index_class b)) q t ≡ index_state q t
unfolding index_state
index_fold q [] = refl
index_fold q (b ∷ rest) = index_fold (index_next q (index_class b)) rest
