-- Areas of a few places, written whole.
-- Assumes nothing.
use mathlib.Core.Path.{◌≡◌, refl}
use mathlib.Core.List.{List, [], ◌∷◌}
use Prim.Native.Nat.{ℕ}
use native.Mathlib.Omega.{arith}
use lib.ListN.{length, set}

pub two_places : (l : List ℕ) (a b : ℕ) → length l ≡ 2 → set (set l 0 a) 1 b ≡ a ∷ b ∷ []
two_places [] a b h = absurd (omega arith)
two_places (x ∷ []) a b h = absurd (omega arith)
two_places (x ∷ (y ∷ [])) a b h = refl
two_places (x ∷ (y ∷ (z ∷ l))) a b h = absurd (omega arith)

pub eight_places : (l : List ℕ) (a b c d e f g h : ℕ) → length l ≡ 8
    → set (set (set (set (set (set (set (set l 0 a) 1 b) 2 c) 3 d) 4 e) 5 f) 6 g) 7 h ≡ a ∷ b ∷ c ∷ d ∷ e ∷ f ∷ g ∷ h ∷ []
eight_places (x0 ∷ (x1 ∷ (x2 ∷ (x3 ∷ (x4 ∷ (x5 ∷ (x6 ∷ (x7 ∷ [])))))))) a b c d e f g h z = refl
eight_places [] a b c d e f g h z = absurd (omega arith)
eight_places (x0 ∷ []) a b c d e f g h z = absurd (omega arith)
eight_places (x0 ∷ (x1 ∷ [])) a b c d e f g h z = absurd (omega arith)
eight_places (x0 ∷ (x1 ∷ (x2 ∷ []))) a b c d e f g h z = absurd (omega arith)
eight_places (x0 ∷ (x1 ∷ (x2 ∷ (x3 ∷ [])))) a b c d e f g h z = absurd (omega arith)
eight_places (x0 ∷ (x1 ∷ (x2 ∷ (x3 ∷ (x4 ∷ []))))) a b c d e f g h z = absurd (omega arith)
eight_places (x0 ∷ (x1 ∷ (x2 ∷ (x3 ∷ (x4 ∷ (x5 ∷ [])))))) a b c d e f g h z = absurd (omega arith)
eight_places (x0 ∷ (x1 ∷ (x2 ∷ (x3 ∷ (x4 ∷ (x5 ∷ (x6 ∷ []))))))) a b c d e f g h z = absurd (omega arith)
eight_places (x0 ∷ (x1 ∷ (x2 ∷ (x3 ∷ (x4 ∷ (x5 ∷ (x6 ∷ (x7 ∷ (x8 ∷ l))))))))) a b c d e f g h z = absurd (omega arith)
