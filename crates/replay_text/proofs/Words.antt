-- The words of a stream in parts.
-- Assumes nothing.
use mathlib.Core.Path.{◌≡◌, refl, ap}
use mathlib.Core.List.{List, [], ◌∷◌, ◌++◌}
use Prim.Native.Nat.{ℕ, ◌%◌}
use native.Mathlib.Omega.{arith}
use lib.ListN.{length}
use Rattle.recording_blocks.specs.Bytes.{from_four, words_of}

-- a stream after one of whole words has the words of both
pub words_append : (xs ys : List ℕ) → length xs % 4 ≡ 0 → words_of (xs ++ ys) ≡ words_of xs ++ words_of ys
unfolding words_of
words_append [] ys h = refl
words_append (a ∷ []) ys h = absurd (omega arith)
words_append (a ∷ b ∷ []) ys h = absurd (omega arith)
words_append (a ∷ b ∷ c ∷ []) ys h = absurd (omega arith)
words_append (a ∷ b ∷ c ∷ d ∷ rest) ys h = ap (λ (ws : List ℕ). from_four a b c d ∷ ws) (words_append rest ys (omega arith))
