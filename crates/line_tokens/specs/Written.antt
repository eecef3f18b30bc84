-- Tokens as text: the bytes of each, with one blank between two.
use Rattle.std.specs.Prelude.{ℕ, zero, suc, ◌/◌, ◌%◌, List, [], ◌∷◌, ◌++◌, eqb, drop}
use Rattle.bits.specs.Byte.{pick}

-- the bytes of a token, at most n
unfoldable pub written : ℕ → ℕ → List ℕ
written zero v = []
written (suc n) v = pick (eqb v 0) [] (written n (v / 256) ++ (v % 256 ∷ []))

-- a token behind a blank; nothing where there is no token
unfoldable pub piece : ℕ → List ℕ
piece v = pick (eqb v 0) [] (32 ∷ written 8 v)

unfoldable pub pieces : List ℕ → List ℕ
pieces [] = []
pieces (v ∷ rest) = piece v ++ pieces rest

-- the line of tokens
abbrev pub line_of : List ℕ → List ℕ
line_of tokens = drop 1 (pieces tokens)
