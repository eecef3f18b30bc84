-- Each sort of refusal at a small dump, computed from its bytes: the number, and the place of the first byte of what is refused (Wish 10).
use Rattle.std.specs.Prelude.{ℕ, zero, suc, List, [], ◌∷◌, ◌++◌}

--     $var wire 1 ! a $end
abbrev pub variable : List ℕ
variable = 36 ∷ 118 ∷ 97 ∷ 114 ∷ 32 ∷ 119 ∷ 105 ∷ 114 ∷ 101 ∷ 32 ∷ 49 ∷ 32 ∷ 33 ∷ 32 ∷ 97 ∷ 32 ∷ 36 ∷ 101 ∷ 110 ∷ 100 ∷ 32 ∷ []

-- n of them, and a text
abbrev pub many : ℕ → List ℕ → List ℕ
many zero rest = rest
many (suc n) rest = variable ++ many n rest
