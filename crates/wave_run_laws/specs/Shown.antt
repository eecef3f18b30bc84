-- What a viewer shows after some lines of a dump: of each line and vector watched the value that it was given last.
use Rattle.std.specs.Prelude.{ℕ, zero, suc, ◌/◌, ◌%◌, Bool, List, [], ◌∷◌, eqb}
use Rattle.bits.specs.Byte.{pick}
use Rattle.wave_write.specs.Lines.{Line, time, pin, level, vector, first}

-- the k-th line of what is watched is high
unfoldable pub level_at : ℕ → ℕ → Bool
level_at zero levels = eqb (levels % 2) 1
level_at (suc k) levels = level_at k (levels / 2)

-- the level of the k-th line after some lines of a dump, and v before them
unfoldable pub shown_level : ℕ → Bool → List Line → Bool
shown_level k v [] = v
shown_level k v (time t ∷ ls) = shown_level k v ls
shown_level k v (pin high p ∷ ls) = shown_level k v ls
shown_level k v (level high j ∷ ls) = shown_level k (pick (eqb j k) high v) ls
shown_level k v (vector n x j ∷ ls) = shown_level k v ls
shown_level k v (first high p ∷ ls) = shown_level k v ls

-- the k-th vector's twelve bits
unfoldable pub vector_at : ℕ → ℕ → ℕ
vector_at zero vectors = vectors % 4096
vector_at (suc k) vectors = vector_at k (vectors / 4096)

-- the bits of the k-th vector after some lines of a dump, and v before them
unfoldable pub shown_vector : ℕ → ℕ → List Line → ℕ
shown_vector k v [] = v
shown_vector k v (time t ∷ ls) = shown_vector k v ls
shown_vector k v (pin high p ∷ ls) = shown_vector k v ls
shown_vector k v (level high j ∷ ls) = shown_vector k v ls
shown_vector k v (vector n x j ∷ ls) = shown_vector k (pick (eqb j k) x v) ls
shown_vector k v (first high p ∷ ls) = shown_vector k v ls
