-- Words of 32 bits.
use Rattle.std.specs.Prelude.{ℕ, List, [], ◌∷◌, Bool, true, ◌&&◌, ltb}

-- every number is a word of 32 bits
abbrev pub all_words : List ℕ → Bool
all_words [] = true
all_words (w ∷ ws) = ltb w 4294967296 && all_words ws
