-- A word as a line of text (document 01, "Replay program and cases").
use Rattle.std.specs.Prelude.{ℕ, ◌+◌, ◌/◌, ◌%◌, List, [], ◌∷◌, ◌++◌, ltb}
use Rattle.bits.specs.Byte.{pick}

-- the ASCII code of a digit below 16: `0` to `9`, then `A` to `F`
abbrev pub hex_digit : ℕ → ℕ
hex_digit d = pick (ltb d 10) (48 + d) (55 + d)

-- eight digits, the highest first, and a newline
unfoldable pub hex_line : ℕ → List ℕ
hex_line a =
    hex_digit (a / 268435456)
    ∷ hex_digit (a / 16777216 % 16)
    ∷ hex_digit (a / 1048576 % 16)
    ∷ hex_digit (a / 65536 % 16)
    ∷ hex_digit (a / 4096 % 16)
    ∷ hex_digit (a / 256 % 16)
    ∷ hex_digit (a / 16 % 16)
    ∷ hex_digit (a % 16)
    ∷ 10
    ∷ []

-- a line for each word
unfoldable pub hex_lines : List ℕ → List ℕ
hex_lines [] = []
hex_lines (a ∷ rest) = hex_line a ++ hex_lines rest
