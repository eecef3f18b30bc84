-- A number as eight digits, and a line read byte by byte.
use Rattle.std.specs.Prelude.{List, [], ◌∷◌, ℕ, ◌+◌, ◌/◌, ◌%◌, ltb}
use Rattle.bits.specs.Byte.{pick}
use Rattle.listing_lines.specs.declared.Found.{Found}
use Rattle.listing_lines.specs.declared.Found.TheVariants.{Within, Refused, Entry}
use Rattle.listing_lines.specs.Line.{symbol_of, next_at}

-- what the bytes of a line bring
unfoldable pub line_read : Found → List ℕ → Found
line_read f [] = f
line_read (Within r) (b ∷ rest) = line_read (next_at r.place r (symbol_of b)) rest
line_read Refused (b ∷ rest) = Refused
line_read (Entry times word answer) (b ∷ rest) = Entry times word answer

-- the digits of a number after its first of eight, written by the bytes that a function gives
abbrev pub following : (ℕ → ℕ) → ℕ → List ℕ → List ℕ
following byte n rest =
    byte (n / 16777216 % 16)
    ∷ byte (n / 1048576 % 16)
    ∷ byte (n / 65536 % 16)
    ∷ byte (n / 4096 % 16)
    ∷ byte (n / 256 % 16)
    ∷ byte (n / 16 % 16)
    ∷ byte (n % 16)
    ∷ rest

-- all eight, the highest first
abbrev pub written : (ℕ → ℕ) → ℕ → List ℕ → List ℕ
written byte n rest = byte (n / 268435456) ∷ following byte n rest

-- digits in upper case, and in lower case
abbrev pub upper : ℕ → ℕ
upper d = pick (ltb d 10) (48 + d) (55 + d)

abbrev pub lower : ℕ → ℕ
lower d = pick (ltb d 10) (48 + d) (87 + d)
