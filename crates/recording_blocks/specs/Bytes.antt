-- Numbers and event words as bytes, the lowest byte first (document 02, Wish 1).
use Rattle.std.specs.Prelude.{ℕ, ◌+◌, ◌*◌, ◌/◌, ◌%◌, ◌<◌, Bool, true, false, List, [], ◌∷◌, ◌++◌, eqb, get_or}
use Rattle.std.specs.List as list
use Rattle.bits.specs.Byte.{pick}

-- every element is a byte
abbrev pub Bytes : List ℕ → Type 0
Bytes xs = (i : ℕ) → get_or xs i 0 < 256

-- every element is a word of 32 bits
abbrev pub Words32 : List ℕ → Type 0
Words32 ws = (i : ℕ) → get_or ws i 0 < 4294967296

-- a number in two bytes, and in four
abbrev pub two_bytes : ℕ → List ℕ
two_bytes n = n % 256 ∷ n / 256 ∷ []

abbrev pub four_bytes : ℕ → List ℕ
four_bytes n = n % 256 ∷ n / 256 % 256 ∷ n / 65536 % 256 ∷ n / 16777216 ∷ []

-- and back
abbrev pub from_two : ℕ → ℕ → ℕ
from_two a b = a + b * 256

abbrev pub from_four : ℕ → ℕ → ℕ → ℕ → ℕ
from_four a b c d = a + b * 256 + c * 65536 + d * 16777216

-- a list of words as bytes, four for each
unfoldable pub words_bytes : List ℕ → List ℕ
words_bytes [] = []
words_bytes (w ∷ ws) = four_bytes w ++ words_bytes ws

-- the whole words of a list of bytes; one to three bytes at its end make none
unfoldable pub words_of : List ℕ → List ℕ
words_of [] = []
words_of (a ∷ []) = []
words_of (a ∷ b ∷ []) = []
words_of (a ∷ b ∷ c ∷ []) = []
words_of (a ∷ b ∷ c ∷ d ∷ rest) = from_four a b c d ∷ words_of rest

-- every element is 0
unfoldable pub all_zero : List ℕ → Bool
all_zero [] = true
all_zero (x ∷ xs) = pick (eqb x 0) (all_zero xs) false

-- the sum of the elements
abbrev pub sum : List ℕ → ℕ
sum xs = list.sum xs
