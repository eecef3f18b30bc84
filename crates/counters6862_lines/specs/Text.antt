-- The line that tells a number and twelve numbers, as text and as the code makes it.
use Rattle.std.specs.Prelude.{ℕ, zero, suc, ◌+◌, ◌/◌, ◌%◌, List, [], ◌∷◌, ◌++◌, ltb, get_or, set, take, replicate}
use Rattle.bits.specs.Byte.{pick}
use Rattle.counters6862_lines.specs.declared.Text.{Text}

-- ---- the text

-- the decimal digits of a number, the highest first and no leading zero; k + 1 digits at most
unfoldable pub decimal_to : ℕ → ℕ → List ℕ
decimal_to zero n = (48 + n % 10) ∷ []
decimal_to (suc k) n = pick (ltb n 10) ((48 + n % 10) ∷ []) (decimal_to k (n / 10) ++ ((48 + n % 10) ∷ []))

abbrev pub decimal : ℕ → List ℕ
decimal n = decimal_to 4 n

-- each number after a blank
unfoldable pub spaced : List ℕ → List ℕ
spaced [] = []
spaced (x ∷ xs) = (32 ∷ decimal x) ++ spaced xs

unfoldable pub line_text : ℕ → List ℕ → List ℕ
line_text number numbers = decimal number ++ spaced numbers

-- ---- as it is put together, byte by byte

-- what a text holds
abbrev pub held : Text → List ℕ
held t = take t.count t.bytes

unfoldable pub empty : Text
empty = record { bytes = replicate 96 0; count = 0 }

unfoldable pub pushed : Text → ℕ → Text
pushed t b = pick (ltb t.count 96) (record { bytes = set t.bytes t.count b; count = t.count + 1 }) t

unfoldable pub digits_to : ℕ → Text → ℕ → Text
digits_to zero t n = pushed t (48 + n % 10)
digits_to (suc k) t n = pick (ltb n 10) (pushed t (48 + n % 10)) (pushed (digits_to k t (n / 10)) (48 + n % 10))

abbrev pub number_to : Text → ℕ → Text
number_to t n = digits_to 4 (pushed t 32) n

unfoldable pub line_to : ℕ → List ℕ → Text
line_to number n =
    number_to (number_to (number_to (number_to (number_to (number_to (number_to (number_to (number_to (number_to (number_to (number_to
    (digits_to 4 empty number)
    (get_or n 0 0)) (get_or n 1 0)) (get_or n 2 0)) (get_or n 3 0)) (get_or n 4 0)) (get_or n 5 0))
    (get_or n 6 0)) (get_or n 7 0)) (get_or n 8 0)) (get_or n 9 0)) (get_or n 10 0)) (get_or n 11 0)
