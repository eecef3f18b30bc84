-- The text of a value change dump as tokens (IEEE 1364, 18.2.1): white space stands between tokens and means nothing else.
use Rattle.std.specs.Prelude.{ℕ, suc, ◌+◌, ◌-◌, ◌*◌, Bool, true, false, List, [], ◌∷◌, take, eqb, ltb, Result, Ok, Err}
use Rattle.bits.specs.Byte.{pick}
use Rattle.vcd_text.specs.declared.NumberError.{NumberError}
use Rattle.vcd_text.specs.declared.NumberError.TheVariants.{Bad, Big}

-- white space: tab, line feed, vertical tab, form feed, carriage return (9 to 13) and blank (32)
unfoldable pub white : ℕ → Bool
white b = pick (ltb 32 b) false (pick (eqb b 32) true (pick (ltb b 9) false (ltb b 14)))

-- how many white bytes a text begins with
unfoldable pub white_length : List ℕ → ℕ
white_length [] = 0
white_length (b ∷ rest) = pick (white b) (suc (white_length rest)) 0

-- how many bytes stand before the first white one
unfoldable pub word_length : List ℕ → ℕ
word_length [] = 0
word_length (b ∷ rest) = pick (white b) 0 (suc (word_length rest))

-- a token: where it begins in the file, counted from 0, and its bytes
pub record Token : Type 0 where
  pub place : ℕ
  pub bytes : List ℕ

-- the tokens of a text that begins at a place of the file; within: its first byte continues a token that began before it.
-- A byte that is not white and continues none begins one, which ends before the next white byte or with the text.
unfoldable pub tokens : Bool → ℕ → List ℕ → List Token
tokens within place [] = []
tokens within place (b ∷ rest) =
    pick (white b)
    (tokens false (suc place) rest)
    (pick within (tokens true (suc place) rest) (record { place = place; bytes = b ∷ take (word_length rest) rest } ∷ tokens true (suc place) rest))

-- equal, byte for byte
unfoldable pub same_bytes : List ℕ → List ℕ → Bool
same_bytes [] [] = true
same_bytes [] (b ∷ bs) = false
same_bytes (a ∷ as') [] = false
same_bytes (a ∷ as') (b ∷ bs) = pick (eqb a b) (same_bytes as' bs) false

-- the bytes of codes and names: 21H to 7EH
unfoldable pub graphic : ℕ → Bool
graphic b = pick (ltb b 33) false (ltb b 127)

unfoldable pub all_graphic : List ℕ → Bool
all_graphic [] = true
all_graphic (b ∷ rest) = pick (graphic b) (all_graphic rest) false

-- the keyword that closes a section
abbrev pub end_word : List ℕ
end_word = 36 ∷ 101 ∷ 110 ∷ 100 ∷ []

-- ---- decimal numbers of any length

-- a number that 64 bits hold, or why there is none
abbrev pub Number : Type 0
Number = Result ℕ NumberError

-- a number that 64 bits hold, or one that they don't
unfoldable pub number_of : ℕ → Number
number_of n = pick (ltb n 18446744073709551616) (Ok n) (Err Big)

unfoldable pub grown_by : Number → ℕ → Number
grown_by (Err e) d = Err e
grown_by (Ok n) d = number_of (n * 10 + d)

-- a number with one byte more, which has to be a digit
unfoldable pub longer_by : Number → ℕ → Number
longer_by n b = pick (ltb b 48) (Err Bad) (pick (ltb b 58) (grown_by n (b - 48)) (Err Bad))

unfoldable pub digits_from : Number → List ℕ → Number
digits_from n [] = n
digits_from n (b ∷ rest) = digits_from (longer_by n b) rest

-- the number that a text of one or more digits is
unfoldable pub decimal_of : List ℕ → Number
decimal_of [] = Err Bad
decimal_of (b ∷ rest) = digits_from (Ok 0) (b ∷ rest)
