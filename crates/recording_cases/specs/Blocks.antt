-- Blocks of a recording (document 02, Wish 1), byte by byte.
use Rattle.std.specs.Prelude.{ℕ, ◌-◌, List, [], ◌∷◌, ◌++◌, replicate, length}
use Rattle.recording_blocks.specs.Block.{refusal}

-- block 258 with the words 04030201 and FFFFFFFF: number 0102H and count 2 in two bytes each, lowest first; the words, lowest byte first; 124 words of zeros;
-- and the sum, 2 + 1 + 2 + 0 + (1 + 2 + 3 + 4) + 4 times 255 = 1,035 = 40BH, in four bytes
abbrev pub written : List ℕ
written = (0x02 ∷ 0x01 ∷ 0x02 ∷ 0x00 ∷ 0x01 ∷ 0x02 ∷ 0x03 ∷ 0x04 ∷ 0xff ∷ 0xff ∷ 0xff ∷ 0xff ∷ []) ++ (replicate 496 0x00 ++ (0x0b ∷ 0x04 ∷ 0x00 ∷ 0x00 ∷ []))

-- a block with a front of these bytes, then zeros, and four bytes for the sum
abbrev pub block : List ℕ → List ℕ → List ℕ
block front end = front ++ (replicate (508 - length front) 0x00 ++ end)

-- a block, the number that is due, and the refusal
pub record Row : Type 0 where
  pub due : ℕ
  pub bytes : List ℕ
  pub number : ℕ

abbrev pub row : ℕ → List ℕ → ℕ → Row
row due bytes number = record { due = due; bytes = bytes; number = number }

unfoldable pub rows : List Row
rows =
    -- good ones: the one above, an empty one, one of a word
    row 258 written 0 ∷ row 0 (block [] (0x00 ∷ 0x00 ∷ 0x00 ∷ 0x00 ∷ [])) 0 ∷ row 7 (block (0x07 ∷ 0x00 ∷ 0x01 ∷ 0x00 ∷ 0x00 ∷ 0x00 ∷ 0x00 ∷ 0x01 ∷ []) (0x09 ∷ 0x00 ∷ 0x00 ∷ 0x00 ∷ [])) 0
    ∷  -- 126 words, and 127: the count before the unused words
    row 0 (block (0x00 ∷ 0x00 ∷ 0x7e ∷ 0x00 ∷ []) (0x7e ∷ 0x00 ∷ 0x00 ∷ 0x00 ∷ [])) 0 ∷ row 0 (block (0x00 ∷ 0x00 ∷ 0x7f ∷ 0x00 ∷ 0x01 ∷ []) (0x80 ∷ 0x00 ∷ 0x00 ∷ 0x00 ∷ [])) 13
    ∷ row 0 (block (0x00 ∷ 0x00 ∷ 0x00 ∷ 0x01 ∷ []) (0x01 ∷ 0x00 ∷ 0x00 ∷ 0x00 ∷ [])) 13
    ∷  -- a word behind the count
    row 0 (block (0x00 ∷ 0x00 ∷ 0x00 ∷ 0x00 ∷ 0x01 ∷ []) (0x01 ∷ 0x00 ∷ 0x00 ∷ 0x00 ∷ [])) 14
    ∷  -- another number, before the count
    row 0 (block (0x01 ∷ 0x00 ∷ 0x7f ∷ 0x00 ∷ []) (0x80 ∷ 0x00 ∷ 0x00 ∷ 0x00 ∷ [])) 12 ∷ row 1 (block (0x00 ∷ 0x01 ∷ []) (0x01 ∷ 0x00 ∷ 0x00 ∷ 0x00 ∷ [])) 12
    ∷  -- another sum, in each of its four bytes, before the number
    row 0 (block (0x01 ∷ []) (0x02 ∷ 0x00 ∷ 0x00 ∷ 0x00 ∷ [])) 11 ∷ row 1 (block (0x01 ∷ []) (0x01 ∷ 0x01 ∷ 0x00 ∷ 0x00 ∷ [])) 11
    ∷ row 1 (block (0x01 ∷ []) (0x01 ∷ 0x00 ∷ 0x01 ∷ 0x00 ∷ [])) 11 ∷ row 1 (block (0x01 ∷ []) (0x01 ∷ 0x00 ∷ 0x00 ∷ 0x01 ∷ [])) 11
    ∷  -- fewer than 512 bytes, before the sum
    row 0 (block [] (0x01 ∷ 0x00 ∷ 0x00 ∷ [])) 10 ∷ row 0 [] 10 ∷ []

abbrev pub expected : List Row → List ℕ
expected [] = []
expected (r ∷ rs) = r.number ∷ expected rs

abbrev pub given : List Row → List ℕ
given [] = []
given (r ∷ rs) = refusal r.due r.bytes ∷ given rs
