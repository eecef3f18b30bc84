-- A recording: a list of blocks, numbered from 0 (document 02, Wish 1).
use Rattle.std.specs.Prelude.{ℕ, zero, suc, ◌+◌, ◌*◌, ◌/◌, List, [], ◌∷◌, ◌++◌, eqb, ltb, length, take, drop, Option, Some, None}
use Rattle.bits.specs.Byte.{pick}
use Rattle.recording_blocks.specs.Block.{block_of, block_words, refusal, fault_of, fault_number}
use Rattle.recording_blocks.specs.declared.BlockFault.{BlockFault}
use Rattle.recording_blocks.specs.declared.BlockFault.TheVariants.{Places}
use Rattle.recording_parts.specs.declared.BlocksRead.{BlocksRead}

-- ---- lists in pieces

-- the first n pieces of a size
unfoldable pub cut : ℕ → ℕ → List ℕ → List (List ℕ)
cut size zero xs = []
cut size (suc n) xs = take size xs ∷ cut size n (drop size xs)

-- a list of words in pieces of 126 and one with the rest
unfoldable pub parts : List ℕ → List (List ℕ)
parts ws = cut 126 ((length ws + 125) / 126) ws

-- the bytes of a recording in blocks of 512, the last perhaps shorter
unfoldable pub blocks_of : List ℕ → List (List ℕ)
blocks_of bytes = cut 512 ((length bytes + 511) / 512) bytes

-- and back
unfoldable pub joined : List (List ℕ) → List ℕ
joined [] = []
joined (xs ∷ rest) = xs ++ joined rest

-- ---- written

-- a block for each list of words, numbered on from a number
unfoldable pub numbered : ℕ → List (List ℕ) → List (List ℕ)
numbered number [] = []
numbered number (ws ∷ rest) = block_of number ws ∷ numbered (number + 1) rest

-- the recording of a list of words
unfoldable pub recording_of : List ℕ → List ℕ
recording_of ws = joined (numbered 0 (parts ws))

-- ---- read, with the number that is due: the first bad block ends it

-- the words of the good blocks
unfoldable pub read_words : ℕ → List (List ℕ) → List ℕ
read_words due [] = []
read_words due (b ∷ rest) = pick (eqb (refusal due b) 0) (block_words b ++ read_words (due + 1) rest) []

-- 0, or what is wrong with the bad block
unfoldable pub read_number : ℕ → List (List ℕ) → ℕ
read_number due [] = 0
read_number due (b ∷ rest) = pick (eqb (refusal due b) 0) (read_number (due + 1) rest) (refusal due b)

-- the number that is due next
unfoldable pub read_next : ℕ → List (List ℕ) → ℕ
read_next due [] = due
read_next due (b ∷ rest) = pick (eqb (refusal due b) 0) (read_next (due + 1) rest) due

-- ---- the reader of blocks, and the places for their words

-- what is wrong by a number of a bad block, nothing by 0
abbrev pub fault_at : ℕ → Option BlockFault
fault_at n = pick (eqb n 0) None (Some (fault_of n))

-- and back
abbrev pub number_at : Option BlockFault → ℕ
number_at None = 0
number_at (Some fault) = fault_number fault

-- what is given back: the fault with the number 7 where there are fewer than 126 places for each whole block; else how many words were
-- read, the number that is due next, and what is wrong with the bad block, if there is one
unfoldable pub blocks_read : ℕ → List ℕ → List ℕ → BlocksRead
blocks_read due bytes places =
    pick (ltb (length places) (126 * (length bytes / 512)))
    (record { count = 0; next = due; fault = Some Places })
    (record { count = length (read_words due (blocks_of bytes)); next = read_next due (blocks_of bytes); fault = fault_at (read_number due (blocks_of bytes)) })

-- what is left in the places: the words of the good blocks and, past them, what was there; nothing is written where 7 is given
unfoldable pub words_left : ℕ → List ℕ → List ℕ → List ℕ
words_left due bytes places =
    pick (ltb (length places) (126 * (length bytes / 512)))
    places
    (read_words due (blocks_of bytes) ++ drop (length (read_words due (blocks_of bytes))) places)
