-- A block of a recording: 512 bytes, written and read (document 02, Wish 1).
use Rattle.std.specs.Prelude.{ℕ, ◌-◌, ◌≡◌, List, ◌++◌, eqb, ltb, length, take, drop, get_or, replicate, Result, Ok, Err}
use Rattle.bits.specs.Byte.{pick}
use Rattle.recording_blocks.specs.Bytes.{two_bytes, four_bytes, from_two, from_four, words_bytes, words_of, all_zero, sum}
use Rattle.recording_blocks.specs.declared.BlockFault.{BlockFault}
use Rattle.recording_blocks.specs.declared.BlockFault.TheVariants.{Places, Short, Sum, Number, Count, Unused}
use Rattle.recording_blocks.specs.declared.WriteFault.{WriteFault}
use Rattle.recording_blocks.specs.declared.WriteFault.TheVariants.{Numbers, Words, Area}

-- ---- what the writer makes

-- 126 words: those given, then zeros
abbrev pub padded : List ℕ → List ℕ
padded ws = ws ++ replicate (126 - length ws) 0

-- the first 508 bytes: block number, word count, words
unfoldable pub front : ℕ → List ℕ → List ℕ
front number ws = two_bytes number ++ (two_bytes (length ws) ++ words_bytes (padded ws))

-- the block: these and their sum
unfoldable pub block_of : ℕ → List ℕ → List ℕ
block_of number ws = front number ws ++ four_bytes (sum (front number ws))

-- the number that the writer gives: 16 where there are 127 words or more, next 17 where the area has another length than 512
unfoldable pub write_number : List ℕ → List ℕ → ℕ
write_number ws area = pick (ltb 126 (length ws)) 16 (pick (eqb (length area) 512) 0 17)

-- the number of each refusal: 12 is that of the writer of many blocks alone
abbrev pub write_fault_number : WriteFault → ℕ
write_fault_number Numbers = 12
write_fault_number Words = 16
write_fault_number Area = 17

-- the number of an answer: 0 for a block written
abbrev pub number_written : Result (Unit {0}) WriteFault → ℕ
number_written (Ok done) = 0
number_written (Err fault) = write_fault_number fault

-- what it leaves in the area: the block, or what was there
unfoldable pub area_left : ℕ → List ℕ → List ℕ → List ℕ
area_left number ws area = pick (ltb 126 (length ws)) area (pick (eqb (length area) 512) (block_of number ws) area)

-- ---- what the reader finds, in the first 512 bytes of what it is lent

unfoldable pub number_of : List ℕ → ℕ
number_of b = from_two (get_or b 0 0) (get_or b 1 0)

unfoldable pub count_of : List ℕ → ℕ
count_of b = from_two (get_or b 2 0) (get_or b 3 0)

-- all 126 words
unfoldable pub all_words : List ℕ → List ℕ
all_words b = words_of (take 504 (drop 4 b))

unfoldable pub sum_of : List ℕ → ℕ
sum_of b = from_four (get_or b 508 0) (get_or b 509 0) (get_or b 510 0) (get_or b 511 0)

-- the words that the block holds, and those that are not used
abbrev pub block_words : List ℕ → List ℕ
block_words b = take (count_of b) (all_words b)

abbrev pub unused : List ℕ → List ℕ
unused b = drop (count_of b) (all_words b)

-- 0 for a good block with the number that is due, else the first fault: fewer than 512 bytes (10), a sum that differs (11), another number
-- (12), a count above 126 (13), a word past the count that is not zero (14)
unfoldable pub refusal : ℕ → List ℕ → ℕ
refusal due b =
    pick (ltb (length b) 512) 10
    (pick (eqb (sum_of b) (sum (take 508 b)))
    (pick (eqb (number_of b) due)
    (pick (ltb (count_of b) 127)
    (pick (all_zero (unused b)) 0 14)
    13)
    12)
    11)

-- the number of each fault: those of a block are 10 to 14, and 7 is that of too few places for its words
abbrev pub fault_number : BlockFault → ℕ
fault_number Places = 7
fault_number Short = 10
fault_number Sum = 11
fault_number Number = 12
fault_number Count = 13
fault_number Unused = 14

-- the fault of a block with each of its five numbers
abbrev pub fault_of : ℕ → BlockFault
fault_of n = pick (eqb n 10) Short (pick (eqb n 11) Sum (pick (eqb n 12) Number (pick (eqb n 13) Count Unused)))

-- how many words a good block has; or its first fault
unfoldable pub words_counted : ℕ → List ℕ → Result ℕ BlockFault
words_counted due b = pick (eqb (refusal due b) 0) (Ok (count_of b)) (Err (fault_of (refusal due b)))

-- what the reader of a block gives: how many words there are; or the fault; or 7 where there are fewer places than words
unfoldable pub block_read : ℕ → List ℕ → List ℕ → Result ℕ BlockFault
block_read due b places =
    pick (eqb (refusal due b) 0)
    (pick (ltb (length places) (count_of b)) (Err Places) (Ok (count_of b)))
    (Err (fault_of (refusal due b)))

-- the number of each answer: words are not refused
abbrev pub number_given : Result ℕ BlockFault → ℕ
number_given (Ok count) = 0
number_given (Err fault) = fault_number fault

-- the number that a block is answered with: that of its first fault, next 7 where there are fewer places than words
abbrev pub read_number : ℕ → List ℕ → List ℕ → ℕ
read_number due b places = pick (eqb (refusal due b) 0) (pick (ltb (length places) (count_of b)) 7 0) (refusal due b)

-- the number and the values of an answer
pub record BlockCase (due : ℕ) (b places : List ℕ) (r : Result ℕ BlockFault) : Type 0 where
  pub number : number_given r ≡ read_number due b places
  pub values : number_given r ≡ 0 → r ≡ Ok (count_of b)

-- what it leaves in the places: the words and, past them, what was there; nothing is written where it is refused
unfoldable pub places_left : ℕ → List ℕ → List ℕ → List ℕ
places_left due b places =
    pick (eqb (refusal due b) 0)
    (pick (ltb (length places) (count_of b)) places (block_words b ++ drop (count_of b) places))
    places
