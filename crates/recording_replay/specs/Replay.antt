-- A recording replayed: the answers to its blocks, and their text (document 02, Wish 1).
use Rattle.std.specs.Prelude.{ℕ, ◌/◌, false, List, [], ◌∷◌, ◌++◌, eqb, ltb, length, drop}
use Rattle.bits.specs.Byte.{pick}
unfoldable pub use Rattle.hex_digits.specs.Hex.{hex_lines}
use Rattle.answers.specs.Answer.{answer_word}
use Rattle.chip.specs.declared.Chip.{Chip}
use Rattle.chip_well_formed.specs.WellFormed.{well_formed}
use Rattle.list_call.specs.Run.{advanced, advanced_answers}
use Rattle.recording_parts.specs.Recording.{blocks_of, read_words, read_number, read_next}
use Rattle.recording_replay.specs.declared.Replayed.{Replayed}

-- ---- answers

-- the words of the good blocks, all joined, where the first block must have the number that is due
abbrev pub words_from : ℕ → List ℕ → List ℕ
words_from due bytes = read_words due (blocks_of bytes)

-- 0, or the number of the bad block that ended them
abbrev pub number_from : ℕ → List ℕ → ℕ
number_from due bytes = read_number due (blocks_of bytes)

-- a bad block's last answer word: its number, all else zero; none where there is no bad block
unfoldable pub last_answer : ℕ → List ℕ
last_answer number = pick (eqb number 0) [] (answer_word number false 0 0 ∷ [])

-- the answers to the blocks, from a chip
unfoldable pub block_answers : Chip → ℕ → List ℕ → List ℕ
block_answers c due bytes = advanced_answers c (words_from due bytes) ++ last_answer (number_from due bytes)

-- ---- text

unfoldable pub block_text : Chip → ℕ → List ℕ → List ℕ
block_text c due bytes = hex_lines (block_answers c due bytes)

-- ---- the replay of blocks from a state that is offered, and the places for the text

-- refused: the chip and the number that is due as they were, and no text
abbrev pub refused_replay : Chip → ℕ → ℕ → Replayed
refused_replay c due number = record { chip = c; next = due; count = 0; number = number }

-- what is given back: 8 at an ill formed state, before any block is read; then 7 for more than 32 whole blocks, or where the
-- text does not fit; else the chip after the words, the number that is due next, the length of the text, and 0 or the number of
-- the bad block
unfoldable pub replayed : Chip → ℕ → List ℕ → List ℕ → Replayed
replayed c due bytes places =
    pick (well_formed c)
    (pick (ltb 32 (length bytes / 512))
    (refused_replay c due 7)
    (pick (ltb (length places) (length (block_text c due bytes)))
    (refused_replay c due 7)
    (record { chip = advanced c (words_from due bytes); next = read_next due (blocks_of bytes); count = length (block_text c due bytes); number = number_from due bytes })))
    (refused_replay c due 8)

-- what is left in the places: the text and, past it, what was there; nothing is written where 8 or 7 is given
unfoldable pub text_left : Chip → ℕ → List ℕ → List ℕ → List ℕ
text_left c due bytes places =
    pick (well_formed c)
    (pick (ltb 32 (length bytes / 512))
    places
    (pick (ltb (length places) (length (block_text c due bytes)))
    places
    (block_text c due bytes ++ drop (length (block_text c due bytes)) places)))
    places
