-- What `replay` prints for a stream of bytes (document 01, "Replay program and cases").
use Rattle.std.specs.Prelude.{ℕ, ◌*◌, ◌/◌, ◌%◌, false, List, [], ◌∷◌, ◌++◌, eqb, ltb, length, drop}
use Rattle.bits.specs.Byte.{pick}
use Rattle.recording_blocks.specs.Bytes.{words_of}
use Rattle.hex_digits.specs.Hex.{hex_line}
unfoldable pub use Rattle.hex_digits.specs.Hex.{hex_lines}
use Rattle.answers.specs.Answer.{answer_word}
use Rattle.chip.specs.declared.Chip.{Chip}
use Rattle.chip.specs.State.{requests}
use Rattle.list_call.specs.Run.{advanced, advanced_answers}
use Rattle.replay_text.specs.declared.Answered.{Answered}
use Rattle.replay_text.specs.declared.Part.{Part}

-- ---- the stream

-- the answer to bytes left over: number 1, with the request lines of the state
abbrev pub left_over_answer : Chip → ℕ
left_over_answer c = answer_word 1 false (requests c) 0

-- its line, where the stream does not end with a whole word
unfoldable pub left_over : Chip → List ℕ → List ℕ
left_over c bytes = pick (eqb (length bytes % 4) 0) [] (hex_line (left_over_answer c))

-- the lines of the whole words' answers
abbrev pub words_text : Chip → List ℕ → List ℕ
words_text c bytes = hex_lines (advanced_answers c (words_of bytes))

-- the text for a stream from a chip: a line for each whole word's answer, and one for bytes left over
unfoldable pub replay_text : Chip → List ℕ → List ℕ
replay_text c bytes = words_text c bytes ++ left_over (advanced c (words_of bytes)) bytes

-- ---- a block of the stream, and the places for its text

-- what is given back: the chip after the whole words and the length of the text; the chip as it was and 0 where the text does not fit
unfoldable pub answered : Chip → List ℕ → List ℕ → Answered
answered c bytes places =
    pick (ltb (length places) (length (replay_text c bytes)))
    (record { chip = c; count = 0 })
    (record { chip = advanced c (words_of bytes); count = length (replay_text c bytes) })

-- what is left in the places: the text and, past it, what was there; nothing is written where the text does not fit
unfoldable pub answered_text : Chip → List ℕ → List ℕ → List ℕ
answered_text c bytes places =
    pick (ltb (length places) (length (replay_text c bytes)))
    places
    (replay_text c bytes ++ drop (length (replay_text c bytes)) places)

-- ---- a stream that comes in parts of any length

-- the bytes of the word that is not whole yet
abbrev pub cut_word : List ℕ → List ℕ
cut_word bytes = drop (4 * (length bytes / 4)) bytes

-- the text for parts, after bytes carried over: whole words are answered when they have come, a cut word is carried over to the next
-- part, and at the end of the parts it is answered as bytes left over
unfoldable pub parts_text : Chip → List ℕ → List (List ℕ) → List ℕ
parts_text c carried [] = replay_text c carried
parts_text c carried (part ∷ rest) =
    words_text c (carried ++ part) ++ parts_text (advanced c (words_of (carried ++ part))) (cut_word (carried ++ part)) rest

-- the stream that the parts make
unfoldable pub joined : List (List ℕ) → List ℕ
joined [] = []
joined (part ∷ rest) = part ++ joined rest

-- what is given back for the bytes carried over with a part behind them: the chip after the whole words, the length of the text, and how
-- many bytes are carried over; all of them, with the chip as it was, where the text does not fit
unfoldable pub part_answered : Chip → List ℕ → List ℕ → Part
part_answered c bytes places =
    pick (ltb (length places) (length (words_text c bytes)))
    (record { chip = c; count = 0; carried = length bytes })
    (record { chip = advanced c (words_of bytes); count = length (words_text c bytes); carried = length (cut_word bytes) })

-- what is left in the places for the text
unfoldable pub part_text : Chip → List ℕ → List ℕ → List ℕ
part_text c bytes places =
    pick (ltb (length places) (length (words_text c bytes))) places
    (words_text c bytes ++ drop (length (words_text c bytes)) places)

-- what is left in those of the bytes: at their start those carried over
unfoldable pub part_bytes : Chip → List ℕ → List ℕ → List ℕ
part_bytes c bytes places =
    pick (ltb (length places) (length (words_text c bytes)))
    bytes
    (cut_word bytes ++ drop (length (cut_word bytes)) bytes)
