-- A list of words given to the chip (document 01, "Numbers given back" and "How tight each statement is").
use Rattle.std.specs.Prelude.{ℕ, List, [], ◌∷◌, ◌++◌, ltb, length, drop}
use Rattle.bits.specs.Byte.{pick}
use Rattle.events.specs.Word.{decode}
use Rattle.chip.specs.declared.Chip.{Chip}
use Rattle.chip_well_formed.specs.WellFormed.{well_formed}
use Rattle.step.specs.Step.{step, advance}
use Rattle.list_call.specs.declared.RunResult.{RunResult}

-- ---- a run: the step folded over the words

-- the chip after a list of words, and the answers to them, by the step
abbrev pub after : Chip → List ℕ → Chip
after c [] = c
after c (w ∷ ws) = after (step c w).chip ws

abbrev pub answers : Chip → List ℕ → List ℕ
answers c [] = []
answers c (w ∷ ws) = (step c w).answer ∷ answers (step c w).chip ws

-- the same without a test of the state at each word
abbrev pub advanced : Chip → List ℕ → Chip
advanced c [] = c
advanced c (w ∷ ws) = advanced (advance c (decode w)).chip ws

abbrev pub advanced_answers : Chip → List ℕ → List ℕ
advanced_answers c [] = []
advanced_answers c (w ∷ ws) = (advance c (decode w)).answer ∷ advanced_answers (advance c (decode w)).chip ws

-- ---- the list call

abbrev pub run_result : Chip → ℕ → RunResult
run_result c number = record { chip = c; number = number }

-- of a state that is not tested, what it gives back: 7 where there are fewer answer places than words, else 0 and the chip after the
-- words
abbrev pub advance_all : Chip → List ℕ → List ℕ → RunResult
advance_all c words places = pick (ltb (length places) (length words)) (run_result c 7) (run_result (advanced c words) 0)

-- what it leaves in the answer places: an answer for each word and, past them, what was there; nothing is written where it is
-- refused
abbrev pub advance_all_answers : Chip → List ℕ → List ℕ → List ℕ
advance_all_answers c words places =
    pick (ltb (length places) (length words)) places (advanced_answers c words ++ drop (length words) places)

-- the list call tests the state first: 8 at an ill formed one
unfoldable pub run : Chip → List ℕ → List ℕ → RunResult
run c words places = pick (well_formed c) (advance_all c words places) (run_result c 8)

unfoldable pub run_answers : Chip → List ℕ → List ℕ → List ℕ
run_answers c words places = pick (well_formed c) (advance_all_answers c words places) places
