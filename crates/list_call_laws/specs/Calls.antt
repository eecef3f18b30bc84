-- What a list call leaves, done or refused (document 01, "Numbers given back" and "How tight each statement is").
use Rattle.std.specs.Prelude.{ℕ, ◌≡◌, List, ◌++◌, length, drop}
use Rattle.chip.specs.declared.Chip.{Chip}
use Rattle.list_call.specs.Run.{after, answers, run, run_answers}

-- the chip after the words and the answers to them are those of the step, word by word; places past the words are as they were
pub record WordByWord (c : Chip) (words places : List ℕ) : Type 0 where
  pub chip : (run c words places).chip ≡ after c words
  pub written : run_answers c words places ≡ answers c words ++ drop (length words) places

-- a refused call: the chip and the places are as they were
pub record Untouched (c : Chip) (words places : List ℕ) : Type 0 where
  pub chip : (run c words places).chip ≡ c
  pub written : run_answers c words places ≡ places
