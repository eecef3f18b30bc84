-- Calls on a state in a lent area (document 02, Wish 14): the step, the list call, the hold of SCL, the address outcome and the lines. 15 and 8
-- for the area come before all others, and the area keeps its bytes then.
use Rattle.std.specs.Prelude.{ℕ, ◌*◌, Bool, List, eqb}
use Rattle.bits.specs.Byte.{pick}
use Rattle.step.specs.Step.{step}
use Rattle.list_call.specs.Run.{run, run_answers}
use Rattle.chip_hold.specs.Hold.{hold_report, hold_word}
use Rattle.chip_address_match.specs.AddressOutcome.{outcome_report, outcome_word}
use Rattle.chip_lines.specs.Lines.{lines_report, lines_word}
use Rattle.state_bytes.specs.Layout.{bytes_of}
use Rattle.state_area.specs.Area.{number_in, state_in}

-- the area holds a well formed state
abbrev pub holds_state : List ℕ → Bool
holds_state s = eqb (number_in s) 0

-- the number of its refusal in bits 31..24 of an answer, with no requests and no byte
abbrev pub refusal_word : List ℕ → ℕ
refusal_word s = number_in s * 0x01000000

-- the step: the area after a word, and the answer
unfoldable pub step_area : List ℕ → ℕ → List ℕ
step_area s w = pick (holds_state s) (bytes_of (step (state_in s) w).chip) s

unfoldable pub step_answer : List ℕ → ℕ → ℕ
step_answer s w = pick (holds_state s) (step (state_in s) w).answer (refusal_word s)

-- the list call: the number, the area and the answer places after it
unfoldable pub run_number : List ℕ → List ℕ → List ℕ → ℕ
run_number s words places = pick (holds_state s) (run (state_in s) words places).number (number_in s)

unfoldable pub run_area : List ℕ → List ℕ → List ℕ → List ℕ
run_area s words places = pick (holds_state s) (bytes_of (run (state_in s) words places).chip) s

unfoldable pub run_places : List ℕ → List ℕ → List ℕ → List ℕ
run_places s words places = pick (holds_state s) (run_answers (state_in s) words places) places

-- for how long SCL has been held, and by which address the transfer was called: the number in bits 31..24, below it the value
unfoldable pub hold_in : List ℕ → ℕ
hold_in s = pick (holds_state s) (hold_word (hold_report (state_in s))) (refusal_word s)

unfoldable pub outcome_in : List ℕ → ℕ
outcome_in s = pick (holds_state s) (outcome_word (outcome_report (state_in s))) (refusal_word s)

-- the levels of the lines and what the chip pulls: the number in bits 31..24, below it a bit each
unfoldable pub lines_in : List ℕ → ℕ
lines_in s = pick (holds_state s) (lines_word (lines_report (state_in s))) (refusal_word s)
