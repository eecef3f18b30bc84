-- Stepping the bytes is stepping the state and writing it out, for the step and for the list call, for every area, length and word;
-- on every refusal the area keeps its bytes.
-- Assumes nothing.
use Prim.Native.Nat.{ℕ}
use mathlib.Core.Path.{◌≡◌, sym}
use mathlib.Core.Bool.{true, false}
use mathlib.Core.List.{List}
use lib.Dec.{ltb}
use lib.ListN.{length}
use borrow.Author.Tests.{eqb-true}
use Rattle.chip.specs.declared.Chip.{Chip}
use Rattle.chip_well_formed.specs.WellFormed.{well_formed}
use Rattle.step.specs.Step.{step}
use Rattle.list_call.specs.Run.{run, run_answers}
use Rattle.chip_hold.specs.Hold.{hold_report, hold_word}
use Rattle.chip_address_match.specs.AddressOutcome.{outcome_report, outcome_word}
use Rattle.chip_lines.specs.Lines.{lines_report, lines_word}
use Rattle.state_bytes.specs.Layout.{bytes_of}
use Rattle.state_area.specs.Area.{holds, loaded, number_in, state_in}
use Rattle.state_area.proofs.Accepted.{load_written, loaded_well, loaded_written}
use Rattle.state_calls.specs.Calls.{holds_state, refusal_word, step_area, step_answer, run_number, run_area, run_places, hold_in, outcome_in, lines_in}

-- ---- the bytes of a well formed state

module _ (c : Chip) (size : length c.registers ≡ 38) (well : well_formed c ≡ true) where
  read : loaded (bytes_of c) ≡ holds c
  read = load_written c size well

  pub step_area_lem : (w : ℕ) → step_area (bytes_of c) w ≡ bytes_of (step c w).chip
  unfolding step_area
  step_area_lem w = rw read

  pub step_answer_lem : (w : ℕ) → step_answer (bytes_of c) w ≡ (step c w).answer
  unfolding step_answer
  step_answer_lem w = rw read

  pub run_number_lem : (ws ps : List ℕ) → run_number (bytes_of c) ws ps ≡ (run c ws ps).number
  unfolding run_number
  run_number_lem ws ps = rw read

  pub run_area_lem : (ws ps : List ℕ) → run_area (bytes_of c) ws ps ≡ bytes_of (run c ws ps).chip
  unfolding run_area
  run_area_lem ws ps = rw read

  pub run_places_lem : (ws ps : List ℕ) → run_places (bytes_of c) ws ps ≡ run_answers c ws ps
  unfolding run_places
  run_places_lem ws ps = rw read

  pub hold_in_lem : hold_in (bytes_of c) ≡ hold_word (hold_report c)
  unfolding hold_in
  hold_in_lem = rw read

  pub outcome_in_lem : outcome_in (bytes_of c) ≡ outcome_word (outcome_report c)
  unfolding outcome_in
  outcome_in_lem = rw read

  pub lines_in_lem : lines_in (bytes_of c) ≡ lines_word (lines_report c)
  unfolding lines_in
  lines_in_lem = rw read

-- ---- every other area: it keeps its bytes, and the answer is the number of its refusal, 15 or 8, before all else

module _ (s : List ℕ) (refused : holds_state s ≡ false) where
  pub step_refused : (w : ℕ) → (step_area s w ≡ s) × (step_answer s w ≡ refusal_word s)
  unfolding step_area step_answer
  step_refused w = (rw refused, rw refused)

  pub run_refused : (ws ps : List ℕ) → (run_area s ws ps ≡ s) × (run_places s ws ps ≡ ps) × (run_number s ws ps ≡ number_in s)
  unfolding run_area run_places run_number
  run_refused ws ps = (rw refused, rw refused, rw refused)

-- ---- a call that leaves the state as it was leaves the area as it was: 7, and each word answered 1 to 6

module _ (s : List ℕ) (held : holds_state s ≡ true) where
  number : number_in s ≡ 0
  number = eqb-true (number_in s) 0 held

  pub unmoved : (w : ℕ) → (step (state_in s) w).chip ≡ state_in s → step_area s w ≡ s
  unfolding step_area
  unmoved w e = rw (held, e) (sym (loaded_written s number))

  pub short_unmoved : (ws ps : List ℕ) → ltb (length ps) (length ws) ≡ true → (run_area s ws ps ≡ s) × (run_places s ws ps ≡ ps) × (run_number s ws ps ≡ 7)
  unfolding run_area run_places run_number run run_answers
  short_unmoved ws ps short =
      let well = loaded_well s number in
      (rw (held, well, short) (sym (loaded_written s number)), rw (held, well, short), rw (held, well, short))
