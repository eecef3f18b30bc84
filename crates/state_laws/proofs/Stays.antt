-- A state in bytes is one again after every step and list call, and words given one by one are the words of one list call.
-- Assumes nothing.
use Prim.Native.Nat.{ℕ, ◌/◌}
use mathlib.Core.Path.{◌≡◌, refl, sym, ap, ◌∙◌}
use mathlib.Core.Bool.{Bool, true, false}
use mathlib.Core.List.{List, [], ◌∷◌, ◌++◌}
use lib.Dec.{ltb}
use lib.ListN.{length, drop, length-set}
use borrow.Author.Tests.{eq-eqb, eqb-true}
use Rattle.registers.specs.Table.{resets}
use Rattle.events.specs.Word.{decode}
use Rattle.chip.specs.declared.Chip.{Chip}
use Rattle.chip.specs.declared.Kept.{Kept}
use Rattle.chip.specs.declared.Kept.TheVariants.{Same, Stored, Reset}
use Rattle.chip.specs.State.{fresh, keep}
use Rattle.chip_well_formed.specs.WellFormed.{well_formed}
use Rattle.chip_events.specs.Outcome.{next, kept_after}
use Rattle.step.specs.Step.{step, advance}
use Rattle.list_call.specs.Run.{after, answers, run, run_answers}
use Rattle.chip_laws.proofs.WellFormed.{fresh_well_formed, step_well_formed}
use Rattle.chip_laws.proofs.Numbers.{refused_keeps}
use Rattle.list_call_laws.proofs.Runs.{step_advances, after_advanced, answers_advanced, after_well_formed}
use Rattle.state_bytes.specs.Layout.{bytes_of}
use Rattle.state_area.specs.Area.{holds, loaded, number_in, state_in, store_number, store_left}
use Rattle.state_area.proofs.Accepted.{load_written, loaded_well, loaded_written, loaded_registers}
use Rattle.state_calls.specs.Calls.{holds_state, step_area, step_answer, run_number, run_area, run_places}
use Rattle.state_calls.proofs.Steps.{step_area_lem, step_answer_lem, step_refused, unmoved}
use Rattle.state_laws.specs.Bytes.{bytes_after, bytes_answers}

-- ---- the array keeps its 38 places

kept_length : (k : Kept) (l : List ℕ) → length l ≡ 38 → length (keep k l) ≡ 38
unfolding resets
kept_length Same l h = h
kept_length (Stored a b) l h = length-set l a b ∙ h
kept_length Reset l h = refl

advance_length : (c : Chip) (w : ℕ) → length c.registers ≡ 38 → length (advance c (decode w)).chip.registers ≡ 38
unfolding advance next
advance_length c w h = kept_length (kept_after c (decode w)) c.registers h

pub step_length : (c : Chip) (w : ℕ) → well_formed c ≡ true → length c.registers ≡ 38 → length (step c w).chip.registers ≡ 38
step_length c w t h = rw (step_advances c w t) (advance_length c w h)

pub after_length : (c : Chip) (ws : List ℕ) → well_formed c ≡ true → length c.registers ≡ 38 → length (after c ws).registers ≡ 38
after_length c [] t h = h
after_length c (w ∷ ws) t h = after_length (step c w).chip ws (step_well_formed c w t) (step_length c w t h)

-- ---- a fresh state's bytes are accepted

fresh_length : length fresh.registers ≡ 38
unfolding fresh resets
fresh_length = refl

pub fresh_holds : (s : List ℕ) → length s ≡ 128 → (store_number fresh s ≡ 0) × (loaded (store_left fresh s) ≡ holds fresh)
unfolding store_number store_left
fresh_holds s h =
    (rw (eq-eqb (length s) 128 h, fresh_well_formed), rw (eq-eqb (length s) 128 h, fresh_well_formed) (load_written fresh fresh_length fresh_well_formed))

-- ---- the bytes of a well formed state through a list of words, one by one

pub bytes_after_lem : (c : Chip) (ws : List ℕ) → length c.registers ≡ 38 → well_formed c ≡ true → bytes_after (bytes_of c) ws ≡ bytes_of (after c ws)
bytes_after_lem c [] h t = refl
bytes_after_lem c (w ∷ ws) h t = rw (step_area_lem c h t w) (bytes_after_lem (step c w).chip ws (step_length c w t h) (step_well_formed c w t))

pub bytes_answers_lem : (c : Chip) (ws : List ℕ) → length c.registers ≡ 38 → well_formed c ≡ true → bytes_answers (bytes_of c) ws ≡ answers c ws
bytes_answers_lem c [] h t = refl
bytes_answers_lem c (w ∷ ws) h t =
    rw (step_area_lem c h t w, step_answer_lem c h t w) (ap (λ (l : List ℕ). (step c w).answer ∷ l) (bytes_answers_lem (step c w).chip ws (step_length c w t h) (step_well_formed c w t)))

-- ---- an area that holds a state

module _ (s : List ℕ) (held : holds_state s ≡ true) where
  number : number_in s ≡ 0
  number = eqb-true (number_in s) 0 held

  pub well : well_formed (state_in s) ≡ true
  well = loaded_well s number

  size : length (state_in s).registers ≡ 38
  size = loaded_registers s number

  bytes : s ≡ bytes_of (state_in s)
  bytes = loaded_written s number

  -- after a word it holds the state after that word
  pub stepped_holds : (w : ℕ) → loaded (step_area s w) ≡ holds (step (state_in s) w).chip
  unfolding step_area
  stepped_holds w = rw held (load_written (step (state_in s) w).chip (step_length (state_in s) w well size) (step_well_formed (state_in s) w well))

  -- and after a list of words
  pub after_holds : (ws : List ℕ) → loaded (bytes_after s ws) ≡ holds (after (state_in s) ws)
  after_holds ws =
      let c = state_in s in
      ap (λ (l : List ℕ). loaded (bytes_after l ws)) bytes ∙ ap loaded (bytes_after_lem c ws size well) ∙ load_written (after c ws) (after_length c ws well size) (after_well_formed c ws well)

  pub answers_given : (ws : List ℕ) → bytes_answers s ws ≡ answers (state_in s) ws
  answers_given ws = ap (λ (l : List ℕ). bytes_answers l ws) bytes ∙ bytes_answers_lem (state_in s) ws size well

  -- a list call with places enough leaves what the words one by one leave
  pub call_holds : (ws ps : List ℕ) → ltb (length ps) (length ws) ≡ false → loaded (run_area s ws ps) ≡ holds (after (state_in s) ws)
  unfolding run_area run
  call_holds ws ps short =
      let c = state_in s in
      rw (held, well, short, ← (after_advanced c ws well)) (load_written (after c ws) (after_length c ws well size) (after_well_formed c ws well))

  pub call_answers : (ws ps : List ℕ) → ltb (length ps) (length ws) ≡ false → run_places s ws ps ≡ bytes_answers s ws ++ drop (length ws) ps
  unfolding run_places run_answers
  call_answers ws ps short =
      let c = state_in s in
      rw (held, well, short) (ap (λ (l : List ℕ). l ++ drop (length ws) ps) (sym (answers_advanced c ws well) ∙ sym (answers_given ws)))

  -- of every list call, 7 included, the number and the answer places are those of the state, and the area holds the state after it
  pub call_number_lem : (ws ps : List ℕ) → run_number s ws ps ≡ (run (state_in s) ws ps).number
  unfolding run_number
  call_number_lem ws ps = rw held

  pub call_places : (ws ps : List ℕ) → run_places s ws ps ≡ run_answers (state_in s) ws ps
  unfolding run_places
  call_places ws ps = rw held

  state_by : (ws ps : List ℕ) (b : Bool) → ltb (length ps) (length ws) ≡ b → loaded (run_area s ws ps) ≡ holds (run (state_in s) ws ps).chip
  unfolding run_area run
  state_by ws ps true short = rw (held, well, short) (load_written (state_in s) size well)
  state_by ws ps false short =
      let c = state_in s in
      rw (held, well, short, ← (after_advanced c ws well)) (load_written (after c ws) (after_length c ws well size) (after_well_formed c ws well))

  pub call_state : (ws ps : List ℕ) → loaded (run_area s ws ps) ≡ holds (run (state_in s) ws ps).chip
  call_state ws ps = state_by ws ps (ltb (length ps) (length ws)) refl

-- ---- every refusal, 1 to 6, 8 and 15: the number in bits 31..24 is not 0, and the area keeps its bytes

refused_by_lem : (s : List ℕ) (w : ℕ) (b : Bool) → holds_state s ≡ b → (step_answer s w / 16777216 ≡ 0 → ⊥) → step_area s w ≡ s
unfolding step_answer
refused_by_lem s w true held h = unmoved s held w (refused_keeps (state_in s) w (rw held at h))
refused_by_lem s w false held h = (step_refused s held w).0

pub refused_untouched : (s : List ℕ) (w : ℕ) → (step_answer s w / 16777216 ≡ 0 → ⊥) → step_area s w ≡ s
refused_untouched s w h = refused_by_lem s w (holds_state s) refl h
