-- Words given one by one to a state in bytes (document 02, Wish 14), and demand 3 read for bytes.
use Rattle.std.specs.Prelude.{ℕ, ◌≡◌, true, List, [], ◌∷◌}
use Rattle.chip.specs.declared.Chip.{Chip}
use Rattle.chip_well_formed.specs.WellFormed.{well_formed}
use Rattle.state_bytes.specs.Layout.{bytes_of}
use Rattle.isolation_laws.specs.Foreign.{Agree}
use Rattle.state_area.specs.Area.{state_in}
use Rattle.state_calls.specs.Calls.{step_area, step_answer, run_area, run_places}

-- bytes of which no well formed state is the origin
abbrev pub WrittenAsNone : List ℕ → Type 0
WrittenAsNone s = (c : Chip) → well_formed c ≡ true → s ≡ bytes_of c → ⊥

-- the area after a list of words, and the answers to them, by the step on bytes
abbrev pub bytes_after : List ℕ → List ℕ → List ℕ
bytes_after s [] = s
bytes_after s (w ∷ ws) = bytes_after (step_area s w) ws

abbrev pub bytes_answers : List ℕ → List ℕ → List ℕ
bytes_answers s [] = []
bytes_answers s (w ∷ ws) = step_answer s w ∷ bytes_answers (step_area s w) ws

-- two runs of the step on bytes from one area agree: the answers, and the states that the areas hold after them, are those that are
-- compared
abbrev pub BytesRunsAgree : List ℕ → List ℕ → List ℕ → Type 0
BytesRunsAgree s ws vs = Agree ws vs (bytes_answers s ws) (bytes_answers s vs) (state_in (bytes_after s ws)) (state_in (bytes_after s vs))

-- and two list calls on bytes from one area, with the answer places xs and ys
abbrev pub BytesCallsAgree : List ℕ → List ℕ → List ℕ → List ℕ → List ℕ → Type 0
BytesCallsAgree s ws vs xs ys = Agree ws vs (run_places s ws xs) (run_places s vs ys) (state_in (run_area s ws xs)) (state_in (run_area s vs ys))
