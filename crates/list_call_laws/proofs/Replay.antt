-- What `replay` prints is the text of the step's answers, from a fresh chip.
-- Assumes nothing.
use Prim.Native.Nat.{ℕ}
use mathlib.Core.Path.{◌≡◌}
use mathlib.Core.List.{List, ◌++◌}
use Rattle.chip.specs.State.{fresh}
use Rattle.list_call.specs.Run.{after, answers}
use Rattle.recording_blocks.specs.Bytes.{words_of}
use Rattle.replay_text.specs.Text.{hex_lines, left_over, replay_text}
use Rattle.chip_laws.proofs.WellFormed.{fresh_well_formed}
use Rattle.list_call_laws.proofs.Runs.{after_advanced, answers_advanced}

pub replay_by_step : (bytes : List ℕ) → replay_text fresh bytes ≡ hex_lines (answers fresh (words_of bytes)) ++ left_over (after fresh (words_of bytes)) bytes
unfolding replay_text
replay_by_step bytes = rw (answers_advanced fresh (words_of bytes) fresh_well_formed, after_advanced fresh (words_of bytes) fresh_well_formed)
