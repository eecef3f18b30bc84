-- `replay_text::left_over_answer` meets its contract.
-- Assumes nothing.
use mathlib.Core.Bool.{false}
use mathlib.Core.Path.{ap, ◌∙◌}
use Prim.Native.Nat.{ℕ}
use Rattle.answers.specs.Answer.{answer_word}
use Rattle.replay_text.proofs.left_over_answer.Goals as goal

pub returns : goal.returns
returns c = c.answer.ensures ∙ ap (λ (n : ℕ). answer_word 1 false n 0) c.requests.ensures
