-- `list_call::advance_all` meets its contract.
-- Assumes nothing.
use mathlib.Core.Path.{refl, ap}
use borrow.Author.Tests.{lt-ltb, le-ltb}
use Rattle.chip.specs.declared.Chip.{Chip}
use Rattle.list_call.specs.Run.{run_result}
use Rattle.list_call.proofs.advance_all.Goals as goal

pub returns-then-answers-words : goal.returns-then-answers-words
returns-then-answers-words c = simp (lt-ltb _ _ c.if-answers-words.true) (refl, refl)

pub returns-else-answers-words : goal.returns-else-answers-words
returns-else-answers-words c = simp (le-ltb _ _ c.if-answers-words.false)
    (ap (λ (s : Chip). run_result s 0) c.run_all-s.ensures.0, c.run_all-s.ensures.1)
