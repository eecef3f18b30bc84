-- `listing::given` meets its contract.
-- Assumes nothing.
use mathlib.Core.Path.{ap, ◌∙◌}
use Rattle.step.specs.Step.{advance}
use Rattle.listing.proofs.Reading.{same, other}
use Rattle.listing.proofs.given.Goals as goal

pub returns-then-done-expected : goal.returns-then-done-expected
returns-then-done-expected c = rw c.one_more.ensures
    (same _ _ _ _ (c.advance-done.ensures ∙ ap (advance _) c.decode.ensures.0) c.if-done-expected.true)

pub returns-else-done-expected : goal.returns-else-done-expected
returns-else-done-expected c = c.stopped.ensures
    ∙ other _ _ _ _ (c.advance-done.ensures ∙ ap (advance _) c.decode.ensures.0) c.if-done-expected.false
