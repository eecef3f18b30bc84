-- `why_reasons::next_place` meets its contract.
-- Assumes nothing.
use Rattle.why_reasons.specs.Explain.{next_place}
use borrow.Author.Tests.{lt-ltb, le-ltb}
use Rattle.why_reasons.proofs.next_place.Goals as goal

pub returns-then-place-lt18446744073709551615 : goal.returns-then-place-lt18446744073709551615
unfolding next_place
returns-then-place-lt18446744073709551615 c = simp (lt-ltb _ _ c.if-place-lt18446744073709551615.true)

pub returns-else-place-lt18446744073709551615 : goal.returns-else-place-lt18446744073709551615
unfolding next_place
returns-else-place-lt18446744073709551615 c = simp (le-ltb _ _ c.if-place-lt18446744073709551615.false)
