-- `listing_lines::counted` meets its contract.
-- Assumes nothing.
use borrow.Author.Tests.{lt-ltb, le-ltb}
use Rattle.listing_lines.specs.Line.{counted}
use Rattle.listing_lines.proofs.counted.Goals as goal

pub returns-then-n-lt10000 : goal.returns-then-n-lt10000
unfolding counted
returns-then-n-lt10000 c = simp (lt-ltb _ _ c.if-n-lt10000.true, lt-ltb _ _ c.if-d-lt10.true)

pub returns-else-n-lt10000 : goal.returns-else-n-lt10000
unfolding counted
returns-else-n-lt10000 c = simp (le-ltb _ _ c.if-n-lt10000.false, lt-ltb _ _ c.if-d-lt10.true)

pub returns-else-d-lt10 : goal.returns-else-d-lt10
unfolding counted
returns-else-d-lt10 c = simp (le-ltb _ _ c.if-d-lt10.false)
