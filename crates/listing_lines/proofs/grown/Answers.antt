-- `listing_lines::grown` meets its contract.
-- Assumes nothing.
use borrow.Author.Tests.{lt-ltb, le-ltb}
use Rattle.listing_lines.specs.Line.{grown}
use borrow.Author.Rules.{rules}
use Rattle.listing_lines.proofs.grown.Goals as goal

pub counted-requires : goal.counted-requires
unfolding grown
counted-requires c = search rules

pub returns-then-r-lt8 : goal.returns-then-r-lt8
unfolding grown
returns-then-r-lt8 c = simp (c.counted.ensures, lt-ltb _ _ c.if-r-lt8.true)

pub returns-else-r-lt8 : goal.returns-else-r-lt8
unfolding grown
returns-else-r-lt8 c = simp (le-ltb _ _ c.if-r-lt8.false)
