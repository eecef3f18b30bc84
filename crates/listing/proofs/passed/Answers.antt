-- `listing::passed` meets its contract.
-- Assumes nothing.
use borrow.Author.Tests.{eq-eqb, ne_eqb}
use Rattle.listing.specs.Listing.{taken}
use borrow.Author.Rules.{rules}
use Rattle.listing.proofs.passed.Goals as goal

pub next_line-requires : goal.next_line-requires
unfolding taken
next_line-requires c = search rules

pub within-requires : goal.within-requires
unfolding taken
within-requires c = search rules

pub returns-then-b-eq10 : goal.returns-then-b-eq10
unfolding taken
returns-then-b-eq10 c = simp (c.next_line.ensures, eq-eqb _ _ c.if-b-eq10.true)

pub returns-else-b-eq10 : goal.returns-else-b-eq10
unfolding taken
returns-else-b-eq10 c = simp (c.within.ensures, ne_eqb _ _ c.if-b-eq10.false)
