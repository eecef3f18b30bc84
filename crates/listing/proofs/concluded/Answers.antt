-- `listing::concluded` meets its contract.
-- Assumes nothing.
use borrow.Author.Tests.{eq-eqb, ne_eqb}
use Rattle.listing.specs.Listing.{concluded}
use borrow.Author.Rules.{rules}
use Rattle.listing.proofs.concluded.Goals as goal

pub stopped-requires : goal.stopped-requires
unfolding concluded
stopped-requires c = search rules

pub returns-then-p-eq0 : goal.returns-then-p-eq0
unfolding concluded
returns-then-p-eq0 c = simp (c.stopped.ensures, eq-eqb _ _ c.if-p-eq0.true, c.in-Agrees.is)

pub returns-else-p-eq0 : goal.returns-else-p-eq0
unfolding concluded
returns-else-p-eq0 c = simp (ne_eqb _ _ c.if-p-eq0.false, c.in-Agrees.is)

pub returns-in-Malformed : goal.returns-in-Malformed
unfolding concluded
returns-in-Malformed c = simp c.in-Malformed.is

pub returns-in-Differs : goal.returns-in-Differs
unfolding concluded
returns-in-Differs c = simp c.in-Differs.is

pub returns-in-Empty : goal.returns-in-Empty
unfolding concluded
returns-in-Empty c = simp c.in-Empty.is
