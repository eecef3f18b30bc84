-- `listing::given_at` meets its contract.
-- Assumes nothing.
use Rattle.listing.specs.Listing.{given_at}
use borrow.Author.Rules.{rules}
use Rattle.listing.proofs.given_at.Goals as goal

pub given-requires : goal.given-requires
unfolding given_at
given-requires c = search rules

pub returns-in-Agrees : goal.returns-in-Agrees
unfolding given_at
returns-in-Agrees c = simp (c.given.ensures, c.in-Agrees.is)

pub returns-in-Malformed : goal.returns-in-Malformed
unfolding given_at
returns-in-Malformed c = simp c.in-Malformed.is

pub returns-in-Differs : goal.returns-in-Differs
unfolding given_at
returns-in-Differs c = simp c.in-Differs.is

pub returns-in-Empty : goal.returns-in-Empty
unfolding given_at
returns-in-Empty c = simp c.in-Empty.is
