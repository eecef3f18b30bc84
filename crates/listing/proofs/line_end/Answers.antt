-- `listing::line_end` meets its contract.
-- Assumes nothing.
use Rattle.listing.specs.Listing.{line_end}
use borrow.Author.Rules.{rules}
use Rattle.listing.proofs.line_end.Goals as goal

pub next_line-requires : goal.next_line-requires
unfolding line_end
next_line-requires c = search rules

pub returns-in-Agrees : goal.returns-in-Agrees
unfolding line_end
returns-in-Agrees c = simp (c.next_line.ensures, c.in-Agrees.is)

pub returns-in-Malformed : goal.returns-in-Malformed
unfolding line_end
returns-in-Malformed c = simp c.in-Malformed.is

pub returns-in-Differs : goal.returns-in-Differs
unfolding line_end
returns-in-Differs c = simp c.in-Differs.is

pub returns-in-Empty : goal.returns-in-Empty
unfolding line_end
returns-in-Empty c = simp c.in-Empty.is
