-- `why_last_set::address_at` meets its contract.
-- Assumes nothing.
use Rattle.why_last_set.specs.LastSet.{address_at}
use borrow.Author.Rules.{rules}
use Rattle.why_last_set.proofs.address_at.Goals as goal

pub last_at-requires : goal.last_at-requires
unfolding address_at
last_at-requires c = search rules

pub returns-in-None : goal.returns-in-None
unfolding address_at
returns-in-None c = simp c.in-None.is

pub returns-in-Own : goal.returns-in-Own
unfolding address_at
returns-in-Own c = simp (c.last_at.ensures, c.in-Own.is)
