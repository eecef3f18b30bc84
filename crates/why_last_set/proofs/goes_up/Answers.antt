-- `why_last_set::goes_up` meets its contract.
-- Assumes nothing.
use Rattle.why_last_set.specs.LastSet.{goes_up}
use borrow.Author.Rules.{rules}
use Rattle.why_last_set.proofs.goes_up.Goals as goal

pub bit-requires : goal.bit-requires
unfolding goes_up
bit-requires c = search rules

pub bit-requires-2 : goal.bit-requires-2
unfolding goes_up
bit-requires-2 c = search rules

pub returns : goal.returns
unfolding goes_up
returns c = simp (c.bit-2.ensures, c.bit.ensures)
