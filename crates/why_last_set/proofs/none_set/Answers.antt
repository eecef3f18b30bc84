-- `why_last_set::none_set` meets its contract.
-- Assumes nothing.
use Rattle.why_last_set.specs.LastSet.{none_set}
use borrow.Author.Rules.{rules}
use Rattle.why_last_set.proofs.none_set.Goals as goal

pub returns : goal.returns
unfolding none_set
returns c = search rules
