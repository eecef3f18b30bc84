-- `why_reasons::start` meets its contract.
-- Assumes nothing.
use Rattle.why_reasons.specs.Explain.{start}
use borrow.Author.Rules.{rules}
use Rattle.why_reasons.proofs.start.Goals as goal

pub none_set-requires : goal.none_set-requires
unfolding start
none_set-requires c = search rules

pub returns : goal.returns
unfolding start
returns c = simp c.none_set.ensures
