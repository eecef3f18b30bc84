-- `why_last_set::last_at` meets its contract.
-- Assumes nothing.
use Rattle.why_last_set.specs.LastSet.{last_at}
use Rattle.why_last_set.proofs.last_at.Goals as goal

pub returns-then-up : goal.returns-then-up
unfolding last_at
returns-then-up c = simp c.if-up.true

pub returns-else-up : goal.returns-else-up
unfolding last_at
returns-else-up c = simp c.if-up.false
