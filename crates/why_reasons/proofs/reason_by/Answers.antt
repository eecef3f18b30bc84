-- `why_reasons::reason_by` meets its contract.
-- Assumes nothing.
use Rattle.why_reasons.specs.Explain.{reason_by}
use Rattle.why_reasons.proofs.reason_by.Goals as goal

pub returns-in-Never : goal.returns-in-Never
unfolding reason_by
returns-in-Never c = simp (c.in-Never.is, c.if-requested.true)

pub returns-in-At : goal.returns-in-At
unfolding reason_by
returns-in-At c = simp (c.in-At.is, c.if-requested.true)

pub returns-else-requested : goal.returns-else-requested
unfolding reason_by
returns-else-requested c = simp c.if-requested.false
