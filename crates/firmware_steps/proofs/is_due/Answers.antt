-- `firmware_steps::is_due` meets its contract.
-- Assumes nothing.
use borrow.Author.Tests.{eq-eqb, ne_eqb}
use Rattle.firmware_steps.specs.Steps.{is_due}
use borrow.Author.Rules.{rules}
use Rattle.firmware_steps.proofs.is_due.Goals as goal

pub requests-requires : goal.requests-requires
unfolding is_due
requests-requires c = search rules

pub returns-then-requests-eq0 : goal.returns-then-requests-eq0
unfolding is_due
returns-then-requests-eq0 c = simp (← c.requests.ensures, eq-eqb _ _ c.if-requests-eq0.true, c.if-core.true)

pub returns-else-requests-eq0 : goal.returns-else-requests-eq0
unfolding is_due
returns-else-requests-eq0 c = simp (← c.requests.ensures, ne_eqb _ _ c.if-requests-eq0.false, c.if-core.true)

pub returns-else-core : goal.returns-else-core
unfolding is_due
returns-else-core c = simp c.if-core.false
