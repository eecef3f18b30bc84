-- `edid_check::input_verdict` meets its contract.
-- Assumes nothing.
use borrow.Author.Rules.{rules}
use borrow.Author.Tests.{eq-eqb, ne_eqb}
use Rattle.edid_check.specs.Edid.{input_verdict}
use Rattle.edid_check.proofs.input_verdict.Goals as goal

pub input_by_3-requires : goal.input_by_3-requires
unfolding input_verdict
input_by_3-requires c = search rules

pub input_by_4-requires : goal.input_by_4-requires
unfolding input_verdict
input_by_4-requires c = search rules

pub returns-then-revision-eq3 : goal.returns-then-revision-eq3
unfolding input_verdict
returns-then-revision-eq3 c = simp (c.input_by_3.ensures, eq-eqb _ _ c.if-revision-eq3.true)

pub returns-else-revision-eq3 : goal.returns-else-revision-eq3
unfolding input_verdict
returns-else-revision-eq3 c = simp (c.input_by_4.ensures, ne_eqb _ _ c.if-revision-eq3.false)
