-- `why_reasons::why` meets its contract.
-- Assumes nothing.
use mathlib.Core.Path.{sym, ◌∙◌}
use native.Mathlib.Omega.{arith}
use Rattle.why_reasons.specs.Explain.{why, WhyValues}
use Rattle.why_reasons.proofs.Whole.{whole}
use Rattle.why_reasons.proofs.why.Goals as goal

pub returns-then-well_formed : goal.returns-then-well_formed
unfolding why WhyValues
returns-then-well_formed c =
    let formed = sym c.well_formed-2.ensures ∙ c.if-well_formed.true in
    let all = whole c.args.c c.args.words.now (omega (arith, c.well_formed.1.0.0)) in
    let after = c.reasons_after.ensures in
    let passed = c.follow.ensures in
    let begun = c.start.ensures in
    (simp (formed, after, passed, begun, all), record { number = simp formed; values = (formed, simp (after, passed, begun, all)) })

pub returns-else-well_formed : goal.returns-else-well_formed
unfolding why WhyValues
returns-else-well_formed c =
    let formed = sym c.well_formed-2.ensures ∙ c.if-well_formed.false in (simp formed, record { number = simp formed; values = formed })
