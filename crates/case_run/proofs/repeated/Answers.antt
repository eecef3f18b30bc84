-- `case_run::repeated` meets its contract.
use mathlib.Core.Path.{refl, sym, ap, ◌∙◌}
use Rattle.std.proofs.Common.{◌≡◌, ◌-◌, ◌+◌, arith}
use Rattle.case_run.specs.declared.Progress.{Progress}
use Rattle.case_run.specs.Run.{repeated}
use Rattle.case_run.proofs.Reading.{once, stays, none}
use Rattle.case_run.proofs.repeated.Goals as goal

pub loop-i-init : goal.loop-i-init
loop-i-init c = let z : c.args.times - 0 ≡ c.args.times = omega arith in rw z refl

pub loop-i-preserved : goal.loop-i-preserved
loop-i-preserved c =
    let args = c.args in
    let left : args.times - (c.loop-i._i + 1) ≡ args.times - c.loop-i._i - 1 = omega arith in
    rw left
    (ap (λ (p : Progress). repeated (args.times - c.loop-i._i - 1) p args.word args.expected) c.given-p.ensures
    ∙ once (args.times - c.loop-i._i) c.loop-i.p args.word args.expected (omega arith) (sym c.if-not-goes_on.ensures)
    ∙ c.loop-i.invariant)

pub returns-then-not-goes_on : goal.returns-then-not-goes_on
returns-then-not-goes_on c = stays (c.args.times - c.loop-i._i) _ _ _ (sym c.if-not-goes_on.ensures) ∙ c.loop-i.invariant

pub returns : goal.returns
returns c = none (c.args.times - c.loop-i._i) _ _ _ (omega arith) ∙ c.loop-i.invariant
