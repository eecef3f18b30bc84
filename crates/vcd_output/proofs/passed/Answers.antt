-- `vcd_output::passed` meets its contract.
-- Assumes nothing.
use Prim.Native.Nat.{◌-◌}
use Rattle.vcd_output.proofs.Writing.{pass_more, pass_none, pass_end}
use mathlib.Core.Path.{◌≡◌, ◌∙◌}
use native.Mathlib.Omega.{arith}
use borrow.Author.Rules.{rules}
use Rattle.vcd_output.proofs.passed.Goals as goal

pub loop-i-init : goal.loop-i-init
loop-i-init c =
    let z : c.args.done - 0 ≡ c.args.done = omega arith in (search rules, λ high. rw z)

pub returns-then-rest-eq0 : goal.returns-then-rest-eq0
returns-then-rest-eq0 c = λ high. pass_none _ high c.loop-i.i _ (search rules) (omega arith) c.if-rest-eq0.true ∙ c.loop-i.invariant.1 high

pub loop-i-preserved : goal.loop-i-preserved
loop-i-preserved c = (search rules, λ high. pass_more c.loop-i.rest high c.loop-i.i _ (search rules) (omega arith) c.if-rest-eq0.false ∙ c.loop-i.invariant.1 high)

pub returns : goal.returns
returns c = λ high. pass_end _ high c.loop-i.i _ (search rules) (search rules) ∙ c.loop-i.invariant.1 high
