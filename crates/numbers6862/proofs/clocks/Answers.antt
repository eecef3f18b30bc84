-- `numbers6862::clocks` meets its contract: the clocks that are left, from here, come to what all of them come to.
use mathlib.Core.Path.{◌∙◌}
use Rattle.numbers6862.proofs.Times.{one_given, all_given}
use Rattle.numbers6862.proofs.clocks.Goals as goal

pub loop-preserved : goal.loop-preserved
loop-preserved c = one_given c.args.n c.loop.counter c.loop.s _ _ c.loop-test.true c.answer.ensures c.unwrap_or-s.ensures ∙ c.loop.invariant

pub returns : goal.returns
returns c = all_given c.args.n c.loop.counter c.loop.s c.loop-test.false ∙ c.loop.invariant
