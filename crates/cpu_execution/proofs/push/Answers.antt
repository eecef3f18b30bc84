use mathlib.Core.Path.{refl}
use Rattle.cpu_execution.specs.Execution.{stored}
use borrow.Author.Rules.{rules}
use Rattle.cpu_execution.proofs.push.Goals as goal

pub stack_place-i-requires : goal.stack_place-i-requires
unfolding stored
stack_place-i-requires c = search rules

pub below-requires : goal.below-requires
unfolding stored
below-requires c = search rules

pub set_s-d-requires : goal.set_s-d-requires
unfolding stored
set_s-d-requires c = search rules

pub returns : goal.returns
unfolding stored
returns c = simp (c.set_s-d.ensures, c.below.ensures, c.stack_place-i.ensures.0) (refl, refl)
