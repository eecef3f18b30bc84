use Rattle.cpu_execution.specs.Execution.{stored}
use borrow.Author.Rules.{rules}
use Rattle.cpu_execution.proofs.push_two.Goals as goal

pub stack_place-i-requires : goal.stack_place-i-requires
unfolding stored
stack_place-i-requires c = search rules

pub below-requires : goal.below-requires
unfolding stored
below-requires c = search rules

pub stack_place-j-requires : goal.stack_place-j-requires
unfolding stored
stack_place-j-requires c = search rules

pub returns : goal.returns
unfolding stored
returns c = simp (c.stack_place-j.ensures.0, c.below.ensures, c.stack_place-i.ensures.0)
