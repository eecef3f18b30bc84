use mathlib.Core.Path.{refl}
use Rattle.cpu_instruction.proofs.Performs.{perform_trap}
use Rattle.cpu_execution.specs.Execution.{destination, stored, executed_to}
use borrow.Author.Rules.{rules}
use Rattle.cpu_execution.proofs.brk.Goals as goal

pub ahead-requires : goal.ahead-requires
unfolding destination stored executed_to
ahead-requires c = search rules

pub trap-e-requires : goal.trap-e-requires
unfolding destination stored executed_to
trap-e-requires c = search rules

pub commit-k-requires : goal.commit-k-requires
unfolding destination stored executed_to
commit-k-requires c = search rules

pub returns : goal.returns
unfolding destination stored executed_to
returns c = simp (perform_trap, c.commit-k.ensures.1, c.trap-e.ensures, c.ahead.ensures) (refl, refl)
