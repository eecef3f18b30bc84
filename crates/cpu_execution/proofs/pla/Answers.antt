use mathlib.Core.Path.{refl}
use Rattle.cpu_instruction.proofs.Performs.{perform_leaves, perform_reads}
use Rattle.cpu_execution.specs.Execution.{destination, stored, executed_to}
use borrow.Author.Rules.{rules}
use Rattle.cpu_execution.proofs.pla.Goals as goal

pub above-s-requires : goal.above-s-requires
unfolding destination stored executed_to
above-s-requires c = search rules

pub stack-requires : goal.stack-requires
unfolding destination stored executed_to
stack-requires c = search rules

pub load-p-requires : goal.load-p-requires
unfolding destination stored executed_to
load-p-requires c = search rules

pub nz-g-requires : goal.nz-g-requires
unfolding destination stored executed_to
nz-g-requires c = search rules

pub set_a-requires : goal.set_a-requires
unfolding destination stored executed_to
set_a-requires c = search rules

pub set_s-d-requires : goal.set_s-d-requires
unfolding destination stored executed_to
set_s-d-requires c = search rules

pub returns-in-Byte : goal.returns-in-Byte
unfolding destination stored executed_to
returns-in-Byte c = simp (perform_reads, perform_leaves, c.set_s-d.ensures, c.set_a.ensures, c.nz-g.ensures, c.in-Byte.is, ← c.load-p.ensures.0, ← c.stack.ensures, ← c.above-s.ensures) (refl, refl)

pub returns-in-Refused : goal.returns-in-Refused
unfolding destination stored executed_to
returns-in-Refused c = simp (perform_reads, perform_leaves, c.in-Refused.is, ← c.load-p.ensures.0, ← c.stack.ensures, ← c.above-s.ensures) (refl, refl)
