use mathlib.Core.Path.{refl}
use Rattle.cpu_instruction.proofs.Performs.{perform_leaves, perform_reads}
use Rattle.cpu_execution.specs.Execution.{destination, stored, executed_to}
use borrow.Author.Rules.{rules}
use Rattle.cpu_execution.proofs.read_at.Goals as goal

pub num-k-requires : goal.num-k-requires
unfolding destination stored executed_to
num-k-requires c = search rules

pub load-p-requires : goal.load-p-requires
unfolding destination stored executed_to
load-p-requires c = search rules

pub read_operation-d-requires : goal.read_operation-d-requires
unfolding destination stored executed_to
read_operation-d-requires c = search rules

pub returns-in-Byte : goal.returns-in-Byte
unfolding destination stored executed_to
returns-in-Byte c = simp (perform_reads, perform_leaves, c.read_operation-d.ensures, c.in-Byte.is, ← c.load-p.ensures.0, c.num-k.ensures.0) (refl, refl)

pub returns-in-Refused : goal.returns-in-Refused
unfolding destination stored executed_to
returns-in-Refused c = simp (perform_reads, perform_leaves, c.in-Refused.is, ← c.load-p.ensures.0) (refl, refl)
