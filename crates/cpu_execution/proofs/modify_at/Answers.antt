use mathlib.Core.Path.{refl}
use Rattle.cpu_instruction.proofs.Performs.{perform_leaves, perform_reads}
use Rattle.cpu_execution.proofs.modify_at.Goals as goal

pub returns-in-Byte : goal.returns-in-Byte
returns-in-Byte c = simp (perform_reads, perform_leaves, c.put.ensures.0, c.put.ensures.1, c.set_p-d.ensures, c.modify_operation-q.ensures, c.in-Byte.is, ← c.load-p.ensures.0) (refl, refl)

pub returns-in-Refused : goal.returns-in-Refused
returns-in-Refused c = simp (perform_reads, perform_leaves, c.in-Refused.is, ← c.load-p.ensures.0) (refl, refl)
