use mathlib.Core.Path.{refl}
use Rattle.cpu_instruction.proofs.Performs.{perform_reads}
use Rattle.cpu_execution.proofs.rti.Goals as goal

pub returns-in-Byte : goal.returns-in-Byte
returns-in-Byte c = simp (perform_reads, c.rti_with.ensures.0, c.rti_with.ensures.1, c.in-Byte.is, ← c.load-p.ensures.0, ← c.stack.ensures, ← c.above-s.ensures) (refl, refl)

pub returns-in-Refused : goal.returns-in-Refused
returns-in-Refused c = simp (perform_reads, c.in-Refused.is, ← c.load-p.ensures.0, ← c.stack.ensures, ← c.above-s.ensures) (refl, refl)
