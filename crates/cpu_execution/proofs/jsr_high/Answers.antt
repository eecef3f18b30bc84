use mathlib.Core.Path.{refl}
use Rattle.cpu_instruction.proofs.Performs.{perform_leaves, perform_reads, perform_pushes}
use Rattle.cpu_execution.specs.Execution.{destination, executed_to}
use borrow.Author.Rules.{rules}
use Rattle.cpu_execution.proofs.jsr_high.Goals as goal

pub ahead-r-requires : goal.ahead-r-requires
unfolding destination executed_to
ahead-r-requires c = search rules

pub high-u-requires : goal.high-u-requires
unfolding destination executed_to
high-u-requires c = search rules

pub low-v-requires : goal.low-v-requires
unfolding destination executed_to
low-v-requires c = search rules

pub below-requires : goal.below-requires
unfolding destination executed_to
below-requires c = search rules

pub below-t-requires : goal.below-t-requires
unfolding destination executed_to
below-t-requires c = search rules

pub load_after_push-p-requires : goal.load_after_push-p-requires
unfolding destination executed_to
load_after_push-p-requires c = search rules

pub joined-requires : goal.joined-requires
unfolding destination executed_to
joined-requires c = search rules

pub jumped-d-requires : goal.jumped-d-requires
unfolding destination executed_to
jumped-d-requires c = search rules

pub push_two-requires : goal.push_two-requires
unfolding destination executed_to
push_two-requires c = search rules

pub returns-in-Byte : goal.returns-in-Byte
unfolding destination executed_to
returns-in-Byte c = simp (perform_pushes, perform_reads, perform_leaves, c.push_two.ensures, c.jumped-d.ensures, c.joined.ensures, ← c.ahead-r.ensures, ← c.high-u.ensures, ← c.low-v.ensures, ← c.load_after_push-p.ensures.0, c.in-Byte.is, c.below-t.ensures, c.below.ensures) (refl, refl)

pub returns-in-Refused : goal.returns-in-Refused
unfolding destination executed_to
returns-in-Refused c = simp (perform_pushes, perform_reads, perform_leaves, ← c.ahead-r.ensures, ← c.high-u.ensures, ← c.low-v.ensures, ← c.load_after_push-p.ensures.0, c.in-Refused.is) (refl, refl)
