use mathlib.Core.Path.{refl}
use Rattle.cpu_instruction.proofs.Performs.{perform_leaves, perform_then}
use Rattle.cpu_execution.specs.Execution.{destination, stored, executed_to}
use borrow.Author.Rules.{rules}
use Rattle.cpu_execution.proofs.rts.Goals as goal

pub above-s-requires : goal.above-s-requires
unfolding destination stored executed_to
above-s-requires c = search rules

pub above-t-requires : goal.above-t-requires
unfolding destination stored executed_to
above-t-requires c = search rules

pub stack-requires : goal.stack-requires
unfolding destination stored executed_to
stack-requires c = search rules

pub stack-requires-2 : goal.stack-requires-2
unfolding destination stored executed_to
stack-requires-2 c = search rules

pub word_at-p-requires : goal.word_at-p-requires
unfolding destination stored executed_to
word_at-p-requires c = search rules

pub ahead-requires : goal.ahead-requires
unfolding destination stored executed_to
ahead-requires c = search rules

pub jumped-d-requires : goal.jumped-d-requires
unfolding destination stored executed_to
jumped-d-requires c = search rules

pub returns-in-Value : goal.returns-in-Value
unfolding destination stored executed_to
returns-in-Value c = simp (perform_then, perform_leaves, c.jumped-d.ensures, c.ahead.ensures, c.in-Value.is, ← c.word_at-p.ensures.values, ← c.stack-2.ensures, ← c.stack.ensures, ← c.above-t.ensures, ← c.above-s.ensures) (refl, refl)

pub returns-in-Refused : goal.returns-in-Refused
unfolding destination stored executed_to
returns-in-Refused c = simp (perform_then, perform_leaves, c.in-Refused.is, ← c.word_at-p.ensures.values, ← c.stack-2.ensures, ← c.stack.ensures, ← c.above-t.ensures, ← c.above-s.ensures) (refl, refl)
