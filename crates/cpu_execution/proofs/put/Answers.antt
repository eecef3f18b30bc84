use mathlib.Core.Path.{refl}
use Rattle.cpu_execution.specs.Execution.{executed_to}
use borrow.Author.Rules.{rules}
use Rattle.cpu_execution.proofs.put.Goals as goal

pub store_byte-k-requires : goal.store_byte-k-requires
unfolding executed_to
store_byte-k-requires c = search rules

pub returns-in-Ram : goal.returns-in-Ram
unfolding executed_to
returns-in-Ram c = simp (← c.store_byte-k.ensures.0, c.in-Ram.is, c.store_byte-k.ensures.1) (refl, refl)

pub returns-in-Register : goal.returns-in-Register
unfolding executed_to
returns-in-Register c = simp (← c.store_byte-k.ensures.0, c.in-Register.is, c.store_byte-k.ensures.1) (refl, refl)

pub returns-in-Refused : goal.returns-in-Refused
unfolding executed_to
returns-in-Refused c = simp (← c.store_byte-k.ensures.0, c.in-Refused.is, c.store_byte-k.ensures.1) (refl, refl)
