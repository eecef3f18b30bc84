use mathlib.Core.Path.{refl}
use native.Mathlib.Omega.{arith}
use Rattle.cpu_execution.specs.Execution.{destination, stored}
use borrow.Author.Rules.{rules}
use Rattle.cpu_execution.proofs.store_byte.Goals as goal

pub place_of-p-requires : goal.place_of-p-requires
unfolding destination stored
place_of-p-requires c = search rules

pub overflow_cast-result : goal.overflow_cast-result
unfolding destination stored
overflow_cast-result c = omega (arith, rw c.in-Register.is at c.place_of-p.ensures.1)

pub bounds-ram-i : goal.bounds-ram-i
unfolding destination stored
bounds-ram-i c = rw c.in-Ram.is at c.place_of-p.ensures.1

pub returns-in-Register : goal.returns-in-Register
unfolding destination stored
returns-in-Register c = simp (← c.place_of-p.ensures.0, c.in-Register.is) (refl, refl)

pub returns-in-Ram : goal.returns-in-Ram
unfolding destination stored
returns-in-Ram c = simp (← c.place_of-p.ensures.0, c.in-Ram.is) (refl, refl)

pub returns-in-Rom : goal.returns-in-Rom
unfolding destination stored
returns-in-Rom c = simp (← c.place_of-p.ensures.0, c.in-Rom.is) (refl, refl)

pub returns-in-Unmapped : goal.returns-in-Unmapped
unfolding destination stored
returns-in-Unmapped c = simp (← c.place_of-p.ensures.0, c.in-Unmapped.is) (refl, refl)
