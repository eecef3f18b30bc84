-- An instruction with its store, and then its cycles, is the turn.
use mathlib.Core.Path.{◌≡◌, refl}
use Rattle.cpu_memory.specs.Reads.{Result, gives, refuses}
use Rattle.cpu_instruction.specs.declared.Effect.{Effect}
use Rattle.cpu_execution.specs.declared.Destination.{Destination}
use Rattle.cpu_execution.specs.declared.Destination.TheVariants as to
use Rattle.cpu_execution.specs.Execution.{destination, executed_to, executed_with}
use Rattle.cpu_step.specs.InstructionTurn.{turn_from, turn_to, turn_with}

turn_to_lem : (k : Destination) (e : Effect) → turn_from (executed_to k e.cpu e.cycles) ≡ turn_to k e
unfolding executed_to turn_from turn_to
turn_to_lem to.Ram e = refl
turn_to_lem (to.Register r b) e = refl
turn_to_lem (to.Refused n) e = refl

pub turn_with_lem : (r : Result Effect) → turn_from (executed_with r) ≡ turn_with r
unfolding turn_from
turn_with_lem (gives e) = turn_to_lem (destination e.store) e
turn_with_lem (refuses n) = refl
