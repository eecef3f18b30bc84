-- A run between two events.
use Rattle.std.specs.Prelude.{ℕ, ◌≤◌, ◌≡◌, List, [], ◌∷◌, eqb}
use Rattle.bits.specs.Byte.{pick}
use Rattle.firmware_machine.specs.Machine.{Machine, machine}
use Rattle.firmware_machine.specs.Run.{number_of, after_events, answers_before, left, Ended}

-- no event of the list has a number below this one
pub data Later (to : ℕ) : List ℕ → Type 0 where
  none : Later to []
  next_at_lem : (e : ℕ) (es : List ℕ) → to ≤ number_of e → Later to (e ∷ es)

-- no event is given before instruction i
pub record Idle (rom : List ℕ) (i : ℕ) (es : List ℕ) (m : Machine) : Type 0 where
  pub state : after_events rom i es m ≡ m
  pub answers : answers_before rom i es m ≡ []
  pub rest : left i es ≡ es

-- an end that is no refusal goes on
abbrev pub on_ended : Ended → (ℕ → Machine → Ended) → Ended
on_ended e f = pick (eqb e.number 0) (f e.next e.machine) e
