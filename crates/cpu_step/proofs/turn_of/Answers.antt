-- number and values of the case of a turn, from what became of the instruction
use Prim.Native.Nat.{ℕ, ◌+◌, ◌-◌, ◌%◌}
use mathlib.Core.Path.{◌≡◌, refl, ap}
use mathlib.Core.Bool.{Bool, true, false}
use native.Mathlib.Omega.{arith}
use lib.Dec.{ltb}
use borrow.Author.Tests.{ltb-false}
use Rattle.bits.specs.Byte.{pick}
use Rattle.cpu_operations.specs.declared.Cpu.{Cpu}
use Rattle.cpu_memory.specs.Reads.{Result}
use Rattle.cpu_instruction.specs.declared.Effect.{Effect}
use Rattle.cpu_execution.specs.declared.Executed.{Executed}
use Rattle.cpu_execution.specs.declared.Executed.TheVariants as executed
use Rattle.cpu_execution.specs.Execution.{executed_with}
use Rattle.cpu_step.specs.declared.Turn.{Turn}
use Rattle.cpu_step.specs.declared.Turn.TheVariants as turn
use Rattle.cpu_step.proofs.Turns.{turn_with_lem}
use Rattle.cpu_step.specs.InstructionTurn.{turn_from, turn_with, turn_of, ram_after, turn_number, number_from, TurnValues, TurnCase}
use Rattle.cpu_operations.specs.Operations.{set_over}
use borrow.Author.Rules.{rules}
use Rattle.cpu_step.proofs.turn_of.Goals as goal

abbrev Case : Bool → Executed → Turn → Type 0
Case i y t = (turn_number t ≡ number_from i y) × TurnValues i y t

case_done : (c : Cpu) (n : ℕ) (b : Bool) → ltb (c.over + n) 32 ≡ b
    → Case false (executed.Done c n) (pick b (turn.On (set_over ((c.over + n) % 32) c)) (turn.Clock (set_over ((c.over + n) % 32) c)))
case_done c n true h = (refl, (c, n, refl, refl, h))
case_done c n false h = (refl, (c, n, refl, refl, h))

case_refused : (n : ℕ) (b : Bool) → ltb n 64 ≡ b → Case false (executed.Refused n) (pick b (turn.Refused n) (turn.NotCached (n - 64)))
case_refused n true h = (rw h, refl)
case_refused n false h =
    let z : n ≡ 64 + (n - 64) = omega (arith, ltb-false n 64 h) in
    (rw h, ap executed.Refused z)

case_from : (y : Executed) → Case false y (turn_from y)
unfolding turn_from
case_from (executed.Done c n) = case_done c n (ltb (c.over + n) 32) refl
case_from (executed.Write c n r b) = (refl, refl)
case_from (executed.Refused n) = case_refused n (ltb n 64) refl

case_by : (i : Bool) (x : Result Effect) → Case i (executed_with x) (pick i turn.Interrupt (turn_with x))
case_by true x = (refl, refl)
case_by false x = rw (← (turn_with_lem x)) (case_from (executed_with x))

says : (i : Bool) (x : Result Effect) (t : Turn) → t ≡ pick i turn.Interrupt (turn_with x) → TurnCase i x t
says i x t h =
    let c : Case i (executed_with x) t = rw h (case_by i x) in
    record { number = c.0; values = c.1 }

pub is_interrupted-requires : goal.is_interrupted-requires
unfolding turn_of ram_after
is_interrupted-requires c = search rules

pub instruction_at-x-requires : goal.instruction_at-x-requires
unfolding turn_of ram_after
instruction_at-x-requires c = search rules

pub turn_from-requires : goal.turn_from-requires
unfolding turn_of ram_after
turn_from-requires c = search rules

pub returns-then-is_interrupted : goal.returns-then-is_interrupted
unfolding turn_of ram_after
returns-then-is_interrupted c =
    let b = c.is_interrupted.ensures in
    (simp (← b, c.if-is_interrupted.true), simp (← b, c.if-is_interrupted.true), says _ _ _ (simp (← b, c.if-is_interrupted.true)))

pub returns-else-is_interrupted : goal.returns-else-is_interrupted
unfolding turn_of ram_after
returns-else-is_interrupted c =
    let b = c.is_interrupted.ensures in
    let no = c.if-is_interrupted.false in
    let x = c.instruction_at-x.ensures in
    (simp (← b, no, c.turn_from.ensures, x.0, turn_with_lem), simp (← b, no, x.1), says _ _ _ (simp (← b, no, c.turn_from.ensures, x.0, turn_with_lem)))
