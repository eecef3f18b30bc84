-- The interrupt: what it leaves, and that it may be taken apart from the instruction behind it.
use Prim.Native.Nat.{ℕ}
use mathlib.Core.Path.{◌≡◌, refl, ap, sym, ◌∙◌}
use mathlib.Core.Bool.{Bool, true, false}
use mathlib.Core.List.{List, []}
use lib.Dec.{ltb}
use Rattle.bits.specs.Byte.{pick}
use Rattle.std.specs.Prelude.{Ok}
use Rattle.events.specs.Clocks as clock
use Rattle.events.specs.declared.Event.TheVariants as event
use Rattle.chip.specs.declared.Chip.{Chip}
use Rattle.chip_clocks.specs.Clocks.{clocked, clocked_as, period_clock}
use Rattle.chip_events.specs.Outcome.{core_after, next}
use Rattle.cpu_operations.specs.declared.Cpu.{Cpu}
use Rattle.cpu_memory.specs.Memory.{place, after_push}
use Rattle.cpu_instruction.specs.Program.{and_then, perform}
use Rattle.cpu_instruction.specs.Instruction.{trap, interrupted}
use Rattle.cpu_execution.specs.Execution.{destination, stored}
use Rattle.cpu_step.specs.InstructionTurn.{cycles_with, counted, is_interrupted}
use Rattle.firmware_machine.specs.Machine.{Machine, machine, turned, load, clock_after, instruct, is_requesting, interrupt_taken, after_interrupt, turn}
use Rattle.firmware_machine.proofs.Instructions.{turn_plain}

-- PC and P are pushed, I is set, PC is loaded from FFFE, seven cycles are counted
pub interrupt_is : (rom : List ℕ) (c : Cpu) (ram : List ℕ) (k : Chip)
    → interrupt_taken rom (machine c ram k) ≡ machine (counted (interrupted rom c)) (stored ram (interrupted rom c).store) (clock_after (cycles_with (interrupted rom c)) k)
unfolding interrupt_taken perform and_then trap load place after_push interrupted destination
interrupt_is rom c ram k = refl

-- a clock of 8 µs leaves RESET high
clock_by : (b : Bool) (k : Chip) → k.core.reset ≡ true → (pick b k (next k (Ok (event.Clock clock.period)))).core.reset ≡ true
unfolding next core_after clocked clocked_as period_clock
clock_by true k h = h
clock_by false k h = rw h refl

pub clock_reset : (n : ℕ) (k : Chip) → k.core.reset ≡ true → (clock_after n k).core.reset ≡ true
clock_reset n k h = clock_by (ltb n 32) k h

not_taken : (b : Bool) (c : Cpu) → c.p.i ≡ true → is_interrupted b c ≡ false
not_taken true c h = rw h
not_taken false c h = refl

turn_both : (rom : List ℕ) (m x : Machine) (a b : Bool) → a ≡ true → b ≡ true → pick a (instruct rom (pick b x m)) (turned m 0) ≡ instruct rom x
turn_both rom m x a b h g = rw (h, g)

turn_taken : (rom : List ℕ) (m : Machine) → m.chip.core.reset ≡ true → is_interrupted (is_requesting m.chip) m.cpu ≡ true
    → turn rom m ≡ instruct rom (interrupt_taken rom m)
unfolding turn after_interrupt
turn_taken rom m h g = turn_both rom m (interrupt_taken rom m) m.chip.core.reset (is_interrupted (is_requesting m.chip) m.cpu) h g

pub interrupted_masks : (rom : List ℕ) (c : Cpu) → (counted (interrupted rom c)).p.i ≡ true
unfolding interrupted
interrupted_masks rom c = refl

-- the turn from behind the interrupt is the turn with it
pub interrupt_turn : (rom : List ℕ) (c : Cpu) (ram : List ℕ) (k : Chip) → k.core.reset ≡ true → is_interrupted (is_requesting k) c ≡ true
    → turn rom (machine c ram k) ≡ turn rom (interrupt_taken rom (machine c ram k))
interrupt_turn rom c ram k h g =
    let d = counted (interrupted rom c) in
    let l = clock_after (cycles_with (interrupted rom c)) k in
    let s = stored ram (interrupted rom c).store in
    turn_taken rom (machine c ram k) h g ∙ ap (instruct rom) (interrupt_is rom c ram k)
    ∙ sym (turn_plain [] d s l rom (clock_reset (cycles_with (interrupted rom c)) k h) (not_taken (is_requesting l) d (interrupted_masks rom c)))
    ∙ ap (turn rom) (sym (interrupt_is rom c ram k))
