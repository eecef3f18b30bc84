-- When an interrupt is taken and what it leaves, and what a reset of the chip does to the CPU.
use Prim.Native.Nat.{ℕ}
use mathlib.Core.Path.{◌≡◌, refl, ap, ◌∙◌}
use mathlib.Core.Bool.{Bool, true, false, not, ◌&&◌, and-false}
use mathlib.Core.List.{List}
use lib.Dec.{eqb}
use Rattle.bits.specs.Byte.{pick}
use Rattle.std.specs.Prelude.{Ok}
use Rattle.events.specs.Clocks as clock
use Rattle.events.specs.declared.Event.TheVariants as event
use Rattle.events.specs.Word.{decode}
use Rattle.chip.specs.declared.Chip.{Chip}
use Rattle.chip.specs.State.{requests}
use Rattle.chip_events.specs.Outcome.{next, was_reset}
use Rattle.cpu_operations.specs.declared.Cpu.{Cpu}
use Rattle.cpu_instruction.specs.Instruction.{interrupted, reset_cpu}
use Rattle.cpu_step.specs.InstructionTurn.{stored, is_interrupted}
use Rattle.firmware_machine.specs.Machine.{Machine, machine, turned, instruct, is_requesting, interrupt_taken, after_interrupt, turn}
use Rattle.firmware_machine.specs.Run.{occurred}
use Rattle.firmware_machine.proofs.Interrupts.{interrupt_is}
use Rattle.firmware_laws.specs.Interrupts.{is_taken, interrupted_machine, turn_of, restarted_cpu}

-- ---- the interrupt

-- what it leaves
pub interrupt_leaves : (rom : List ℕ) (m : Machine) → interrupt_taken rom m ≡ interrupted_machine rom m
unfolding interrupted stored
interrupt_leaves rom m = interrupt_is rom m.cpu m.ram m.chip

wanted_by : (r i : Bool) (c : Cpu) → c.p.i ≡ i → is_interrupted r c ≡ (r && not i)
wanted_by true true c h = rw h
wanted_by true false c h = rw h
wanted_by false i c h = refl

wanted : (m : Machine) → is_interrupted (is_requesting m.chip) m.cpu ≡ (not (eqb (requests m.chip) 0) && not m.cpu.p.i)
unfolding is_requesting
wanted m = wanted_by (not (eqb (requests m.chip) 0)) m.cpu.p.i m.cpu refl

turn_by : (rom : List ℕ) (m x : Machine) (r b b' : Bool) → b ≡ b'
    → pick r (instruct rom (pick b x m)) (turned m 0) ≡ pick r (instruct rom (pick (r && b') x m)) (turned m 0)
turn_by rom m x true b b' h = rw h
turn_by rom m x false b b' h = refl

-- it is taken at RESET high, I clear and a request, and never otherwise
pub turn_is : (rom : List ℕ) (m : Machine) → turn rom m ≡ turn_of rom m
unfolding turn after_interrupt
turn_is rom m =
    turn_by rom m (interrupt_taken rom m) m.chip.core.reset (is_interrupted (is_requesting m.chip) m.cpu) (not (eqb (requests m.chip) 0) && not m.cpu.p.i) (wanted m)
    ∙ ap (λ (x : Machine). pick m.chip.core.reset (instruct rom (pick (is_taken m) x m)) (turned m 0)) (interrupt_leaves rom m)

-- with RESET low an instruction is counted and moves nothing
pub turn_low : (rom : List ℕ) (m : Machine) → m.chip.core.reset ≡ false → turn rom m ≡ turned m 0
unfolding turn
turn_low rom m h = rw h

-- ---- the reset

-- a listed event that resets the chip restarts the CPU; RAM stays
pub reset_restarts : (rom : List ℕ) (m : Machine) (w : ℕ) → was_reset m.chip (decode w) ≡ true → occurred rom m w ≡ machine (restarted_cpu rom m.cpu) m.ram (next m.chip (decode w))
unfolding occurred reset_cpu
reset_restarts rom m w h = rw h

-- any other leaves CPU and RAM
pub event_keeps : (rom : List ℕ) (m : Machine) (w : ℕ) → was_reset m.chip (decode w) ≡ false → occurred rom m w ≡ machine m.cpu m.ram (next m.chip (decode w))
unfolding occurred
event_keeps rom m w h = rw h

-- what an instruction gives the chip, a write or a clock of 8 µs, does not reset it
pub write_resets_not : (k : Chip) (r b : ℕ) → was_reset k (Ok (event.Write r b)) ≡ false
unfolding was_reset
write_resets_not k r b = refl

pub clock_resets_not : (k : Chip) → was_reset k (Ok (event.Clock clock.period)) ≡ false
unfolding was_reset
clock_resets_not k = and-false k.core.reset
