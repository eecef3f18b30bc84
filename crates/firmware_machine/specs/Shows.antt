-- What a turn by known registers says of the turn of the machine.
use Rattle.std.specs.Prelude.{ℕ, ◌+◌, ◌%◌, ◌≡◌, true, false, List, eqb, Ok}
use Rattle.bits.specs.Byte.{pick}
use Rattle.events.specs.Clocks as clock
use Rattle.events.specs.declared.Event.TheVariants as event
use Rattle.chip.specs.declared.Chip.{Chip}
use Rattle.chip_writes.specs.Writes.{write_number}
use Rattle.chip_events.specs.Outcome.{next}
use Rattle.cpu_operations.specs.declared.Cpu.{Cpu}
use Rattle.cpu_operations.specs.Operations.{set_over}
use Rattle.cpu_step.specs.declared.Turn.{Turn}
use Rattle.cpu_step.specs.declared.Turn.TheVariants.{On, Clock, Interrupt, Write, Refused, NotCached}
use Rattle.cpu_step.specs.InstructionTurn.{is_interrupted}
use Rattle.firmware_machine.specs.Machine.{Machine, machine, Turned, turned, clock_after, is_requesting}
use Rattle.firmware_machine.specs.Seen.{Waiting}

module _ (seen : List ℕ) (c : Cpu) (ram : List ℕ) (k : Chip) where
  -- an instruction of n cycles that writes a register, with the CPU q that it leaves
  abbrev pub written : Cpu → ℕ → ℕ → ℕ → Turned
  written q n r b =
      pick (eqb (write_number k.core.reset r) 0)
      (turned (machine (set_over ((q.over + n) % 32) q) ram (clock_after (q.over + n) (next k (Ok (event.Write r b))))) 0)
      (turned (machine c ram k) (write_number k.core.reset r))

  -- what a turn gives, with the RAM that it leaves, beside the turn of the machine
  abbrev pub Shows : Turn → List ℕ → Turned → Type 0
  Shows (On d) ram' t = t ≡ turned (machine d ram' k) 0
  Shows (Clock d) ram' t = t ≡ turned (machine d ram' (next k (Ok (event.Clock clock.period)))) 0
  Shows Interrupt ram' t = (ram' ≡ ram) × (is_interrupted (is_requesting k) c ≡ true)
  Shows (Write q n r b) ram' t = (ram' ≡ ram) × (t ≡ written q n r b)
  Shows (Refused n) ram' t = (ram' ≡ ram) × (eqb n 0 ≡ false) × (t ≡ turned (machine c ram k) n)
  Shows (NotCached r) ram' t = (ram' ≡ ram) × Waiting seen r
