-- Instructions with no event between, as the code has them: the chip is its array of stored registers and its core. What they come to is `runs` of the crate machine.
use Rattle.std.specs.Prelude.{ℕ, List, []}
use Rattle.chip.specs.declared.Core.{Core}
use Rattle.chip.specs.State.{chip_of}
use Rattle.cpu_operations.specs.declared.Cpu.{Cpu}
use Rattle.cpu_instruction.specs.Instruction.{interrupted}
use Rattle.cpu_step.specs.InstructionTurn.{cycles_with, counted}
use Rattle.firmware_machine.specs.Machine.{machine}
use Rattle.firmware_machine.specs.Run.{Ended, ended}
use Rattle.cpu_register_cache.specs.Cache.{core_after_cycles}
use Rattle.firmware_run.specs.declared.Interrupted.{Interrupted}
use Rattle.firmware_run.specs.declared.Settled.{Settled}

-- CPU and core after an interrupt, its cycles counted
abbrev pub after_interrupted : List ℕ → Core → Cpu → Interrupted
after_interrupted rom core c = record { cpu = counted (interrupted rom c); core = core_after_cycles (cycles_with (interrupted rom c)) core }

-- where instructions end, as the end of a run
abbrev pub settled_end : Settled → List ℕ → List ℕ → Ended
settled_end s ram registers = ended (machine s.cpu ram (chip_of registers s.core)) s.refusal s.number []
