-- The parts that a firmware call is made of, as the code has them: the chip is its array of stored registers and its core. What the call comes to is in the crate machine.
use Rattle.std.specs.Prelude.{ℕ, List, [], ◌∷◌, ltb}
use Rattle.bits.specs.Byte.{pick}
use Rattle.events.specs.Word.{decode}
use Rattle.chip.specs.declared.Chip.{Chip}
use Rattle.chip_events.specs.Outcome.{next, was_reset}
use Rattle.step.specs.Step.{answered}
use Rattle.cpu_operations.specs.declared.Cpu.{Cpu}
use Rattle.cpu_instruction.specs.Instruction.{reset_cpu}
use Rattle.firmware_machine.specs.Run.{number_of, Called}
use Rattle.firmware_run.specs.declared.FirmwareResult.{FirmwareResult}
use Rattle.firmware_run.specs.declared.Occurred.{Occurred}

-- what a call gives back, of what it comes to
abbrev pub result_of : Called → FirmwareResult
result_of c = record { number = c.number; cpu = c.cpu; chip = c.chip; counted = c.counted; given = c.given }

-- refused before anything runs
abbrev pub refused_result : ℕ → Cpu → Chip → FirmwareResult
refused_result n c k = record { number = n; cpu = c; chip = k; counted = 0; given = 0 }

-- a word given to the chip
unfoldable pub occurred_with : List ℕ → Cpu → Chip → ℕ → Occurred
occurred_with rom c k w = record { cpu = pick (was_reset k (decode w)) (reset_cpu rom c) c; core = (next k (decode w)).core; answer = answered k (decode w) }

-- the number of the instruction before which the next event is given, n where there is none before
unfoldable pub until : ℕ → List ℕ → ℕ
until n [] = n
until n (e ∷ es) = pick (ltb (number_of e) n) (number_of e) n
