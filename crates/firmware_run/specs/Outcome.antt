-- What the firmware call gives back, field by field.
use Rattle.std.specs.Prelude.{ℕ}
use Rattle.chip.specs.declared.Chip.{Chip}
use Rattle.cpu_operations.specs.declared.Cpu.{Cpu}
use Rattle.firmware_run.specs.declared.FirmwareResult.{FirmwareResult}

abbrev pub outcome : ℕ → Cpu → Chip → ℕ → ℕ → FirmwareResult
outcome x c k i given = record { number = x; cpu = c; chip = k; counted = i; given = given }
