-- Cycles and 8 µs clocks of an instruction and of a run.
use Rattle.std.specs.Prelude.{ℕ, ◌+◌, ◌*◌, ◌<◌, ◌≡◌, List}
use Rattle.cpu_memory.specs.Reads.{Result, gives, refuses}
use Rattle.cpu_instruction.specs.declared.Effect.{Effect}
use Rattle.firmware_machine.specs.Machine.{Machine}
use Rattle.firmware_laws.specs.History.{Given, chip_after, clocks_in}

-- it keeps the cycles over, and takes at most nine cycles
abbrev pub Bounded : ℕ → Result Effect → Type 0
Bounded over (gives e) = (e.cpu.over ≡ over) × (e.cycles < 10)
Bounded over (refuses n) = Unit {0}

-- every 32 cycles are a clock, and fewer are over
pub record Balanced (before cycles clocks after : ℕ) : Type 0 where
  pub sum : before + cycles ≡ clocks * 32 + after
  pub small : after < 32

-- what is given from m on makes the chip and the cycles over of x
pub record Counted (m x : Machine) (cycles : ℕ) (s : List Given) : Type 0 where
  pub chip : chip_after m.chip s ≡ x.chip
  pub balance : Balanced m.cpu.over cycles (clocks_in s) x.cpu.over
