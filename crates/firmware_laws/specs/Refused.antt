-- The numbers of a run and of the firmware call, and a run that is refused at an instruction.
use Rattle.std.specs.Prelude.{ℕ, ◌<◌, ◌≡◌, true, false, List, eqb}
use Rattle.chip.specs.declared.Chip.{Chip}
use Rattle.cpu_operations.specs.declared.Cpu.{Cpu}
use Rattle.firmware_machine.specs.Machine.{Machine, machine}
use Rattle.firmware_machine.specs.Run.{runs, called, firmware}
use Rattle.firmware_laws.specs.Refusals.{turn_number, machine_past, refused_past}

-- the numbers that an instruction is refused with
pub data RefusedNumber : ℕ → Type 0 where
  write_only_lem : RefusedNumber 5
  read_only : RefusedNumber 6
  not_documented : RefusedNumber 20
  not_mapped : RefusedNumber 21

-- the numbers that a run ends with
pub data RunNumber : ℕ → Type 0 where
  none : RunNumber 0
  refusal : {n : ℕ} → RefusedNumber n → RunNumber n

-- a run of n instructions is refused at the one behind its first k
pub record Refused (n i : ℕ) (rom es : List ℕ) (m : Machine) : Type 0 where
  pub k : ℕ
  pub inside : k < n
  pub before : eqb (runs k i rom es m).number 0 ≡ true
  pub fails : eqb (turn_number rom (machine_past k i rom es m)) 0 ≡ false
  pub is : runs n i rom es m ≡ refused_past k i rom es m

-- a call for n instructions is refused at the one behind its first k
pub record RefusedCall (c : Cpu) (ram rom : List ℕ) (x : Chip) (es places : List ℕ) (n : ℕ) : Type 0 where
  pub k : ℕ
  pub inside : k < n
  pub before : (firmware c ram rom x es places k).number ≡ 0
  pub fails : eqb (turn_number rom (machine_past k 0 rom es (machine c ram x))) 0 ≡ false
  pub is : firmware c ram rom x es places n ≡ called (refused_past k 0 rom es (machine c ram x)) places
