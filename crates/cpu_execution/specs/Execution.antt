-- An instruction with its store in RAM (document 02, Wish 5).
use Rattle.std.specs.Prelude.{ℕ, ◌≡◌, List, set}
use Rattle.cpu_operations.specs.declared.Cpu.{Cpu}
use Rattle.cpu_memory.specs.declared.Place.{Place}
use Rattle.cpu_memory.specs.declared.Place.TheVariants as at
use Rattle.cpu_memory.specs.declared.Store.{Store}
use Rattle.cpu_memory.specs.declared.Store.TheVariants.{Nothing, Byte, PushOne, PushTwo, PushThree}
use Rattle.cpu_memory.specs.Memory.{place, stack_place, below}
use Rattle.cpu_memory.specs.Reads.{Result, gives, refuses}
use Rattle.cpu_instruction.specs.declared.Effect.{Effect}
use Rattle.cpu_execution.specs.declared.Destination.{Destination}
use Rattle.cpu_execution.specs.declared.Destination.TheVariants as to
use Rattle.cpu_execution.specs.declared.Executed.{Executed}
use Rattle.cpu_execution.specs.declared.Executed.TheVariants as executed

-- ---- a store: where it goes, and RAM after it

-- a byte stored at a place: a register is the chip's; ROM and what is not mapped refuse with 21
abbrev pub destination_at : ℕ → Place → Destination
destination_at b (at.Register r) = to.Register r b
destination_at b (at.Ram i) = to.Ram
destination_at b (at.Rom i) = to.Refused 21
destination_at b at.Unmapped = to.Refused 21

abbrev pub stored_at : List ℕ → ℕ → Place → List ℕ
stored_at ram b (at.Register r) = ram
stored_at ram b (at.Ram i) = set ram i b
stored_at ram b (at.Rom i) = ram
stored_at ram b at.Unmapped = ram

unfoldable pub destination : Store → Destination
destination Nothing = to.Ram
destination (Byte a b) = destination_at b (place a)
destination (PushOne s b) = to.Ram
destination (PushTwo s b c) = to.Ram
destination (PushThree s b c d) = to.Ram

unfoldable pub stored : List ℕ → Store → List ℕ
stored ram Nothing = ram
stored ram (Byte a b) = stored_at ram b (place a)
stored ram (PushOne s b) = set ram (stack_place s) b
stored ram (PushTwo s b c) = set (set ram (stack_place s) b) (stack_place (below s)) c
stored ram (PushThree s b c d) = set (set (set ram (stack_place s) b) (stack_place (below s)) c) (stack_place (below (below s))) d

-- ---- an instruction and its store

-- what became of an instruction and its store: the CPU c and n cycles; a register to be written; or refused
unfoldable pub executed_to : Destination → Cpu → ℕ → Executed
executed_to to.Ram c n = executed.Done c n
executed_to (to.Register r b) c n = executed.Write c n r b
executed_to (to.Refused x) c n = executed.Refused x

abbrev pub executed_with : Result Effect → Executed
executed_with (gives e) = executed_to (destination e.store) e.cpu e.cycles
executed_with (refuses n) = executed.Refused n

-- RAM after it
abbrev pub ram_with : Result Effect → List ℕ → List ℕ
ram_with (gives e) ram = stored ram e.store
ram_with (refuses n) ram = ram

-- ---- number and values of each case

abbrev pub destination_number : Destination → ℕ
destination_number to.Ram = 0
destination_number (to.Register r b) = 0
destination_number (to.Refused n) = n

abbrev pub executed_number : Executed → ℕ
executed_number (executed.Done c n) = 0
executed_number (executed.Write c n r b) = 0
executed_number (executed.Refused n) = n

-- a store at a place is refused with 21 in ROM and where nothing is mapped; whether a register takes it is the chip's to say
abbrev pub store_number_at : Place → ℕ
store_number_at (at.Register r) = 0
store_number_at (at.Ram i) = 0
store_number_at (at.Rom i) = 21
store_number_at at.Unmapped = 21

-- and a push never is
abbrev pub store_number : Store → ℕ
store_number Nothing = 0
store_number (Byte a b) = store_number_at (place a)
store_number (PushOne s b) = 0
store_number (PushTwo s b c) = 0
store_number (PushThree s b c d) = 0

-- an instruction that leaves an effect has the number of its store
abbrev pub effect_number : Result Effect → ℕ
effect_number (gives e) = store_number e.store
effect_number (refuses n) = n

-- the register and the byte are those of the store
abbrev pub DestinationValues : Store → Destination → Type 0
DestinationValues t to.Ram = Unit {0}
DestinationValues t (to.Register r b) = (a : ℕ) × (t ≡ Byte a b) × (place a ≡ at.Register r)
DestinationValues t (to.Refused n) = Unit {0}

-- CPU, cycles, register and byte are those of the effect
abbrev pub ExecutedValues : Result Effect → Executed → Type 0
ExecutedValues x (executed.Done c n) = (e : Effect) × (x ≡ gives e) × (c ≡ e.cpu) × (n ≡ e.cycles)
ExecutedValues x (executed.Write c n r b) = (e : Effect) × (x ≡ gives e) × (c ≡ e.cpu) × (n ≡ e.cycles) × (destination e.store ≡ to.Register r b)
ExecutedValues x (executed.Refused n) = Unit {0}

pub record DestinationCase (t : Store) (d : Destination) : Type 0 where
  pub number : destination_number d ≡ store_number t
  pub values : DestinationValues t d

pub record ExecutedCase (x : Result Effect) (r : Executed) : Type 0 where
  pub number : executed_number r ≡ effect_number x
  pub values : ExecutedValues x r
