-- Two machines of which one cannot be told from the other: what the accesses show the observer, and what two turns leave.
use Rattle.std.specs.Prelude.{Bool, true, ◌&&◌, false, List, [], ◌∷◌, ℕ, ◌≡◌, eqb, Ok}
use Rattle.events.specs.declared.Event.TheVariants.{Write}
use Rattle.isolation_laws.specs.Foreign.{Observer, observe, permitted}
use Rattle.cpu_instruction.specs.Program.{Access, read_at, write_at}
use Rattle.chip.specs.declared.Chip.{Chip}
use Rattle.isolation_laws.specs.Related.{RelatedChips}
use Rattle.cpu_operations.specs.declared.Cpu.{Cpu}
use Rattle.firmware_machine.specs.Machine.{Machine, machine, Turned, turned}
use Rattle.firmware_isolation_laws.specs.Trace.{Entry}
use Rattle.firmware_isolation_laws.specs.Transfers.{ForeignLists, compared_trace}

-- the observer after the writes among accesses
abbrev pub watch : Observer → List Access → Observer
watch o [] = o
watch o (read_at a l ∷ s) = watch o s
watch o (write_at a b ∷ s) = watch (observe o (Ok (Write a b))) s

-- every write is permitted
abbrev pub writes_permitted : Observer → List Access → Bool
writes_permitted o [] = true
writes_permitted o (read_at a l ∷ s) = writes_permitted o s
writes_permitted o (write_at a b ∷ s) = permitted o (Ok (Write a b)) && writes_permitted (observe o (Ok (Write a b))) s

-- the same CPU and RAM, and related chips
pub data Both : Machine → Machine → Observer → Observer → Type 0 where
  both : (c : Cpu) (ram : List ℕ) {d e : Chip} {o p : Observer} → RelatedChips d e o p → Both (machine c ram d) (machine c ram e) o p

-- what an instruction leaves: on, with the observers o and p; or the same refusal
pub data Ended (o p : Observer) : Turned → Turned → Type 0 where
  onward : {m m' : Machine} → Both m m' o p → Ended o p (turned m 0) (turned m' 0)
  halted : {m m' : Machine} {q r : Observer} (n : ℕ) → eqb n 0 ≡ false → Both m m' q r → Ended o p (turned m n) (turned m' n)

-- they come to a and b, with s and t behind them; the lists left are es and fs
pub record FedLists (n : ℕ) (es fs : List ℕ) (a b : List Entry) (m m' : Machine) (s t : List Entry) : Type 0 where
  pub left_observer : Observer
  pub right_observer : Observer
  pub state : Both m m' left_observer right_observer
  pub rest : ForeignLists n es fs left_observer right_observer s t
  pub said : compared_trace a ≡ compared_trace b
