-- A branch stores nothing.
use Prim.Native.Nat.{ℕ}
use mathlib.Core.Path.{◌≡◌, refl}
use mathlib.Core.Bool.{Bool, true, false}
use Rattle.cpu_operations.specs.declared.Cpu.{Cpu}
use Rattle.cpu_memory.specs.declared.Store.TheVariants as store
use Rattle.cpu_addressing.specs.declared.Effective.{Effective}
use Rattle.cpu_instruction.specs.Instruction.{branched}

pub branched_store : (k : Bool) (t : Effective) (n : ℕ) (c : Cpu) → (branched k t n c).store ≡ store.Nothing
branched_store true t n c = refl
branched_store false t n c = refl
