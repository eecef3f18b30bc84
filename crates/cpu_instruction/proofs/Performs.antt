-- Instructions over a memory: the clauses of `perform` as laws, and what reads ROM alone.
use Prim.Native.Nat.{ℕ, ◌*◌, ◌+◌}
use mathlib.Core.Path.{◌≡◌, refl}
use mathlib.Core.Bool.{Bool, true, false}
use mathlib.Core.List.{List}
use Rattle.cpu_operations.specs.declared.Cpu.{Cpu}
use Rattle.cpu_memory.specs.declared.Loaded.{Loaded}
use Rattle.cpu_memory.specs.declared.Loaded.TheVariants.{Byte, Refused}
use Rattle.cpu_memory.specs.Memory.{place, memory, after_push, rom_word}
use Rattle.cpu_memory.specs.Reads.{Reads, done, undocumented, read, Result, gives, refuses, on_byte, run, on_result}
use Rattle.cpu_instruction.specs.declared.Effect.{Effect}
use Rattle.cpu_instruction.specs.Program.{Instruction, leaves, rejected, reads, pushes, and_then, perform}
use Rattle.cpu_instruction.specs.Instruction.{effect, trap, trap_to, interrupt, interrupted, reset, reset_cpu}
use Rattle.cpu_memory.specs.declared.Store.TheVariants as store

pub perform_leaves : (f : ℕ → Loaded) (e : Effect) → perform f (leaves e) ≡ gives e
unfolding perform
perform_leaves f e = refl

pub perform_rejected : (f : ℕ → Loaded) → perform f rejected ≡ refuses 20
unfolding perform
perform_rejected f = refl

pub perform_reads : (f : ℕ → Loaded) (a : ℕ) (k : ℕ → Instruction) → perform f (reads a k) ≡ on_byte (f a) (λ (b : ℕ). perform f (k b))
unfolding perform
perform_reads f a k = refl

pub perform_pushes : (f : ℕ → Loaded) (s b : ℕ) (t : Instruction) → perform f (pushes s b t) ≡ perform (after_push s b f) t
unfolding perform
perform_pushes f s b t = refl

perform_then_byte : {A : Type 0} (f : ℕ → Loaded) (l : Loaded) (k : ℕ → Reads A) (g : A → Instruction)
    → ((b : ℕ) → perform f (and_then (k b) g) ≡ on_result (run f (k b)) (λ (a : A). perform f (g a)))
    → on_byte l (λ (b : ℕ). perform f (and_then (k b) g)) ≡ on_result (on_byte l (λ (b : ℕ). run f (k b))) (λ (a : A). perform f (g a))
perform_then_byte f (Byte b) k g h = h b
perform_then_byte f (Refused n) k g h = refl

pub perform_then : {A : Type 0} (f : ℕ → Loaded) (t : Reads A) (g : A → Instruction) → perform f (and_then t g) ≡ on_result (run f t) (λ (a : A). perform f (g a))
unfolding run perform and_then
perform_then f (done a) g = refl
perform_then f undocumented g = refl
perform_then f (read a k) g = perform_then_byte f (f a) k g (λ (b : ℕ). perform_then f (k b) g)

-- BRK, the interrupt and the reset read a vector in ROM, which no push changes
pub perform_trap : (seen ram rom : List ℕ) (b : Bool) (r n : ℕ) (c : Cpu) → perform (memory seen ram rom) (trap b r n c) ≡ gives (trap_to b r n c (rom_word rom 24574))
unfolding perform and_then trap memory place after_push
perform_trap seen ram rom b r n c = refl

pub perform_interrupt : (seen ram rom : List ℕ) (c : Cpu) → perform (memory seen ram rom) (interrupt c) ≡ gives (interrupted rom c)
unfolding interrupted
perform_interrupt seen ram rom c = perform_trap seen ram rom false c.pc 7 c

pub perform_reset : (seen ram rom : List ℕ) (c : Cpu) → perform (memory seen ram rom) (reset c) ≡ gives (effect (reset_cpu rom c) 0 store.Nothing)
unfolding perform and_then memory place reset_cpu
perform_reset seen ram rom c = refl
