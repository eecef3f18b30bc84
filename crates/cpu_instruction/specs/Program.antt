-- The accesses of an instruction of the 6502, in the chip's order (document 02, Wish 5): reads, of which each may follow from the
-- bytes read before, and pushes among them; at the end what it leaves: the CPU, its cycles, and its store.
use Rattle.std.specs.Prelude.{ℕ, ◌≡◌, false, List, [], ◌∷◌, eqb}
use Rattle.cpu_memory.specs.declared.Loaded.{Loaded}
use Rattle.cpu_memory.specs.declared.Loaded.TheVariants.{Byte, Refused}
use Rattle.cpu_memory.specs.declared.Store.{Store}
use Rattle.cpu_memory.specs.declared.Store.TheVariants as store
use Rattle.cpu_memory.specs.Memory.{stack, after_push}
use Rattle.cpu_memory.specs.Reads.{Reads, done, undocumented, read, Result, gives, refuses, on_byte}
use Rattle.cpu_instruction.specs.declared.Effect.{Effect}

pub data Instruction : Type 0 where
  leaves : Effect → Instruction
  rejected : Instruction
  reads : ℕ → (ℕ → Instruction) → Instruction
  pushes : ℕ → ℕ → Instruction → Instruction

-- a program of reads, and then the rest of the instruction
unfoldable pub and_then : {A : Type 0} → Reads A → (A → Instruction) → Instruction
and_then (done a) g = g a
and_then undocumented g = rejected
and_then (read a k) g = reads a (λ (b : ℕ). and_then (k b) g)

-- an instruction over a memory: what it leaves, or the number of its first read that fails; 20 for an opcode that is not documented. A read
-- behind a push sees the byte pushed.
unfoldable pub perform : (ℕ → Loaded) → Instruction → Result Effect
perform f (leaves e) = gives e
perform f rejected = refuses 20
perform f (reads a k) = on_byte (f a) (λ (b : ℕ). perform f (k b))
perform f (pushes s b t) = perform (after_push s b f) t

-- ---- its accesses in order

pub data Access : Type 0 where
  read_at : ℕ → Loaded → Access
  write_at : ℕ → ℕ → Access

-- the one store that is no push is the last access; pushes stand in their places
abbrev pub last_access : Store → List Access
last_access store.Nothing = []
last_access (store.Byte a b) = write_at a b ∷ []
last_access (store.PushOne s b) = []
last_access (store.PushTwo s b c) = []
last_access (store.PushThree s b c d) = []

abbrev pub behind_byte : Loaded → (ℕ → List Access) → List Access
behind_byte (Byte b) k = k b
behind_byte (Refused n) k = []

-- each read with its address and what it gave, each write with its address and byte; a failing one is the last
unfoldable pub accesses : (ℕ → Loaded) → Instruction → List Access
accesses f (leaves e) = last_access e.store
accesses f rejected = []
accesses f (reads a k) = read_at a (f a) ∷ behind_byte (f a) (λ (b : ℕ). accesses f (k b))
accesses f (pushes s b t) = write_at (stack s) b ∷ accesses (after_push s b f) t

-- none of the accesses is a read of d
abbrev pub Unread : ℕ → List Access → Type 0
Unread d [] = Unit {0}
Unread d (read_at a l ∷ s) = (eqb a d ≡ false) × Unread d s
Unread d (write_at a b ∷ s) = Unread d s
