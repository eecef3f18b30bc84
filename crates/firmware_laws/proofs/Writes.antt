-- The writes among the accesses of an instruction are those that RAM shows: pushes and the store, in order.
use Prim.Native.Nat.{ℕ, ◌/◌, ◌%◌}
use mathlib.Core.Path.{◌≡◌, refl, ap, sym, ◌∙◌}
use mathlib.Core.Bool.{Bool, true, false, true≢false}
use mathlib.Core.List.{List, [], ◌∷◌}
use lib.Dec.{eqb}
use lib.ListN.{get_or}
use Rattle.bits.specs.Byte.{pick}
use Rattle.chip.specs.declared.Chip.{Chip}
use Rattle.chip_writes.specs.Writes.{write_number}
use Rattle.cpu_opcodes.specs.declared.Operation.{Operation}
use Rattle.cpu_opcodes.specs.declared.Operation.TheVariants.{Read, Store, Modify, ModifyA, Implied, Branch, Jmp, Jsr, Rts, Rti, Brk, Pha, Php, Pla, Plp, Undocumented}
use Rattle.cpu_operations.specs.declared.Cpu.{Cpu}
use Rattle.cpu_operations.specs.Operations.{taken, pushed_p}
use Rattle.cpu_memory.specs.declared.Loaded.{Loaded}
use Rattle.cpu_memory.specs.declared.Loaded.TheVariants.{Byte, Refused}
use Rattle.cpu_memory.specs.declared.Place.{Place}
use Rattle.cpu_memory.specs.declared.Place.TheVariants as at
use Rattle.cpu_memory.specs.declared.Store.{Store as Stored}
use Rattle.cpu_memory.specs.declared.Store.TheVariants as store
use Rattle.cpu_memory.specs.Memory.{place, stack, below, after_push}
use Rattle.cpu_memory.proofs.Places.{stack_leads}
use Rattle.cpu_memory.specs.Reads.{Reads, done, undocumented, read, Result, gives, refuses, on_byte}
use Rattle.cpu_addressing.specs.declared.Effective.{Effective}
use Rattle.cpu_instruction.specs.declared.Effect.{Effect}
use Rattle.cpu_instruction.specs.Program.{Instruction, leaves, rejected, reads, pushes, and_then, perform, Access, read_at, write_at, last_access, behind_byte, accesses}
use Rattle.cpu_instruction.specs.Instruction.{branched, trap, execute, instruction_of, instruction_by, instruction, interrupt}
use Rattle.cpu_execution.specs.Execution.{destination_at, destination, stored_at, stored}
use Rattle.firmware_machine.specs.Machine.{Machine, turned, load, finished, stored_to, completed, instruct, interrupt_taken}
use Rattle.firmware_machine.proofs.Loads.{LowResult, low}
use Rattle.firmware_laws.specs.Numbers.{made_by}
use Rattle.firmware_laws.specs.Writes.{ram_by}
use Rattle.firmware_laws.proofs.Interrupts.{interrupt_leaves}

-- ---- pushes on the way to what an instruction leaves: from RAM first, with ram as the pushes so far have made it

abbrev Tells : List ℕ → List ℕ → Instruction → Type 0
Tells first ram (leaves e) = stored first e.store ≡ ram_by ram (last_access e.store)
Tells first ram rejected = Unit {0}
Tells first ram (reads a k) = (b : ℕ) → Tells first ram (k b)
Tells first ram (pushes s b t) = Tells first (stored_at ram b (place (stack s))) t

then_tells : {A : Type 0} (ram : List ℕ) (r : Reads A) (g : A → Instruction) → ((a : A) → Tells ram ram (g a)) → Tells ram ram (and_then r g)
unfolding and_then
then_tells ram (done a) g h = h a
then_tells ram undocumented g h = tt
then_tells ram (read a k) g h = λ (b : ℕ). then_tells ram (k b) g h

one_push : (ram : List ℕ) (s b : ℕ) → stored ram (store.PushOne s b) ≡ stored_at ram b (place (stack s))
unfolding stored
one_push ram s b = rw (stack_leads s)

two_pushes : (ram : List ℕ) (s b c : ℕ) → stored ram (store.PushTwo s b c) ≡ stored_at (stored_at ram b (place (stack s))) c (place (stack (below s)))
unfolding stored
two_pushes ram s b c = rw (stack_leads s, stack_leads (below s))

three_pushes : (ram : List ℕ) (s b c d : ℕ)
    → stored ram (store.PushThree s b c d) ≡ stored_at (stored_at (stored_at ram b (place (stack s))) c (place (stack (below s)))) d (place (stack (below (below s))))
unfolding stored
three_pushes ram s b c d = rw (stack_leads s, stack_leads (below s), stack_leads (below (below s)))

nothing : (ram : List ℕ) → stored ram store.Nothing ≡ ram
unfolding stored
nothing ram = refl

one_byte : (ram : List ℕ) (a b : ℕ) → stored ram (store.Byte a b) ≡ stored_at ram b (place a)
unfolding stored
one_byte ram a b = refl

branched_tells : (ram : List ℕ) (b : Bool) (t : Effective) (n : ℕ) (c : Cpu) → Tells ram ram (leaves (branched b t n c))
branched_tells ram true t n c = nothing ram
branched_tells ram false t n c = nothing ram

trap_tells : (ram : List ℕ) (b : Bool) (r n : ℕ) (c : Cpu) → Tells ram ram (trap b r n c)
unfolding trap and_then
trap_tells ram b r n c = λ (l k : ℕ). three_pushes ram c.s (r / 256) (r % 256) (pushed_p c.p b)

execute_tells : (ram : List ℕ) (o : Operation) (t : Effective) (n : ℕ) (c : Cpu) → Tells ram ram (execute o t n c)
unfolding execute and_then
execute_tells ram (Read o) t n c = λ (b : ℕ). nothing ram
execute_tells ram (Store o) t n c = one_byte ram _ _
execute_tells ram (Modify o) t n c = λ (b : ℕ). one_byte ram _ _
execute_tells ram (ModifyA o) t n c = nothing ram
execute_tells ram (Implied o) t n c = nothing ram
execute_tells ram (Branch o) t n c = branched_tells ram (taken o c.p) t n c
execute_tells ram Jmp t n c = nothing ram
execute_tells ram Jsr t n c = λ (l k : ℕ). two_pushes ram c.s _ _
execute_tells ram Rts t n c = λ (l k : ℕ). nothing ram
execute_tells ram Rti t n c = λ (b l k : ℕ). nothing ram
execute_tells ram Brk t n c = trap_tells ram true _ n c
execute_tells ram Pha t n c = one_push ram c.s c.a
execute_tells ram Php t n c = one_push ram c.s (pushed_p c.p true)
execute_tells ram Pla t n c = λ (b : ℕ). nothing ram
execute_tells ram Plp t n c = λ (b : ℕ). nothing ram
execute_tells ram Undocumented t n c = tt

entry_tells : (ram : List ℕ) (e : ℕ) (c : Cpu) → Tells ram ram (instruction_of e c)
unfolding instruction_of
entry_tells ram e c = then_tells ram _ _ (λ (t : Effective). execute_tells ram _ t _ _)

instruction_tells : (ram : List ℕ) (c : Cpu) → Tells ram ram (instruction c)
unfolding instruction_by
instruction_tells ram c = λ (opcode : ℕ). entry_tells ram _ c

-- ---- an instruction over a memory: where it is not refused, RAM with its store is RAM by its accesses

abbrev Written : List ℕ → List ℕ → Result Effect → List Access → Type 0
Written first ram (gives e) s = stored first e.store ≡ ram_by ram s
Written first ram (refuses n) s = Unit {0}

written_read : (first ram : List ℕ) (a : ℕ) (l : Loaded) (r : Result Effect) (s : List Access) → Written first ram r s → Written first ram r (read_at a l ∷ s)
written_read first ram a l (gives e) s h = h
written_read first ram a l (refuses n) s h = tt

written_byte : (first ram : List ℕ) (f : ℕ → Loaded) (a : ℕ) (k : ℕ → Instruction) (l : Loaded) → ((b : ℕ) → Written first ram (perform f (k b)) (accesses f (k b)))
    → Written first ram (on_byte l (λ (b : ℕ). perform f (k b))) (read_at a l ∷ behind_byte l (λ (b : ℕ). accesses f (k b)))
written_byte first ram f a k (Byte b) h = written_read first ram a (Byte b) (perform f (k b)) (accesses f (k b)) (h b)
written_byte first ram f a k (Refused n) h = tt

written_push : (first ram : List ℕ) (s b : ℕ) (r : Result Effect) (t : List Access) → Written first (stored_at ram b (place (stack s))) r t → Written first ram r (write_at (stack s) b ∷ t)
written_push first ram s b (gives e) t h = h
written_push first ram s b (refuses n) t h = tt

written : (first ram : List ℕ) (f : ℕ → Loaded) (t : Instruction) → Tells first ram t → Written first ram (perform f t) (accesses f t)
unfolding perform accesses
written first ram f (leaves e) h = h
written first ram f rejected h = tt
written first ram f (reads a k) h = written_byte first ram f a k (f a) (λ (b : ℕ). written first ram f (k b) (h b))
written first ram f (pushes s b t) h =
    written_push first ram s b (perform (after_push s b f) t) (accesses (after_push s b f) t) (written first (stored_at ram b (place (stack s))) (after_push s b f) t h)

-- ---- RAM after an instruction that is not refused

register_ram : (t : Bool) (e : Effect) (k : Chip) (m : Machine) (n : ℕ) → (pick t (finished e m.ram k) (turned m n)).machine.ram ≡ m.ram
register_ram true e k m n = refl
register_ram false e k m n = refl

place_ram : (e : Effect) (m : Machine) (b : ℕ) (q : Place) → stored m.ram e.store ≡ stored_at m.ram b q → eqb (stored_to (destination_at b q) e m).number 0 ≡ true
    → (stored_to (destination_at b q) e m).machine.ram ≡ stored_at m.ram b q
place_ram e m b (at.Register r) h z = register_ram (eqb (write_number m.chip.core.reset r) 0) e _ m (write_number m.chip.core.reset r)
place_ram e m b (at.Ram i) h z = h
place_ram e m b (at.Rom i) h z = absurd (true≢false (sym z))
place_ram e m b at.Unmapped h z = absurd (true≢false (sym z))

store_ram : (e : Effect) (m : Machine) (s : Stored) → e.store ≡ s → eqb (stored_to (destination s) e m).number 0 ≡ true → (stored_to (destination s) e m).machine.ram ≡ stored m.ram s
unfolding destination
store_ram e m store.Nothing h z = ap (stored m.ram) h
store_ram e m (store.Byte a b) h z = place_ram e m b (place a) (ap (stored m.ram) h ∙ one_byte m.ram a b) z ∙ sym (one_byte m.ram a b)
store_ram e m (store.PushOne s b) h z = ap (stored m.ram) h
store_ram e m (store.PushTwo s b c) h z = ap (stored m.ram) h
store_ram e m (store.PushThree s b c d) h z = ap (stored m.ram) h

completed_ram : (r : Result Effect) (m : Machine) (s : List Access) → LowResult r → Written m.ram m.ram r s → eqb (completed r m).number 0 ≡ true
    → (completed r m).machine.ram ≡ ram_by m.ram s
completed_ram (gives e) m s l h z = store_ram e m e.store refl z ∙ h
completed_ram (refuses n) m s l h z = absurd (true≢false (sym z ∙ l.0))

-- it is RAM before it with every write among its accesses done, in order
pub instruct_ram : (rom : List ℕ) (m : Machine) → eqb (instruct rom m).number 0 ≡ true → (instruct rom m).machine.ram ≡ ram_by m.ram (made_by rom m)
unfolding instruct made_by
instruct_ram rom m z =
    let f = load m.ram m.chip rom in
    let t = instruction m.cpu in
    completed_ram (perform f t) m (accesses f t) (low m.ram rom m.chip t) (written m.ram m.ram f t (instruction_tells m.ram m.cpu)) z

-- ---- the interrupt: its accesses, and RAM after it

pub interrupt_made : (rom ram : List ℕ) (k : Chip) (c : Cpu) → accesses (load ram k rom) (interrupt c)
    ≡ write_at (stack c.s) (c.pc / 256) ∷ write_at (stack (below c.s)) (c.pc % 256) ∷ write_at (stack (below (below c.s))) (pushed_p c.p false)
    ∷ read_at 0xFFFE (Byte (get_or rom 24574 0)) ∷ read_at 0xFFFF (Byte (get_or rom 24575 0)) ∷ []
unfolding accesses and_then trap load place after_push
interrupt_made rom ram k c = refl

pub interrupt_ram : (rom : List ℕ) (m : Machine) → (interrupt_taken rom m).ram ≡ ram_by m.ram (accesses (load m.ram m.chip rom) (interrupt m.cpu))
unfolding stored
interrupt_ram rom m =
    let s = m.cpu.s in
    ap (λ (x : Machine). x.ram) (interrupt_leaves rom m)
    ∙ three_pushes m.ram s (m.cpu.pc / 256) (m.cpu.pc % 256) (pushed_p m.cpu.p false)
    ∙ ap (ram_by m.ram) (sym (interrupt_made rom m.ram m.chip m.cpu))
