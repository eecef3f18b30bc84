-- The numbers of refusals: which there are, when each is given, and what a refusal leaves.
use Prim.Native.Nat.{ℕ, zero, suc, ◌+◌}
use mathlib.Core.Path.{◌≡◌, refl, ap, sym, ◌∙◌}
use mathlib.Core.Bool.{Bool, true, false, not, true≢false}
use mathlib.Core.List.{List, [], ◌∷◌}
use lib.Dec.{eqb}
use borrow.Author.Tests.{eqb-true}
use Rattle.bits.specs.Byte.{pick}
use Rattle.registers.specs.Table.{is_readable, is_writable}
use Rattle.chip.specs.declared.Chip.{Chip}
use Rattle.chip_reads.specs.Reads.{reading, reading_of}
use Rattle.chip_writes.specs.Writes.{write_number}
use Rattle.cpu_opcodes.specs.Opcodes.{operation_of, entry_of, is_documented}
use Rattle.cpu_operations.specs.declared.Cpu.{Cpu}
use Rattle.cpu_memory.specs.declared.Loaded.{Loaded}
use Rattle.cpu_memory.specs.declared.Loaded.TheVariants.{Byte, Refused}
use Rattle.cpu_memory.specs.declared.Place.{Place}
use Rattle.cpu_memory.specs.declared.Place.TheVariants as at
use Rattle.cpu_memory.specs.declared.Store.{Store}
use Rattle.cpu_memory.specs.declared.Store.TheVariants as store
use Rattle.cpu_memory.specs.Memory.{place, stack, is_stack_place, after_push}
use Rattle.cpu_memory.proofs.Places.{stack_leads}
use Rattle.cpu_memory.specs.Reads.{Result, gives, refuses, on_byte}
use Rattle.cpu_instruction.specs.declared.Effect.{Effect}
use Rattle.cpu_instruction.specs.Program.{Instruction, leaves, rejected, reads, pushes, perform, Access, read_at, last_access, behind_byte, accesses}
use Rattle.cpu_instruction.specs.Instruction.{instruction, instruction_by, instruction_of, interrupted}
use Rattle.cpu_execution.specs.declared.Destination.{Destination}
use Rattle.cpu_execution.specs.declared.Destination.TheVariants as to
use Rattle.cpu_step.specs.InstructionTurn.{destination_at, destination, cycles_with, is_interrupted}
use Rattle.firmware_machine.specs.Machine.{Machine, machine, Turned, turned, register_read, load_at, load, finished, stored_to, completed, instruct, is_requesting, interrupt_taken, after_interrupt, turn}
use Rattle.firmware_machine.specs.Run.{Ended, ended, runs, after_events, left}
use Rattle.firmware_machine.proofs.Interrupts.{interrupt_is, clock_reset}
use Rattle.firmware_laws.specs.Numbers.{written_number, first_refused, is_undocumented, made_by, instruction_number}
use Rattle.firmware_laws.specs.Refused.{RefusedNumber, RunNumber, none, not_documented, not_mapped, read_only, refusal, write_only_lem}
use Rattle.firmware_laws.proofs.Trees.{Regular, documented_regular, undocumented_rejected}

-- ---- the first failing access

written_by : (t : Bool) (e : Effect) (ram : List ℕ) (k : Chip) (m : Machine) (n : ℕ) → (pick t (finished e ram k) (turned m n)).number ≡ pick t 0 n
written_by true e ram k m n = refl
written_by false e ram k m n = refl

stored_number : (e : Effect) (m : Machine) (b : ℕ) (q : Place)
    → (stored_to (destination_at b q) e m).number ≡ pick (eqb (written_number m.chip.core.reset q) 0) 0 (written_number m.chip.core.reset q)
stored_number e m b (at.Register r) = written_by (eqb (write_number m.chip.core.reset r) 0) e _ _ m (write_number m.chip.core.reset r)
stored_number e m b (at.Ram i) = refl
stored_number e m b (at.Rom i) = refl
stored_number e m b at.Unmapped = refl

store_number_lem : (e : Effect) (m : Machine) (s : Store) → (stored_to (destination s) e m).number ≡ first_refused m.chip.core.reset (last_access s)
unfolding destination
store_number_lem e m store.Nothing = refl
store_number_lem e m (store.Byte a b) = stored_number e m b (place a)
store_number_lem e m (store.PushOne s b) = refl
store_number_lem e m (store.PushTwo s b c) = refl
store_number_lem e m (store.PushThree s b c d) = refl

-- the stack is RAM
stack_number : (reset : Bool) (s : ℕ) → written_number reset (place (stack s)) ≡ 0
stack_number reset s = rw (stack_leads s)

zero_or : (n : ℕ) (t : Bool) → eqb n 0 ≡ t → n ≡ pick t 0 n
zero_or n true h = eqb-true n 0 h
zero_or n false h = refl

byte_number : (f : ℕ → Loaded) (a : ℕ) (k : ℕ → Instruction) (m : Machine) (l : Loaded)
    → ((b : ℕ) → (completed (perform f (k b)) m).number ≡ first_refused m.chip.core.reset (accesses f (k b)))
    → (completed (on_byte l (λ (b : ℕ). perform f (k b))) m).number ≡ first_refused m.chip.core.reset (read_at a l ∷ behind_byte l (λ (b : ℕ). accesses f (k b)))
byte_number f a k m (Byte b) h = h b
byte_number f a k m (Refused n) h = zero_or n (eqb n 0) refl

regular_number : (over : ℕ) (f : ℕ → Loaded) (t : Instruction) (m : Machine) → Regular over t
    → (completed (perform f t) m).number ≡ first_refused m.chip.core.reset (accesses f t)
unfolding perform accesses
regular_number over f (leaves e) m r = store_number_lem e m e.store
regular_number over f rejected m r = absurd r
regular_number over f (reads a k) m r = byte_number f a k m (f a) (λ (b : ℕ). regular_number over f (k b) m (r b))
regular_number over f (pushes s b t) m r = rw (stack_number m.chip.core.reset s) (regular_number over (after_push s b f) t m r)

documented_by : (f : ℕ → Loaded) (a opcode : ℕ) (c : Cpu) (m : Machine) (d : Bool) → is_documented (operation_of (entry_of opcode)) ≡ d
    → (completed (perform f (instruction_of (entry_of opcode) c)) m).number ≡ pick (not d) 20 (first_refused m.chip.core.reset (accesses f (instruction_of (entry_of opcode) c)))
unfolding perform
documented_by f a opcode c m true h = regular_number c.over f (instruction_of (entry_of opcode) c) m (documented_regular opcode c h)
documented_by f a opcode c m false h = rw (undocumented_rejected opcode c h)

opcode_number : (f : ℕ → Loaded) (a : ℕ) (c : Cpu) (m : Machine) (l : Loaded)
    → (completed (on_byte l (λ (b : ℕ). perform f (instruction_of (entry_of b) c))) m).number
    ≡ pick (is_undocumented (read_at a l ∷ behind_byte l (λ (b : ℕ). accesses f (instruction_of (entry_of b) c)))) 20
    (first_refused m.chip.core.reset (read_at a l ∷ behind_byte l (λ (b : ℕ). accesses f (instruction_of (entry_of b) c))))
opcode_number f a c m (Byte b) = documented_by f a b c m (is_documented (operation_of (entry_of b))) refl
opcode_number f a c m (Refused n) = zero_or n (eqb n 0) refl

-- An instruction is refused with 20 where the opcode fetched is not documented, else with the number of its first access that fails; its
-- number is 0 where none fails
pub instruct_number : (rom : List ℕ) (m : Machine) → (instruct rom m).number ≡ instruction_number rom m
unfolding instruct made_by perform accesses instruction_by entry_of
instruct_number rom m = opcode_number (load m.ram m.chip rom) m.cpu.pc m.cpu m (load m.ram m.chip rom m.cpu.pc)

-- ---- no access fails with 20

abbrev NotTwenty : Loaded → Type 0
NotTwenty (Byte b) = Unit {0}
NotTwenty (Refused n) = eqb n 20 ≡ false

read_by : (z t : Bool) (n : ℕ) → NotTwenty (register_read (pick z (pick t (reading_of 0 n) (reading_of 5 0)) (reading_of 4 0)))
read_by true true n = tt
read_by true false n = refl
read_by false t n = refl

load_other : (ram rom : List ℕ) (k : Chip) (q : Place) → NotTwenty (load_at ram k rom q)
unfolding reading
load_other ram rom k (at.Register r) = read_by k.core.reset (is_readable r) _
load_other ram rom k (at.Ram i) = tt
load_other ram rom k (at.Rom i) = tt
load_other ram rom k at.Unmapped = refl

other_pushed : (t : Bool) (b : ℕ) (l : Loaded) → NotTwenty l → NotTwenty (pick t (Byte b) l)
other_pushed true b l h = tt
other_pushed false b l h = h

register_other : (z t : Bool) → eqb (pick z (pick t 0 6) 4) 20 ≡ false
register_other true true = refl
register_other true false = refl
register_other false t = refl

written_other : (reset : Bool) (q : Place) → eqb (written_number reset q) 20 ≡ false
unfolding write_number
written_other reset (at.Register r) = register_other reset (is_writable r)
written_other reset (at.Ram i) = refl
written_other reset (at.Rom i) = refl
written_other reset at.Unmapped = refl

pick_other : (t : Bool) (a b : ℕ) → eqb a 20 ≡ false → eqb b 20 ≡ false → eqb (pick t a b) 20 ≡ false
pick_other true a b h g = h
pick_other false a b h g = g

byte_other : (reset : Bool) (a : ℕ) (l : Loaded) (k : ℕ → List Access) → NotTwenty l → ((b : ℕ) → eqb (first_refused reset (k b)) 20 ≡ false)
    → eqb (first_refused reset (read_at a l ∷ behind_byte l k)) 20 ≡ false
byte_other reset a (Byte b) k h g = g b
byte_other reset a (Refused n) k h g = pick_other (eqb n 0) 0 n refl h

last_other : (reset : Bool) (s : Store) → eqb (first_refused reset (last_access s)) 20 ≡ false
last_other reset store.Nothing = refl
last_other reset (store.Byte a b) = pick_other (eqb (written_number reset (place a)) 0) 0 (written_number reset (place a)) refl (written_other reset (place a))
last_other reset (store.PushOne s b) = refl
last_other reset (store.PushTwo s b c) = refl
last_other reset (store.PushThree s b c d) = refl

accesses_other : (reset : Bool) (f : ℕ → Loaded) → ((a : ℕ) → NotTwenty (f a)) → (t : Instruction) → eqb (first_refused reset (accesses f t)) 20 ≡ false
unfolding accesses after_push
accesses_other reset f h (leaves e) = last_other reset e.store
accesses_other reset f h rejected = refl
accesses_other reset f h (reads a k) = byte_other reset a (f a) (λ (b : ℕ). accesses f (k b)) (h a) (λ (b : ℕ). accesses_other reset f h (k b))
accesses_other reset f h (pushes s b t) =
    rw (stack_number reset s) (accesses_other reset (after_push s b f) (λ (a : ℕ). other_pushed (is_stack_place s (place a)) b (f a) (h a)) t)

twenty_by : (t : Bool) (n : ℕ) → eqb n 20 ≡ false → pick t 20 n ≡ 20 → t ≡ true
twenty_by true n h e = refl
twenty_by false n h e = absurd (true≢false (sym (ap (λ (a : ℕ). eqb a 20) e) ∙ h))

-- an instruction has the number 20 where its opcode is not documented, and in no other case
pub only_undocumented : (rom : List ℕ) (m : Machine) → instruction_number rom m ≡ 20 → is_undocumented (made_by rom m) ≡ true
unfolding made_by load
only_undocumented rom m h =
    twenty_by (is_undocumented (made_by rom m)) (first_refused m.chip.core.reset (made_by rom m))
    (accesses_other m.chip.core.reset (load m.ram m.chip rom) (λ (a : ℕ). load_other m.ram rom m.chip (place a)) (instruction m.cpu)) h

-- ---- the numbers that there are

abbrev KnownLoad : Loaded → Type 0
KnownLoad (Byte b) = Unit {0}
KnownLoad (Refused n) = RefusedNumber n

abbrev KnownResult : Result Effect → Type 0
KnownResult (gives e) = Unit {0}
KnownResult (refuses n) = RefusedNumber n

reading_by_lem : (z t : Bool) (n : ℕ) → z ≡ true → KnownLoad (register_read (pick z (pick t (reading_of 0 n) (reading_of 5 0)) (reading_of 4 0)))
reading_by_lem true true n h = tt
reading_by_lem true false n h = write_only_lem
reading_by_lem false t n h = absurd (true≢false (sym h))

load_at_lem : (ram rom : List ℕ) (k : Chip) → k.core.reset ≡ true → (q : Place) → KnownLoad (load_at ram k rom q)
unfolding reading
load_at_lem ram rom k h (at.Register r) = reading_by_lem k.core.reset (is_readable r) _ h
load_at_lem ram rom k h (at.Ram i) = tt
load_at_lem ram rom k h (at.Rom i) = tt
load_at_lem ram rom k h at.Unmapped = not_mapped

load_known : (ram rom : List ℕ) (k : Chip) → k.core.reset ≡ true → (a : ℕ) → KnownLoad (load ram k rom a)
unfolding load
load_known ram rom k h a = load_at_lem ram rom k h (place a)

push_by : (t : Bool) (b : ℕ) (l : Loaded) → KnownLoad l → KnownLoad (pick t (Byte b) l)
push_by true b l h = tt
push_by false b l h = h

push_known : (s b : ℕ) (f : ℕ → Loaded) → ((a : ℕ) → KnownLoad (f a)) → (a : ℕ) → KnownLoad (after_push s b f a)
unfolding after_push
push_known s b f h a = push_by (is_stack_place s (place a)) b (f a) (h a)

byte_known : (l : Loaded) (g : ℕ → Result Effect) → KnownLoad l → ((b : ℕ) → KnownResult (g b)) → KnownResult (on_byte l g)
byte_known (Byte b) g h k = k b
byte_known (Refused n) g h k = h

perform_known : (f : ℕ → Loaded) → ((a : ℕ) → KnownLoad (f a)) → (t : Instruction) → KnownResult (perform f t)
unfolding perform
perform_known f h (leaves e) = tt
perform_known f h rejected = not_documented
perform_known f h (reads a k) = byte_known (f a) (λ (b : ℕ). perform f (k b)) (h a) (λ (b : ℕ). perform_known f h (k b))
perform_known f h (pushes s b t) = perform_known (after_push s b f) (push_known s b f h) t

write_by : (z t : Bool) (e : Effect) (ram : List ℕ) (k : Chip) (m : Machine) → z ≡ true
    → RunNumber (pick (eqb (pick z (pick t 0 6) 4) 0) (finished e ram k) (turned m (pick z (pick t 0 6) 4))).number
write_by true true e ram k m h = none
write_by true false e ram k m h = refusal read_only
write_by false t e ram k m h = absurd (true≢false (sym h))

place_known : (e : Effect) (m : Machine) (b : ℕ) → m.chip.core.reset ≡ true → (q : Place) → RunNumber (stored_to (destination_at b q) e m).number
unfolding write_number
place_known e m b h (at.Register r) = write_by m.chip.core.reset (is_writable r) e _ _ m h
place_known e m b h (at.Ram i) = none
place_known e m b h (at.Rom i) = refusal not_mapped
place_known e m b h at.Unmapped = refusal not_mapped

store_known : (e : Effect) (m : Machine) → m.chip.core.reset ≡ true → (s : Store) → RunNumber (stored_to (destination s) e m).number
unfolding destination
store_known e m h store.Nothing = none
store_known e m h (store.Byte a b) = place_known e m b h (place a)
store_known e m h (store.PushOne s b) = none
store_known e m h (store.PushTwo s b c) = none
store_known e m h (store.PushThree s b c d) = none

completed_known : (r : Result Effect) (m : Machine) → m.chip.core.reset ≡ true → KnownResult r → RunNumber (completed r m).number
completed_known (gives e) m h k = store_known e m h e.store
completed_known (refuses n) m h k = refusal k

instruct_known : (rom : List ℕ) (m : Machine) → m.chip.core.reset ≡ true → RunNumber (instruct rom m).number
unfolding instruct
instruct_known rom m h = completed_known (perform (load m.ram m.chip rom) (instruction m.cpu)) m h (perform_known (load m.ram m.chip rom) (load_known m.ram rom m.chip h) (instruction m.cpu))

interrupt_high : (rom : List ℕ) (m : Machine) → m.chip.core.reset ≡ true → (interrupt_taken rom m).chip.core.reset ≡ true
interrupt_high rom m h =
    ap (λ (x : Machine). x.chip.core.reset) (interrupt_is rom m.cpu m.ram m.chip) ∙ clock_reset (cycles_with (interrupted rom m.cpu)) m.chip h

after_by : (b : Bool) (rom : List ℕ) (m : Machine) → m.chip.core.reset ≡ true → (pick b (interrupt_taken rom m) m).chip.core.reset ≡ true
after_by true rom m h = interrupt_high rom m h
after_by false rom m h = h

-- an interrupt leaves RESET high
pub after_high : (rom : List ℕ) (m : Machine) → m.chip.core.reset ≡ true → (after_interrupt rom m).chip.core.reset ≡ true
unfolding after_interrupt
after_high rom m h = after_by (is_interrupted (is_requesting m.chip) m.cpu) rom m h

turn_by : (b : Bool) (rom : List ℕ) (m : Machine) → m.chip.core.reset ≡ b → RunNumber (pick b (instruct rom (after_interrupt rom m)) (turned m 0)).number
turn_by true rom m h = instruct_known rom (after_interrupt rom m) (after_high rom m h)
turn_by false rom m h = none

-- a turn is refused with 5, 6, 20 or 21, never with 4
pub turn_number_lem : (rom : List ℕ) (m : Machine) → RunNumber (turn rom m).number
unfolding turn
turn_number_lem rom m = turn_by m.chip.core.reset rom m refl

on_known : (t : Turned) (i : ℕ) (k : Machine → Ended) → RunNumber t.number → RunNumber (k t.machine).number → (b : Bool) → RunNumber (pick b (k t.machine) (ended t.machine t.number i [])).number
on_known t i k h g true = g
on_known t i k h g false = h

-- and so is a run
pub run_number_lem : (n i : ℕ) (rom es : List ℕ) (m : Machine) → RunNumber (runs n i rom es m).number
unfolding runs
run_number_lem zero i rom es m = none
run_number_lem (suc n) i rom es m =
    let x = turn rom (after_events rom i es m) in
    on_known x i (λ (t : Machine). runs n (i + 1) rom (left i es) t) (turn_number_lem rom (after_events rom i es m)) (run_number_lem n (i + 1) rom (left i es) x.machine) (eqb x.number 0)

-- ---- what a refusal leaves

register_leaves : (t : Bool) (e : Effect) (ram : List ℕ) (k : Chip) (m : Machine) (n : ℕ) → eqb n 0 ≡ t
    → eqb (pick t (finished e ram k) (turned m n)).number 0 ≡ false → (pick t (finished e ram k) (turned m n)).machine ≡ m
register_leaves true e ram k m n z h = absurd (true≢false h)
register_leaves false e ram k m n z h = refl

stored_leaves : (d : Destination) (e : Effect) (m : Machine) → eqb (stored_to d e m).number 0 ≡ false → (stored_to d e m).machine ≡ m
stored_leaves to.Ram e m h = absurd (true≢false h)
stored_leaves (to.Register r b) e m h = register_leaves (eqb (write_number m.chip.core.reset r) 0) e _ _ m (write_number m.chip.core.reset r) refl h
stored_leaves (to.Refused n) e m h = refl

completed_leaves : (r : Result Effect) (m : Machine) → eqb (completed r m).number 0 ≡ false → (completed r m).machine ≡ m
completed_leaves (gives e) m h = stored_leaves (destination e.store) e m h
completed_leaves (refuses n) m h = refl

-- an instruction that is refused leaves CPU, RAM and chip as they were
pub instruct_refused : (rom : List ℕ) (m : Machine) → eqb (instruct rom m).number 0 ≡ false → (instruct rom m).machine ≡ m
unfolding instruct
instruct_refused rom m h = completed_leaves (perform (load m.ram m.chip rom) (instruction m.cpu)) m h

refused_by_lem : (b : Bool) (rom : List ℕ) (m : Machine) → eqb (pick b (instruct rom (after_interrupt rom m)) (turned m 0)).number 0 ≡ false
    → (pick b (instruct rom (after_interrupt rom m)) (turned m 0)).machine ≡ after_interrupt rom m
refused_by_lem true rom m h = instruct_refused rom (after_interrupt rom m) h
refused_by_lem false rom m h = absurd (true≢false h)

-- a turn that is refused leaves them as its interrupt did
pub turn_refused : (rom : List ℕ) (m : Machine) → eqb (turn rom m).number 0 ≡ false → (turn rom m).machine ≡ after_interrupt rom m
unfolding turn
turn_refused rom m h = refused_by_lem m.chip.core.reset rom m h
