-- Cycles and clocks: what the chip is given makes the chip that a run leaves, its clocks are the cycles by 32, and well formed is kept.
use Prim.Native.Nat.{ℕ, zero, suc, ◌+◌, ◌-◌, ◌*◌, ◌/◌, ◌%◌, ◌<◌}
use mathlib.Core.Path.{◌≡◌, refl, ap, sym, subst, ◌∙◌}
use mathlib.Core.Bool.{Bool, true, false, true≢false}
use mathlib.Core.List.{List, [], ◌∷◌, ◌++◌}
use native.Mathlib.Omega.{arith}
use lib.Dec.{eqb, ltb}
use borrow.Author.Tests.{lt-ltb, ltb-true, ltb-false}
use Rattle.bits.specs.Byte.{pick}
use Rattle.bits.proofs.Finite.{both as both_true}
use Rattle.std.specs.Prelude.{Ok}
use Rattle.events.specs.declared.Event.TheVariants as event
use Rattle.events.specs.Word.{decode}
use Rattle.chip.specs.declared.Chip.{Chip}
use Rattle.chip_well_formed.specs.WellFormed.{well_formed}
use Rattle.chip_writes.specs.Writes.{write_number}
use Rattle.chip_events.specs.Outcome.{next, was_reset}
use Rattle.chip_laws.proofs.WellFormed.{next_well_formed}
use Rattle.cpu_opcodes.specs.Opcodes.{operation_of, entry_of, is_documented}
use Rattle.cpu_operations.specs.declared.Cpu.{Cpu}
use Rattle.cpu_memory.specs.declared.Loaded.{Loaded}
use Rattle.cpu_memory.specs.declared.Loaded.TheVariants.{Byte, Refused}
use Rattle.cpu_memory.specs.Memory.{place, after_push}
use Rattle.cpu_memory.specs.Reads.{Result, gives, refuses, on_byte}
use Rattle.cpu_instruction.specs.declared.Effect.{Effect}
use Rattle.cpu_instruction.specs.Program.{Instruction, leaves, rejected, reads, pushes, perform, and_then}
use Rattle.cpu_instruction.specs.Instruction.{instruction, instruction_by, instruction_of, interrupt, interrupted, trap, reset_cpu}
use Rattle.cpu_execution.specs.declared.Destination.{Destination}
use Rattle.cpu_execution.specs.declared.Destination.TheVariants as to
use Rattle.cpu_step.specs.InstructionTurn.{destination, stored, cycles_with, counted, is_interrupted}
use Rattle.firmware_machine.specs.Machine.{Machine, machine, turned, load, finished, stored_to, completed, instruct, is_requesting, interrupt_taken, after_interrupt, turn}
use Rattle.firmware_machine.specs.Run.{Ended, ended, runs, after_events, left, occurred, number_of, word_of, is_well_formed}
use Rattle.firmware_laws.specs.History.{Given, listed, written, clocked, event_of, chip_after, clocks_in, clock_due, given_to, given_with, cycles_to, cycles_by, instruction_result, interrupt_result, interrupt_given, interrupt_cycles, instruction_given, instruction_cycles, turn_given, turn_cycles, given_before, history, cycles_counted}
use Rattle.firmware_laws.specs.Clocks.{Bounded, Counted}
use Rattle.firmware_laws.proofs.Trees.{Regular, documented_regular, undocumented_rejected}

-- ---- cycles of an instruction

byte_bounded : (over : ℕ) (l : Loaded) (g : ℕ → Result Effect) → ((b : ℕ) → Bounded over (g b)) → Bounded over (on_byte l g)
byte_bounded over (Byte b) g h = h b
byte_bounded over (Refused n) g h = tt

regular_bounded : (over : ℕ) (f : ℕ → Loaded) (t : Instruction) → Regular over t → Bounded over (perform f t)
unfolding perform
regular_bounded over f (leaves e) r = r
regular_bounded over f rejected r = tt
regular_bounded over f (reads a k) r = byte_bounded over (f a) (λ (b : ℕ). perform f (k b)) (λ (b : ℕ). regular_bounded over f (k b) (r b))
regular_bounded over f (pushes s b t) r = regular_bounded over (after_push s b f) t r

opcode_bounded : (f : ℕ → Loaded) (opcode : ℕ) (c : Cpu) (d : Bool) → is_documented (operation_of (entry_of opcode)) ≡ d → Bounded c.over (perform f (instruction_of (entry_of opcode) c))
unfolding perform
opcode_bounded f opcode c true h = regular_bounded c.over f (instruction_of (entry_of opcode) c) (documented_regular opcode c h)
opcode_bounded f opcode c false h = rw (undocumented_rejected opcode c h) tt

pub instruction_bounded : (f : ℕ → Loaded) (c : Cpu) → Bounded c.over (perform f (instruction c))
unfolding perform instruction_by entry_of
instruction_bounded f c = byte_bounded c.over (f c.pc) (λ (b : ℕ). perform f (instruction_of (entry_of b) c)) (λ (b : ℕ). opcode_bounded f b c (is_documented (operation_of (entry_of b))) refl)

pub interrupt_result_lem : (rom : List ℕ) (c : Cpu) (ram : List ℕ) (k : Chip) → perform (load ram k rom) (interrupt c) ≡ gives (interrupted rom c)
unfolding perform and_then trap load place after_push interrupted
interrupt_result_lem rom c ram k = refl

interrupt_bounded : (rom : List ℕ) (c : Cpu) → Bounded c.over (gives (interrupted rom c))
unfolding interrupted
interrupt_bounded rom c = (refl, omega arith)

-- at most one 8 µs clock is due behind an instruction, and behind an interrupt
one_clock_by : (over : ℕ) (r : Result Effect) → Bounded over r → over < 32 → (e : Effect) → r ≡ gives e → cycles_with e < 64
one_clock_by over r h o e q =
    let z : Bounded over (gives e) = subst (Bounded over) q h in
    omega (arith, z.0, z.1)

pub one_clock : (f : ℕ → Loaded) (c : Cpu) → c.over < 32 → (e : Effect) → perform f (instruction c) ≡ gives e → cycles_with e < 64
one_clock f c o e q = one_clock_by c.over (perform f (instruction c)) (instruction_bounded f c) o e q

pub one_clock_interrupt : (rom : List ℕ) (c : Cpu) → c.over < 32 → cycles_with (interrupted rom c) < 64
one_clock_interrupt rom c o = one_clock_by c.over (gives (interrupted rom c)) (interrupt_bounded rom c) o (interrupted rom c) refl

-- ---- cycles in balance: those over before and those counted are 32 for each clock, and those over after

clocks_append : (s t : List Given) → clocks_in (s ++ t) ≡ clocks_in s + clocks_in t
clocks_append [] t = omega arith
clocks_append (listed w ∷ s) t = clocks_append s t
clocks_append (written r b ∷ s) t = clocks_append s t
clocks_append (clocked ∷ s) t = let z = clocks_append s t in omega (arith, z)

chip_append : (k : Chip) (s t : List Given) → chip_after k (s ++ t) ≡ chip_after (chip_after k s) t
chip_append k [] t = refl
chip_append k (g ∷ s) t = chip_append (next k (event_of g)) s t

joined : {m x y : Machine} {a b : ℕ} {s t : List Given} → Counted m x a s → Counted x y b t → Counted m y (a + b) (s ++ t)
joined {m} {x} {y} {a} {b} {s} {t} p q =
    record {
      chip = chip_append m.chip s t ∙ ap (λ (k : Chip). chip_after k t) p.chip ∙ q.chip;
      balance = record { sum = rw (clocks_append s t) (omega (arith, p.balance.sum, q.balance.sum)); small = q.balance.small };
    }

nothing : (m : Machine) → m.cpu.over < 32 → Counted m m 0 []
nothing m o = record { chip = refl; balance = record { sum = omega arith; small = o } }

-- ---- an instruction or interrupt

due_by : (b : Bool) (w : ℕ) (k : Chip) → ltb w 32 ≡ b → w < 64
    → (chip_after k (pick b [] (clocked ∷ [])) ≡ pick b k (next k (Ok (event.Clock 0)))) × (w ≡ clocks_in (pick b [] (clocked ∷ [])) * 32 + w % 32)
due_by true w k h g = (refl, omega (arith, ltb-true w 32 h))
due_by false w k h g = (refl, omega (arith, ltb-false w 32 h))

finished_counted : (e : Effect) (m : Machine) (ram : List ℕ) (k : Chip) (s : List Given) → Bounded m.cpu.over (gives e) → m.cpu.over < 32
    → chip_after m.chip s ≡ k → clocks_in s ≡ 0 → Counted m (finished e ram k).machine e.cycles (s ++ clock_due (cycles_with e))
finished_counted e m ram k s b o c z =
    let d = due_by (ltb (cycles_with e) 32) (cycles_with e) k refl (omega (arith, b.0, b.1)) in
    record {
      chip = chip_append m.chip s (clock_due (cycles_with e)) ∙ ap (λ (x : Chip). chip_after x (clock_due (cycles_with e))) c ∙ d.0;
      balance = record { sum = rw (clocks_append s (clock_due (cycles_with e)), z) (omega (arith, d.1, b.0)); small = omega arith };
    }

register_counted : (e : Effect) (m : Machine) (r b : ℕ) (n : ℕ) (t : Bool) → Bounded m.cpu.over (gives e) → m.cpu.over < 32
    → Counted m (pick t (finished e m.ram (next m.chip (Ok (event.Write r b)))) (turned m n)).machine (pick t e.cycles 0) (pick t (written r b ∷ clock_due (cycles_with e)) [])
register_counted e m r b n true h o = finished_counted e m m.ram (next m.chip (Ok (event.Write r b))) (written r b ∷ []) h o refl refl
register_counted e m r b n false h o = nothing m o

stored_counted : (d : Destination) (e : Effect) (m : Machine) → Bounded m.cpu.over (gives e) → m.cpu.over < 32
    → Counted m (stored_to d e m).machine (cycles_to d e m) (given_to d e m)
stored_counted to.Ram e m h o = finished_counted e m (stored m.ram e.store) m.chip [] h o refl refl
stored_counted (to.Register r b) e m h o = register_counted e m r b (write_number m.chip.core.reset r) (eqb (write_number m.chip.core.reset r) 0) h o
stored_counted (to.Refused n) e m h o = nothing m o

completed_counted : (r : Result Effect) (m : Machine) → Bounded m.cpu.over r → m.cpu.over < 32 → Counted m (completed r m).machine (cycles_by r m) (given_with r m)
completed_counted (gives e) m h o = stored_counted (destination e.store) e m h o
completed_counted (refuses n) m h o = nothing m o

instruct_counted : (rom : List ℕ) (m : Machine) → m.cpu.over < 32 → Counted m (instruct rom m).machine (instruction_cycles rom m) (instruction_given rom m)
unfolding instruct instruction_cycles instruction_given
instruct_counted rom m o = completed_counted (instruction_result rom m) m (instruction_bounded (load m.ram m.chip rom) m.cpu) o

trap_bounded : (rom : List ℕ) (m : Machine) → Bounded m.cpu.over (interrupt_result rom m)
trap_bounded rom m = subst (Bounded m.cpu.over) (sym (interrupt_result_lem rom m.cpu m.ram m.chip)) (interrupt_bounded rom m.cpu)

interrupt_by : (b : Bool) (rom : List ℕ) (m x : Machine) → m.cpu.over < 32 → Counted m x (cycles_by (interrupt_result rom m) m) (given_with (interrupt_result rom m) m)
    → Counted m (pick b x m) (pick b (cycles_by (interrupt_result rom m) m) 0) (pick b (given_with (interrupt_result rom m) m) [])
interrupt_by true rom m x o h = h
interrupt_by false rom m x o h = nothing m o

interrupt_counted : (rom : List ℕ) (m : Machine) → m.cpu.over < 32 → Counted m (after_interrupt rom m) (interrupt_cycles rom m) (interrupt_given rom m)
unfolding after_interrupt interrupt_taken interrupt_cycles interrupt_given
interrupt_counted rom m o =
    interrupt_by (is_interrupted (is_requesting m.chip) m.cpu) rom m (completed (interrupt_result rom m) m).machine o (completed_counted (interrupt_result rom m) m (trap_bounded rom m) o)

-- ---- a turn

turn_by : (b : Bool) (rom : List ℕ) (m : Machine) → m.cpu.over < 32
    → Counted m (pick b (instruct rom (after_interrupt rom m)) (turned m 0)).machine (pick b (interrupt_cycles rom m + instruction_cycles rom (after_interrupt rom m)) 0)
    (pick b (interrupt_given rom m ++ instruction_given rom (after_interrupt rom m)) [])
turn_by true rom m o = let i = interrupt_counted rom m o in joined i (instruct_counted rom (after_interrupt rom m) i.balance.small)
turn_by false rom m o = nothing m o

turn_counted : (rom : List ℕ) (m : Machine) → m.cpu.over < 32 → Counted m (turn rom m).machine (turn_cycles rom m) (turn_given rom m)
unfolding turn turn_cycles turn_given
turn_counted rom m o = turn_by m.chip.core.reset rom m o

-- ---- listed events: they take no cycles, and leave the cycles over

reset_over : (b : Bool) (rom : List ℕ) (c : Cpu) → (pick b (reset_cpu rom c) c).over ≡ c.over
unfolding reset_cpu
reset_over true rom c = refl
reset_over false rom c = refl

occurred_counted : (rom : List ℕ) (m : Machine) (w : ℕ) → m.cpu.over < 32 → Counted m (occurred rom m w) 0 (listed w ∷ [])
unfolding occurred
occurred_counted rom m w o =
    let z = reset_over (was_reset m.chip (decode w)) rom m.cpu in
    record { chip = refl; balance = record { sum = omega (arith, z); small = omega (arith, z) } }

after_events_by : (b : Bool) (m x : Machine) (s : List Given) → m.cpu.over < 32 → Counted m x 0 s → Counted m (pick b m x) 0 (pick b [] s)
after_events_by true m x s o h = nothing m o
after_events_by false m x s o h = h

after_events_counted : (rom : List ℕ) (i : ℕ) (es : List ℕ) (m : Machine) → m.cpu.over < 32 → Counted m (after_events rom i es m) 0 (given_before i es)
unfolding after_events given_before
after_events_counted rom i [] m o = nothing m o
after_events_counted rom i (e ∷ es) m o =
    let one = occurred_counted rom m (word_of e) o in
    after_events_by (ltb i (number_of e)) m (after_events rom i es (occurred rom m (word_of e))) (listed (word_of e) ∷ given_before i es) o
    (joined one (after_events_counted rom i es (occurred rom m (word_of e)) one.balance.small))

-- ---- a run

on_counted : (b : Bool) (x y : Machine) (n i : ℕ) (e : Ended) (a : ℕ) (s : List Given) → x.cpu.over < 32 → Counted x e.machine a s
    → Counted x (pick b e (ended x n i [])).machine (pick b a 0) (pick b s [])
on_counted true x y n i e a s o h = h
on_counted false x y n i e a s o h = nothing x o

pub run_counted : (n i : ℕ) (rom es : List ℕ) (m : Machine) → m.cpu.over < 32 → Counted m (runs n i rom es m).machine (cycles_counted n i rom es m) (history n i rom es m)
unfolding runs cycles_counted history
run_counted zero i rom es m o = nothing m o
run_counted (suc n) i rom es m o =
    let f = after_events_counted rom i es m o in
    let x = turn rom (after_events rom i es m) in
    let t = turn_counted rom (after_events rom i es m) f.balance.small in
    let r = run_counted n (i + 1) rom (left i es) x.machine t.balance.small in
    let z = joined f (joined t (on_counted (eqb x.number 0) x.machine x.machine x.number i (runs n (i + 1) rom (left i es) x.machine)
    (cycles_counted n (i + 1) rom (left i es) x.machine) (history n (i + 1) rom (left i es) x.machine) t.balance.small r)) in
    record { chip = z.chip; balance = record { sum = omega (arith, z.balance.sum); small = z.balance.small } }

-- the clocks that a run gives are the cycles over and those counted, by 32; the rest are over
pub run_clocks : (n i : ℕ) (rom es : List ℕ) (m : Machine) → m.cpu.over < 32
    → (clocks_in (history n i rom es m) ≡ (m.cpu.over + cycles_counted n i rom es m) / 32)
    × ((runs n i rom es m).machine.cpu.over ≡ (m.cpu.over + cycles_counted n i rom es m) % 32)
run_clocks n i rom es m o =
    let z = (run_counted n i rom es m o).balance in
    (omega (arith, z.sum, z.small), omega (arith, z.sum, z.small))

-- ---- well formed is kept

after_well_formed : (k : Chip) (s : List Given) → well_formed k ≡ true → well_formed (chip_after k s) ≡ true
after_well_formed k [] h = h
after_well_formed k (g ∷ s) h = after_well_formed (next k (event_of g)) s (next_well_formed k (event_of g) h)

pub run_well_formed : (n i : ℕ) (rom es : List ℕ) (m : Machine) → is_well_formed m.cpu m.chip ≡ true
    → is_well_formed (runs n i rom es m).machine.cpu (runs n i rom es m).machine.chip ≡ true
run_well_formed n i rom es m h =
    let b = both_true (ltb m.cpu.over 32) (well_formed m.chip) h in
    let z = run_counted n i rom es m (ltb-true m.cpu.over 32 b.0) in
    let w : well_formed (runs n i rom es m).machine.chip ≡ true = rw z.chip at (after_well_formed m.chip (history n i rom es m) b.1) in
    rw (lt-ltb (runs n i rom es m).machine.cpu.over 32 z.balance.small, w)
