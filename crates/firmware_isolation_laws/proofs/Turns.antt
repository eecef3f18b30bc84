-- One turn of two related machines: the same accesses, the same number, and related machines again. No case for any opcode.
use Prim.Native.Nat.{ℕ, ◌+◌, ◌-◌}
use mathlib.Core.Path.{◌≡◌, refl, ap, ap₂, sym, ◌∙◌}
use mathlib.Core.Bool.{Bool, true, false, not}
use mathlib.Core.List.{List, [], ◌++◌}
use lib.Dec.{eqb, ltb}
use Rattle.bits.specs.Byte.{pick}
use Rattle.bits.proofs.Finite.{both as both_true}
use Rattle.std.specs.Prelude.{Ok}
use Rattle.events.specs.declared.Event.TheVariants.{Write, Clock}
use Rattle.chip.specs.declared.Chip.{Chip}
use Rattle.chip_writes.specs.Writes.{write_number}
use Rattle.chip_events.specs.Outcome.{next}
use Rattle.isolation_laws.specs.Foreign.{Observer, observe, permitted}
use Rattle.isolation_laws.specs.Related.{RelatedChips}
use Rattle.isolation_laws.specs.Related.{same}
use Rattle.isolation_laws.proofs.Events.{event_related, reset_equal, requests_equal, write_number_equal, reading_equal}
use Rattle.cpu_operations.specs.declared.Cpu.{Cpu}
use Rattle.cpu_memory.specs.declared.Place.{Place}
use Rattle.cpu_memory.specs.declared.Place.TheVariants as at
use Rattle.cpu_memory.specs.declared.Store.{Store}
use Rattle.cpu_memory.specs.declared.Store.TheVariants.{Nothing, Byte, PushOne, PushTwo, PushThree}
use Rattle.cpu_memory.specs.Memory.{place, after_push}
use Rattle.cpu_memory.specs.Reads.{Result, gives, refuses}
use Rattle.cpu_instruction.specs.declared.Effect.{Effect}
use Rattle.cpu_instruction.specs.Program.{and_then, perform, Access, last_access, accesses, Unread}
use Rattle.cpu_instruction.specs.Instruction.{trap, instruction, interrupt, interrupted}
use Rattle.cpu_instruction.proofs.Agree.{agree}
use Rattle.cpu_step.specs.InstructionTurn.{destination_at, destination, stored, cycles_with, counted, is_interrupted}
use Rattle.firmware_machine.specs.Machine.{Machine, machine, turned, register_read, load_at, load, finished, stored_to, completed, instruct, is_requesting, interrupt_taken, after_interrupt, turn}
use Rattle.firmware_machine.proofs.Loads.{LowResult, low}
use Rattle.firmware_machine.proofs.Interrupts.{interrupt_is}
use Rattle.firmware_isolation_laws.specs.Trace.{interrupt_accesses, instruction_accesses, turn_accesses}
use Rattle.firmware_isolation_laws.specs.Related.{watch, writes_permitted}
use Rattle.firmware_isolation_laws.specs.Related.{Both, Ended, both, halted, onward}
use Rattle.firmware_isolation_laws.proofs.Observers.{away, clock_unseen, clock_permitted, write_permitted_equal, Leads, to_register, to_ram, to_rom, to_none, leads, watch_append, permitted_right, unread_right, Ends, ends}

-- ---- reads: but for II DAT they are the same

load_by : (b₁ b₂ b₃ b₄ b₅ : Bool) (a : ℕ) (ram rom : List ℕ) {d e : Chip} {o p : Observer} → RelatedChips d e o p → eqb a 20 ≡ false
    → load_at ram d rom (pick b₁ (pick b₂ (pick b₃ (pick b₄ (at.Register a) at.Unmapped) (at.Ram (a - 0x80))) (pick b₅ (at.Ram (a - 0x180)) at.Unmapped)) (at.Rom (a - 0xA000)))
    ≡ load_at ram e rom (pick b₁ (pick b₂ (pick b₃ (pick b₄ (at.Register a) at.Unmapped) (at.Ram (a - 0x80))) (pick b₅ (at.Ram (a - 0x180)) at.Unmapped)) (at.Rom (a - 0xA000)))
load_by true true true true b₅ a ram rom t h = ap register_read (reading_equal t a h)
load_by true true true false b₅ a ram rom t h = refl
load_by true true false b₄ b₅ a ram rom t h = refl
load_by true false b₃ b₄ true a ram rom t h = refl
load_by true false b₃ b₄ false a ram rom t h = refl
load_by false b₂ b₃ b₄ b₅ a ram rom t h = refl

loads : (ram rom : List ℕ) {d e : Chip} {o p : Observer} → RelatedChips d e o p → (a : ℕ) → eqb a 20 ≡ false → load ram d rom a ≡ load ram e rom a
unfolding load place
loads ram rom t a h = load_by (ltb a 0xA000) (ltb a 0x180) (ltb a 0x80) (ltb a 0x26) (ltb a 0x200) a ram rom t h

-- ---- the clock behind an instruction

clock_by : (b : Bool) {d e : Chip} {o p : Observer} → RelatedChips d e o p → RelatedChips (pick b d (next d (Ok (Clock 0)))) (pick b e (next e (Ok (Clock 0)))) o p
clock_by true t = t
clock_by false {o = o} {p = p} t = rw (clock_unseen o, clock_unseen p) at (event_related t (same {e = Ok (Clock 0)} refl) (clock_permitted o) (clock_permitted p))

finish : (x : Effect) (ram : List ℕ) {d e : Chip} {o p : Observer} → RelatedChips d e o p → Ended o p (finished x ram d) (finished x ram e)
finish x ram t = onward (both (counted x) ram (clock_by (ltb (cycles_with x) 32) t))

-- ---- the store

write_by : (x : Effect) (c : Cpu) (ram : List ℕ) (a b : ℕ) {d e : Chip} {o p : Observer} → RelatedChips d e o p → permitted o (Ok (Write a b)) ≡ true
    → (n n' : ℕ) → n ≡ n' → (z : Bool) → eqb n 0 ≡ z
    → Ended (observe o (Ok (Write a b))) (observe p (Ok (Write a b)))
    (pick (eqb n 0) (finished x ram (next d (Ok (Write a b)))) (turned (machine c ram d) n))
    (pick (eqb n' 0) (finished x ram (next e (Ok (Write a b)))) (turned (machine c ram e) n'))
write_by x c ram a b t h n n' q true z =
    rw (← q, z) (finish x ram (event_related t (same {e = Ok (Write a b)} refl) h (sym (write_permitted_equal t a b) ∙ h)))
write_by x c ram a b t h n n' q false z = rw (← q, z) (halted n z (both c ram t))

store_at : (x : Effect) (c : Cpu) (ram : List ℕ) (a b : ℕ) {d e : Chip} {o p : Observer} → RelatedChips d e o p → permitted o (Ok (Write a b)) ≡ true
    → (q : Place) → Leads a q
    → Ended (observe o (Ok (Write a b))) (observe p (Ok (Write a b))) (stored_to (destination_at b q) x (machine c ram d)) (stored_to (destination_at b q) x (machine c ram e))
store_at x c ram a b {d} {e} t h _ to_register = write_by x c ram a b t h (write_number d.core.reset a) (write_number e.core.reset a) (write_number_equal t a) _ refl
store_at x c ram a b {o = o} {p = p} t h _ (to_ram i g) = rw (away o a b g, away p a b g) (finish x (stored ram x.store) t)
store_at x c ram a b t h _ (to_rom i g) = halted 21 refl (both c ram t)
store_at x c ram a b t h _ (to_none g) = halted 21 refl (both c ram t)

stores : (x : Effect) (s : Store) (c : Cpu) (ram : List ℕ) {d e : Chip} {o p : Observer} → RelatedChips d e o p → writes_permitted o (last_access s) ≡ true
    → Ended (watch o (last_access s)) (watch p (last_access s)) (stored_to (destination s) x (machine c ram d)) (stored_to (destination s) x (machine c ram e))
unfolding destination
stores x Nothing c ram t h = finish x (stored ram x.store) t
stores x (Byte a b) c ram {o = o} t h = store_at x c ram a b t (both_true (permitted o (Ok (Write a b))) _ h).0 (place a) (leads a)
stores x (PushOne s b) c ram t h = finish x (stored ram x.store) t
stores x (PushTwo s b b') c ram t h = finish x (stored ram x.store) t
stores x (PushThree s b b' b'') c ram t h = finish x (stored ram x.store) t

-- ---- an instruction: one lemma for all

complete : (r : Result Effect) (s : List Access) (c : Cpu) (ram : List ℕ) {d e : Chip} {o p : Observer} → RelatedChips d e o p → Ends o s r → Ends p s r → LowResult r
    → writes_permitted o s ≡ true → Ended (watch o s) (watch p s) (completed r (machine c ram d)) (completed r (machine c ram e))
complete (gives x) s c ram t q q' l h = rw (q.0, q'.0) (stores x x.store c ram t (q.1 h))
complete (refuses n) s c ram t q q' l h = halted n l.0 (both c ram t)

pub instructs : (rom : List ℕ) {m m' : Machine} {o p : Observer} → Both m m' o p → Unread 20 (instruction_accesses rom m) → writes_permitted o (instruction_accesses rom m) ≡ true
    → Ended (watch o (instruction_accesses rom m)) (watch p (instruction_accesses rom m)) (instruct rom m) (instruct rom m')
    × (instruction_accesses rom m ≡ instruction_accesses rom m')
unfolding instruction_accesses instruct
instructs rom (both c ram {d} {e} {o} {p} t) u h =
    let f = load ram d rom in
    let z = agree 20 f (load ram e rom) (loads ram rom t) (instruction c) u in
    (rw (← z.0) (complete (perform f (instruction c)) (accesses f (instruction c)) c ram t (ends o f (instruction c)) (ends p f (instruction c)) (low ram rom d (instruction c)) h), z.1)

-- ---- an interrupt: its accesses are the same whatever the chip is, and not seen

interrupt_accesses_lem : (rom : List ℕ) (c : Cpu) (ram : List ℕ) (d e : Chip) → accesses (load ram d rom) (interrupt c) ≡ accesses (load ram e rom) (interrupt c)
unfolding accesses and_then trap load place after_push
interrupt_accesses_lem rom c ram d e = refl

interrupt_unseen : (rom : List ℕ) (c : Cpu) (ram : List ℕ) (d : Chip) (o : Observer) → watch o (accesses (load ram d rom) (interrupt c)) ≡ o
unfolding perform and_then trap load place after_push
interrupt_unseen rom c ram d o = (ends o (load ram d rom) (interrupt c)).0

interrupt_both : (rom : List ℕ) (c : Cpu) (ram : List ℕ) {d e : Chip} {o p : Observer} → RelatedChips d e o p
    → Both (interrupt_taken rom (machine c ram d)) (interrupt_taken rom (machine c ram e)) o p
interrupt_both rom c ram {d} {e} t =
    rw (interrupt_is rom c ram d, interrupt_is rom c ram e)
    (both (counted (interrupted rom c)) (stored ram (interrupted rom c).store) (clock_by (ltb (cycles_with (interrupted rom c)) 32) t))

record Interrupted (rom : List ℕ) (s s' : List Access) (m m' : Machine) (o p : Observer) : Type 0 where
  state : Both m m' o p
  accesses : s ≡ s'
  left : watch o s ≡ o
  right : watch p s ≡ p

interrupt_by : (b b' : Bool) → b ≡ b' → (rom : List ℕ) (c : Cpu) (ram : List ℕ) {d e : Chip} {o p : Observer} → RelatedChips d e o p
    → Interrupted rom (pick b (accesses (load ram d rom) (interrupt c)) []) (pick b' (accesses (load ram e rom) (interrupt c)) [])
    (pick b (interrupt_taken rom (machine c ram d)) (machine c ram d)) (pick b' (interrupt_taken rom (machine c ram e)) (machine c ram e)) o p
interrupt_by true b' h rom c ram {d} {e} {o} {p} t =
    rw (← h) (record {
      state = interrupt_both rom c ram t;
      accesses = interrupt_accesses_lem rom c ram d e;
      left = interrupt_unseen rom c ram d o;
      right = interrupt_unseen rom c ram d p;
    })
interrupt_by false b' h rom c ram t = rw (← h) (record { state = both c ram t; accesses = refl; left = refl; right = refl })

requesting_equal : {d e : Chip} {o p : Observer} → RelatedChips d e o p → is_requesting d ≡ is_requesting e
unfolding is_requesting
requesting_equal t = ap (λ (n : ℕ). not (eqb n 0)) (requests_equal t)

interrupts : (rom : List ℕ) {m m' : Machine} {o p : Observer} → Both m m' o p
    → Interrupted rom (interrupt_accesses rom m) (interrupt_accesses rom m') (after_interrupt rom m) (after_interrupt rom m') o p
unfolding interrupt_accesses after_interrupt
interrupts rom (both c ram {d} {e} t) =
    interrupt_by (is_interrupted (is_requesting d) c) (is_interrupted (is_requesting e) c) (ap (λ (b : Bool). is_interrupted b c) (requesting_equal t)) rom c ram t

-- ---- a turn

turn_high : (rom : List ℕ) {m m' : Machine} {o p : Observer} → Both m m' o p
    → Unread 20 (interrupt_accesses rom m ++ instruction_accesses rom (after_interrupt rom m))
    → writes_permitted o (interrupt_accesses rom m ++ instruction_accesses rom (after_interrupt rom m)) ≡ true
    → Ended (watch o (interrupt_accesses rom m ++ instruction_accesses rom (after_interrupt rom m))) (watch p (interrupt_accesses rom m ++ instruction_accesses rom (after_interrupt rom m)))
    (instruct rom (after_interrupt rom m)) (instruct rom (after_interrupt rom m'))
    × ((interrupt_accesses rom m ++ instruction_accesses rom (after_interrupt rom m)) ≡ (interrupt_accesses rom m' ++ instruction_accesses rom (after_interrupt rom m')))
turn_high rom {m} {m'} {o} {p} k u h =
    let i = interrupts rom k in
    let s = interrupt_accesses rom m in
    let t = instruction_accesses rom (after_interrupt rom m) in
    let w : writes_permitted o t ≡ true = rw i.left at (permitted_right s t o h) in
    let z = instructs rom i.state (unread_right 20 s t u) w in
    let l : watch o (s ++ t) ≡ watch o t = watch_append s t o ∙ ap (λ (q : Observer). watch q t) i.left in
    let r : watch p (s ++ t) ≡ watch p t = watch_append s t p ∙ ap (λ (q : Observer). watch q t) i.right in
    (rw (l, r) z.0, ap₂ (λ (a b : List Access). a ++ b) i.accesses z.1)

turn_by : (b b' : Bool) → b ≡ b' → (rom : List ℕ) {m m' : Machine} {o p : Observer} → Both m m' o p
    → Unread 20 (pick b (interrupt_accesses rom m ++ instruction_accesses rom (after_interrupt rom m)) [])
    → writes_permitted o (pick b (interrupt_accesses rom m ++ instruction_accesses rom (after_interrupt rom m)) []) ≡ true
    → Ended (watch o (pick b (interrupt_accesses rom m ++ instruction_accesses rom (after_interrupt rom m)) [])) (watch p (pick b (interrupt_accesses rom m ++ instruction_accesses rom (after_interrupt rom m)) []))
    (pick b (instruct rom (after_interrupt rom m)) (turned m 0)) (pick b' (instruct rom (after_interrupt rom m')) (turned m' 0))
    × (pick b (interrupt_accesses rom m ++ instruction_accesses rom (after_interrupt rom m)) [] ≡ pick b' (interrupt_accesses rom m' ++ instruction_accesses rom (after_interrupt rom m')) [])
turn_by true b' e rom k u h = rw (← e) (turn_high rom k u h)
turn_by false b' e rom k u h = rw (← e) (onward k, refl)

pub turns : (rom : List ℕ) {m m' : Machine} {o p : Observer} → Both m m' o p → Unread 20 (turn_accesses rom m) → writes_permitted o (turn_accesses rom m) ≡ true
    → Ended (watch o (turn_accesses rom m)) (watch p (turn_accesses rom m)) (turn rom m) (turn rom m') × (turn_accesses rom m ≡ turn_accesses rom m')
unfolding turn_accesses turn
turns rom (both c ram {d} {e} t) u h = turn_by d.core.reset e.core.reset (reset_equal t) rom (both c ram t) u h
