-- The run and its turns where no event is due before them.
use Prim.Native.Nat.{ℕ, zero, suc, ◌+◌, ◌-◌, ◌<◌, ◌≤◌}
use mathlib.Core.Path.{◌≡◌, refl, ap, sym, ◌∙◌}
use mathlib.Core.Bool.{Bool, true, false, true≢false}
use mathlib.Core.List.{List, [], ◌∷◌}
use native.Mathlib.Omega.{arith}
use lib.Dec.{eqb, ltb}
use borrow.Author.Tests.{lt-ltb}
use Rattle.bits.specs.Byte.{pick}
use Rattle.chip.specs.declared.Chip.{Chip}
use Rattle.cpu_operations.specs.declared.Cpu.{Cpu}
use Rattle.cpu_step.specs.InstructionTurn.{is_interrupted}
use Rattle.firmware_machine.specs.Machine.{Machine, machine, Turned, is_requesting, interrupt_taken, turn}
use Rattle.firmware_machine.specs.Run.{number_of, after_events, answers_before, left, Ended, ended, on_turned, runs}
use Rattle.firmware_machine.specs.Turns.{Later, Idle, on_ended, next_at_lem, none}
use Rattle.firmware_machine.proofs.Interrupts.{interrupt_turn}

-- ---- no event is due before instruction `to`

pub idle : (rom : List ℕ) (i to : ℕ) (es : List ℕ) (m : Machine) → i < to → Later to es → Idle rom i es m
unfolding after_events answers_before left
idle rom i to [] m h none = record { state = refl; answers = refl; rest = refl }
idle rom i to (e ∷ es) m h (next_at_lem _ _ g) =
    let z : ltb i (number_of e) ≡ true = lt-ltb i (number_of e) (omega arith) in
    record { state = rw z; answers = rw z; rest = rw z }

-- with none due a run is the turn of its first instruction, and then the rest
pub runs_turn : (n i : ℕ) (rom es : List ℕ) (m : Machine) → i < n → Idle rom i es m
    → runs (n - i) i rom es m ≡ on_turned (turn rom m) i (λ (t : Machine). runs (n - (i + 1)) (i + 1) rom es t)
unfolding runs
runs_turn n i rom es m h d =
    let j : n - i ≡ suc (n - (i + 1)) = omega arith in
    rw (j, d.state, d.answers, d.rest)

-- ---- an interrupt comes only where I is clear

taken_clear_by : (b i : Bool) (c : Cpu) → c.p.i ≡ i → is_interrupted b c ≡ true → i ≡ false
taken_clear_by true true c e h = absurd (true≢false (sym h ∙ (rw e)))
taken_clear_by true false c e h = refl
taken_clear_by false i c e h = absurd (true≢false (sym h))

pub taken_clear : (b : Bool) (c : Cpu) → is_interrupted b c ≡ true → c.p.i ≡ false
taken_clear b c h = taken_clear_by b c.p.i c refl h

-- ---- with no events

no_event_lem : (rom : List ℕ) (i : ℕ) (m : Machine) → Idle rom i [] m
no_event_lem rom i m = idle rom i (i + 1) [] m (omega arith) none

-- the turn of the first instruction, and then the rest
pub runs_first : (to i : ℕ) (rom : List ℕ) (m : Machine) → i < to → runs (to - i) i rom [] m ≡ on_turned (turn rom m) i (λ (t : Machine). runs (to - (i + 1)) (i + 1) rom [] t)
runs_first to i rom m h = runs_turn to i rom [] m h (no_event_lem rom i m)

-- an interrupt is no instruction: the run from behind it is the run with it
pub runs_interrupt : (to i : ℕ) (rom : List ℕ) (c : Cpu) (ram : List ℕ) (k : Chip) → i < to → k.core.reset ≡ true → is_interrupted (is_requesting k) c ≡ true
    → runs (to - i) i rom [] (machine c ram k) ≡ runs (to - i) i rom [] (interrupt_taken rom (machine c ram k))
runs_interrupt to i rom c ram k h g e =
    runs_first to i rom (machine c ram k) h
    ∙ ap (λ (t : Turned). on_turned t i (λ (t : Machine). runs (to - (i + 1)) (i + 1) rom [] t)) (interrupt_turn rom c ram k g e)
    ∙ sym (runs_first to i rom (interrupt_taken rom (machine c ram k)) h)

turn_low : (rom : List ℕ) (m : Machine) → m.chip.core.reset ≡ false → turn rom m ≡ record { machine = m; number = 0 }
unfolding turn
turn_low rom m h = rw h

runs_low_by : (n i : ℕ) (rom : List ℕ) (m : Machine) → m.chip.core.reset ≡ false → runs n i rom [] m ≡ ended m 0 (i + n) []
unfolding runs after_events answers_before left
runs_low_by zero i rom m h = ap (λ (j : ℕ). ended m 0 j []) (let z : i ≡ i + 0 = omega arith in z)
runs_low_by (suc n) i rom m h =
    rw (turn_low rom m h) (runs_low_by n (i + 1) rom m h ∙ ap (λ (j : ℕ). ended m 0 j []) (let z : i + 1 + n ≡ i + suc n = omega arith in z))

-- while RESET is low instructions do nothing
pub runs_low : (to i : ℕ) (rom : List ℕ) (m : Machine) → i < to → m.chip.core.reset ≡ false → runs (to - i) i rom [] m ≡ ended m 0 to []
runs_low to i rom m l h = runs_low_by (to - i) i rom m h ∙ ap (λ (j : ℕ). ended m 0 j []) (let z : i + (to - i) ≡ to = omega arith in z)

-- ---- the run up to the next event, and from there on

onward_by : (t : Turned) (i : ℕ) (b : Bool) → eqb t.number 0 ≡ b → (f g : Machine → Ended) (h : ℕ → Machine → Ended) → ((m : Machine) → f m ≡ on_ended (g m) h)
    → pick b (f t.machine) (ended t.machine t.number i []) ≡ on_ended (pick b (g t.machine) (ended t.machine t.number i [])) h
onward_by t i true e f g h z = z t.machine
onward_by t i false e f g h z = rw e refl

split_by : (l n i to : ℕ) (rom es : List ℕ) (m : Machine) → to ≡ i + l → to ≤ n → Later to es
    → runs (n - i) i rom es m ≡ on_ended (runs l i rom [] m) (λ (j : ℕ) (t : Machine). runs (n - j) j rom es t)
unfolding runs after_events answers_before left
split_by zero n i to rom es m e h d = refl
split_by (suc l) n i to rom es m e h d =
    runs_turn n i rom es m (omega arith) (idle rom i to es m (omega arith) d)
    ∙ onward_by (turn rom m) i (eqb (turn rom m).number 0) refl (λ (t : Machine). runs (n - (i + 1)) (i + 1) rom es t) (λ (t : Machine). runs l (i + 1) rom [] t)
    (λ (j : ℕ) (t : Machine). runs (n - j) j rom es t) (λ (t : Machine). split_by l n (i + 1) to rom es t (omega arith) h d)

pub split : (n i to : ℕ) (rom es : List ℕ) (m : Machine) → i ≤ to → to ≤ n → Later to es
    → runs (n - i) i rom es m ≡ on_ended (runs (to - i) i rom [] m) (λ (j : ℕ) (t : Machine). runs (n - j) j rom es t)
split n i to rom es m g h d = split_by (to - i) n i to rom es m (omega arith) h d

-- where no instruction is refused, all are done
next_by : (t : Turned) (i j : ℕ) (b : Bool) → eqb t.number 0 ≡ b → (f : Machine → Ended) → (eqb (f t.machine).number 0 ≡ true → (f t.machine).next ≡ j)
    → eqb (pick b (f t.machine) (ended t.machine t.number i [])).number 0 ≡ true → (pick b (f t.machine) (ended t.machine t.number i [])).next ≡ j
next_by t i j true e f z h = z h
next_by t i j false e f z h = absurd (true≢false (sym h ∙ e))

pub runs_next : (l i : ℕ) (rom : List ℕ) (m : Machine) → eqb (runs l i rom [] m).number 0 ≡ true → (runs l i rom [] m).next ≡ i + l
unfolding runs after_events answers_before left
runs_next zero i rom m h = omega arith
runs_next (suc l) i rom m h =
    next_by (turn rom m) i (i + suc l) (eqb (turn rom m).number 0) refl (λ (t : Machine). runs l (i + 1) rom [] t)
    (λ g. runs_next l (i + 1) rom (turn rom m).machine g ∙ (let z : i + 1 + l ≡ i + suc l = omega arith in z)) h
