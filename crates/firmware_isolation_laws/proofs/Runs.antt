-- Demand 3 for firmware (document 02, Wish 5): two runs through transfers to other devices agree.
use Prim.Native.Nat.{ℕ, zero, suc, ◌+◌}
use mathlib.Core.Path.{◌≡◌, refl, ap, ap₂, sym, ◌∙◌}
use mathlib.Core.Bool.{Bool, true, false}
use mathlib.Core.List.{List, [], ◌∷◌, ◌++◌}
use native.Mathlib.Omega.{arith}
use lib.ListN.{length, drop}
use lib.Dec.{eqb, ltb}
use borrow.Author.Tests.{lt-ltb}
use Rattle.bits.specs.Byte.{pick}
use Rattle.bits.proofs.Finite.{both as both_true}
use Rattle.events.specs.Word.{decode}
use Rattle.bus.specs.declared.Mode.TheVariants.{Ddc2b}
use Rattle.chip.specs.declared.Chip.{Chip}
use Rattle.chip.specs.State.{mode_of}
use Rattle.chip_well_formed.specs.WellFormed.{well_formed}
use Rattle.step.specs.Step.{answered}
use Rattle.isolation_laws.specs.Foreign.{Trace, Observer, observer_of, observe, untouched, Begun, compared_answer, compared_answers, compared_state}
use Rattle.isolation_laws.proofs.Runs.{related_agree}
use Rattle.isolation_laws.proofs.Theorems.{self_related, flags_lt}
use Rattle.cpu_operations.specs.declared.Cpu.{Cpu}
use Rattle.cpu_instruction.specs.Program.{Access}
use Rattle.firmware_machine.specs.Machine.{Machine, machine, Turned, turn}
use Rattle.firmware_machine.specs.Run.{Ended, ended, prepended, on_turned, runs, called, is_well_formed, firmware, number_of, word_of, occurred, after_events, left, answers_before}
use Rattle.firmware_isolation_laws.specs.Trace.{Entry, given, made, entries, turn_accesses, events_before, trace, words_of, answers_of, accesses_of}
use Rattle.firmware_isolation_laws.specs.Transfers.{happening, may_happen, leaves_data, throughout, leaves_sda, equal_throughout, ForeignLists, ForeignRuns, OneForeignTransfer, compared_trace, RunsAgree, CallsAgree}
use Rattle.firmware_isolation_laws.specs.Related.{watch}
use Rattle.firmware_isolation_laws.specs.Related.{Both, both, Ended as TurnEnds, onward, halted}
use Rattle.firmware_isolation_laws.proofs.Turns.{turns}
use Rattle.firmware_isolation_laws.proofs.Lists.{left_permitted, left_unread, behind_accesses, feeds, behind_events, later_behind}
use Rattle.firmware_isolation_laws.proofs.Listed.{listed_behind, feeds_listed}

-- ---- the parts of what happens

compared_append : (s t : List Entry) → compared_trace (s ++ t) ≡ compared_trace s ++ compared_trace t
compared_append [] t = refl
compared_append (given e x ∷ s) t = ap (◌∷◌ (given (number_of e) (compared_answer (decode (word_of e)) x))) (compared_append s t)
compared_append (made a ∷ s) t = ap (◌∷◌ (made a)) (compared_append s t)

answers_append : (s t : List Entry) → answers_of (s ++ t) ≡ answers_of s ++ answers_of t
answers_append [] t = refl
answers_append (given e x ∷ s) t = ap (◌∷◌ x) (answers_append s t)
answers_append (made a ∷ s) t = answers_append s t

answers_behind : (a : List Access) (s : List Entry) → answers_of (entries a ++ s) ≡ answers_of s
answers_behind [] s = refl
answers_behind (x ∷ a) s = answers_behind a s

before_by : (rom : List ℕ) (i x e : ℕ) (es : List ℕ) (n : Machine) (b : Bool) → answers_of (events_before rom i es n) ≡ answers_before rom i es n
    → answers_of (pick b [] (given e x ∷ events_before rom i es n)) ≡ pick b [] (x ∷ answers_before rom i es n)
before_by rom i x e es n true h = refl
before_by rom i x e es n false h = ap (◌∷◌ x) h

before_answers : (rom : List ℕ) (i : ℕ) (es : List ℕ) (m : Machine) → answers_of (events_before rom i es m) ≡ answers_before rom i es m
unfolding events_before answers_before
before_answers rom i [] m = refl
before_answers rom i (e ∷ es) m =
    before_by rom i (answered m.chip (decode (word_of e))) e es (occurred rom m (word_of e)) (ltb i (number_of e)) (before_answers rom i es (occurred rom m (word_of e)))

rest_by_lem : (b : Bool) (s : List Entry) (x : Ended) (m : Machine) (k i : ℕ) → answers_of s ≡ x.answers → answers_of (pick b s []) ≡ (pick b x (ended m k i [])).answers
rest_by_lem true s x m k i h = h
rest_by_lem false s x m k i h = refl

-- the answers of what happens are the run's
pub trace_answers : (n i : ℕ) (rom es : List ℕ) (m : Machine) → answers_of (trace n i rom es m) ≡ (runs n i rom es m).answers
unfolding trace runs
trace_answers zero i rom es m = refl
trace_answers (suc n) i rom es m =
    let f = after_events rom i es m in
    let s = trace n (i + 1) rom (left i es) (turn rom f).machine in
    answers_append (events_before rom i es m) (behind_events n i rom (left i es) f)
    ∙ ap₂ ◌++◌ (before_answers rom i es m)
    (answers_behind (turn_accesses rom f) (pick (eqb (turn rom f).number 0) s [])
    ∙ rest_by_lem (eqb (turn rom f).number 0) s (runs n (i + 1) rom (left i es) (turn rom f).machine) (turn rom f).machine (turn rom f).number i
    (trace_answers n (i + 1) rom (left i es) (turn rom f).machine))

-- what is compared of answers and accesses, by what is compared of all that happens
compared_answers_lem : (s : List Entry) → compared_answers (words_of s) (answers_of s) ≡ answers_of (compared_trace s)
compared_answers_lem [] = refl
compared_answers_lem (given e x ∷ s) = ap (◌∷◌ (compared_answer (decode (word_of e)) x)) (compared_answers_lem s)
compared_answers_lem (made a ∷ s) = compared_answers_lem s

compared_length : (s : List Entry) → length (answers_of (compared_trace s)) ≡ length (answers_of s)
compared_length [] = refl
compared_length (given e x ∷ s) = ap suc (compared_length s)
compared_length (made a ∷ s) = compared_length s

compared_accesses : (s : List Entry) → accesses_of (compared_trace s) ≡ accesses_of s
compared_accesses [] = refl
compared_accesses (given e x ∷ s) = compared_accesses s
compared_accesses (made a ∷ s) = ap (◌∷◌ a) (compared_accesses s)

-- ---- two runs

pub data SameEnd : Machine → Machine → Type 0 where
  ends_with : {m m' : Machine} {o p : Observer} → Both m m' o p → SameEnd m m'

pub record Result (a b : Ended) (s t : List Entry) : Type 0 where
  pub state : SameEnd a.machine b.machine
  pub number : a.number ≡ b.number
  pub counted : a.next ≡ b.next
  pub happened : compared_trace s ≡ compared_trace t

-- a turn, and what is behind it, where P is presumed of two runs: it asks what a turn looks at, and holds behind the same accesses
module _ (P : Observer → Observer → List Entry → List Entry → Type 0)
    (left_of : (o p : Observer) (s t : List Entry) → P o p s t → throughout may_happen o s ≡ true)
    (unread-of : (o p : Observer) (s t : List Entry) → P o p s t → throughout leaves_data o s ≡ true)
    (behind : (a : List Access) (s t : List Entry) (o p : Observer) → P o p (entries a ++ s) (entries a ++ t) → P (watch o a) (watch p a) s t) where
  after_turn : {o p : Observer} {x y : Turned} → TurnEnds o p x y → (i : ℕ) (v w : Ended) (s t : List Entry) → P o p (pick (eqb x.number 0) s []) (pick (eqb y.number 0) t [])
      → (Both x.machine y.machine o p → P o p s t → Result v w s t)
      → Result (pick (eqb x.number 0) v (ended x.machine x.number i [])) (pick (eqb y.number 0) w (ended y.machine y.number i []))
      (pick (eqb x.number 0) s []) (pick (eqb y.number 0) t [])
  after_turn (onward k) i v w s t q go = go k q
  after_turn (halted n h k) i v w s t q go = rw h (record { state = ends_with k; number = refl; counted = refl; happened = refl })

  pub turned_by : (n i : ℕ) (rom es fs : List ℕ) {m m' : Machine} {o p : Observer} → Both m m' o p → P o p (behind_events n i rom es m) (behind_events n i rom fs m')
      → ((c d : Machine) (o p : Observer) → Both c d o p → P o p (trace n (i + 1) rom es c) (trace n (i + 1) rom fs d)
      → Result (runs n (i + 1) rom es c) (runs n (i + 1) rom fs d) (trace n (i + 1) rom es c) (trace n (i + 1) rom fs d))
      → Result (on_turned (turn rom m) i (λ (t : Machine). runs n (i + 1) rom es t)) (on_turned (turn rom m') i (λ (t : Machine). runs n (i + 1) rom fs t)) (behind_events n i rom es m) (behind_events n i rom fs m')
  turned_by n i rom es fs {m} {m'} {o} {p} k q go =
      let a = turn_accesses rom m in
      let x = turn rom m in
      let y = turn rom m' in
      let s = trace n (i + 1) rom es x.machine in
      let t = trace n (i + 1) rom fs y.machine in
      let s₀ = pick (eqb x.number 0) s [] in
      let t₀ = pick (eqb y.number 0) t [] in
      let z = turns rom k (left_unread a s₀ o (unread-of o p (behind_events n i rom es m) (behind_events n i rom fs m') q)).0 (left_permitted a s₀ o (left_of o p (behind_events n i rom es m) (behind_events n i rom fs m') q)).0 in
      let q' : P o p (entries a ++ s₀) (entries a ++ t₀) = rw (← z.1) at q in
      let r = after_turn z.0 i (runs n (i + 1) rom es x.machine) (runs n (i + 1) rom fs y.machine) s t (behind a s₀ t₀ o p q') (go x.machine y.machine (watch o a) (watch p a)) in
      record {
        state = r.state;
        number = r.number;
        counted = r.counted;
        happened = compared_append (entries a) s₀ ∙ ap₂ (λ (b : List Access) (l : List Entry). compared_trace (entries b) ++ l) z.1 r.happened ∙ sym (compared_append (entries (turn_accesses rom m')) t₀);
      }

-- the events before a turn come to a and b, what is behind them to s and t
pub with_events : {v w : Ended} (a b s t : List Entry) (k l : List ℕ) → compared_trace a ≡ compared_trace b → Result v w s t → Result (prepended k v) (prepended l w) (a ++ s) (b ++ t)
with_events a b s t k l said r =
    record {
      state = r.state;
      number = r.number;
      counted = r.counted;
      happened = compared_append a s ∙ ap₂ ◌++◌ said r.happened ∙ sym (compared_append b t);
    }

two_runs : (n i : ℕ) (rom es fs : List ℕ) {m m' : Machine} {o p : Observer} → Both m m' o p → ForeignRuns o p (trace n i rom es m) (trace n i rom fs m')
    → Result (runs n i rom es m) (runs n i rom fs m') (trace n i rom es m) (trace n i rom fs m')
unfolding trace runs
two_runs zero i rom es fs k q = record { state = ends_with k; number = refl; counted = refl; happened = refl }
two_runs (suc n) i rom es fs {m} {m'} k q =
    let a = after_events rom i es m in
    let b = after_events rom i fs m' in
    let s = behind_events n i rom (left i es) a in
    let t = behind_events n i rom (left i fs) b in
    let f = feeds rom i es fs s t k (later_behind n i rom (left i es) a) (later_behind n i rom (left i fs) b) q in
    let r = turned_by ForeignRuns (λ o p s t q. q.left) (λ o p s t q. q.unread) behind_accesses n i rom (left i es) (left i fs) f.state f.rest
    (λ (c d : Machine) (o p : Observer). two_runs n (i + 1) rom (left i es) (left i fs) {m = c} {m' = d} {o = o} {p = p}) in
    with_events (events_before rom i es m) (events_before rom i fs m') s t (answers_before rom i es m) (answers_before rom i fs m') f.said r

-- the same where the lists agree; n' instructions in all
two_runs_listed : (n i n' : ℕ) → i + n ≡ n' → (rom es fs : List ℕ) {m m' : Machine} {o p : Observer} → Both m m' o p → ForeignLists n' es fs o p (trace n i rom es m) (trace n i rom fs m')
    → Result (runs n i rom es m) (runs n i rom fs m') (trace n i rom es m) (trace n i rom fs m')
unfolding trace runs
two_runs_listed zero i n' e rom es fs k q = record { state = ends_with k; number = refl; counted = refl; happened = refl }
two_runs_listed (suc n) i n' e rom es fs {m} {m'} k q =
    let a = after_events rom i es m in
    let b = after_events rom i fs m' in
    let es' = left i es in
    let fs' = left i fs in
    let s = behind_events n i rom es' a in
    let t = behind_events n i rom fs' b in
    let f = feeds_listed rom i n' (lt-ltb i n' (omega (arith, e))) es fs s t k q in
    let r = turned_by (ForeignLists n' es' fs') (λ o p s t q. q.left) (λ o p s t q. q.unread) (listed_behind n' es' fs') n i rom es' fs' f.state f.rest
    (λ (c d : Machine) (o p : Observer). two_runs_listed n (i + 1) n' (omega (arith, e)) rom es' fs' {m = c} {m' = d} {o = o} {p = p}) in
    with_events (events_before rom i es m) (events_before rom i fs m') s t (answers_before rom i es m) (answers_before rom i fs m') f.said r

-- ---- from one machine

record SameMachine (m m' : Machine) : Type 0 where
  cpu : m.cpu ≡ m'.cpu
  ram : m.ram ≡ m'.ram
  chip : compared_state m.chip ≡ compared_state m'.chip

same_machine : {m m' : Machine} → SameEnd m m' → SameMachine m m'
same_machine (ends_with (both c ram t)) = record { cpu = refl; ram = refl; chip = related_agree t }

pub agreeing : (n i : ℕ) (rom es fs : List ℕ) (m : Machine) → Result (runs n i rom es m) (runs n i rom fs m) (trace n i rom es m) (trace n i rom fs m)
    → RunsAgree (runs n i rom es m) (runs n i rom fs m) (trace n i rom es m) (trace n i rom fs m)
agreeing n i rom es fs m z =
    let e = same_machine z.state in
    let s = trace n i rom es m in
    let t = trace n i rom fs m in
    let l : length (runs n i rom es m).answers ≡ length (answers_of (compared_trace s)) = ap length (sym (trace_answers n i rom es m)) ∙ sym (compared_length s) in
    let r : length (runs n i rom fs m).answers ≡ length (answers_of (compared_trace t)) = ap length (sym (trace_answers n i rom fs m)) ∙ sym (compared_length t) in
    record {
      number = z.number;
      counted = z.counted;
      events_given = l ∙ ap (λ (x : List Entry). length (answers_of x)) z.happened ∙ sym r;
      answers = ap (compared_answers (words_of s)) (sym (trace_answers n i rom es m)) ∙ compared_answers_lem s ∙ ap answers_of z.happened
          ∙ sym (compared_answers_lem t) ∙ ap (compared_answers (words_of t)) (trace_answers n i rom fs m);
      accesses = sym (compared_accesses s) ∙ ap accesses_of z.happened ∙ compared_accesses t;
      order = z.happened;
      cpu = e.cpu;
      ram = e.ram;
      chip = e.chip;
    }

-- The chip is in DDC2B, at a START just seen or on an idle bus. RESET, SCL and SDA may have any level, and CPU, RAM and ROM any content.
module _ (n : ℕ) (rom : List ℕ) (m : Machine) (well : well_formed m.chip ≡ true) (ddc2b : mode_of m.chip.core ≡ Ddc2b) {b : Trace} (begun : Begun m.chip.core.bus.phase b) where
  pub at_first : Both m m (observer_of m.chip b) (observer_of m.chip b)
  at_first = both m.cpu m.ram (self_related m.chip ddc2b (flags_lt m.chip well) begun)

  -- Of the events, that those listed agree: demand 3 as the wish has it
  pub firmware_runs_listed : (es fs : List ℕ) → ForeignLists n es fs (observer_of m.chip b) (observer_of m.chip b) (trace n 0 rom es m) (trace n 0 rom fs m)
      → RunsAgree (runs n 0 rom es m) (runs n 0 rom fs m) (trace n 0 rom es m) (trace n 0 rom fs m)
  firmware_runs_listed es fs q = agreeing n 0 rom es fs m (two_runs_listed n 0 n (omega arith) rom es fs at_first q)

  -- that those given agree
  pub firmware_runs : (es fs : List ℕ) → ForeignRuns (observer_of m.chip b) (observer_of m.chip b) (trace n 0 rom es m) (trace n 0 rom fs m)
      → RunsAgree (runs n 0 rom es m) (runs n 0 rom fs m) (trace n 0 rom es m) (trace n 0 rom fs m)
  firmware_runs es fs q = agreeing n 0 rom es fs m (two_runs n 0 rom es fs at_first q)

-- ---- one transfer

-- SDA left alone while SCL is high is SDA touched equally there
pub untouched_equal : (o p : Observer) (s t : List Entry) → throughout leaves_sda o s ≡ true → equal_throughout o p s t ≡ true
untouched_equal o p [] t h = refl
untouched_equal o p (x ∷ s) [] h = refl
untouched_equal o p (given e x ∷ s) (given f y ∷ t) h =
    let z = both_true (untouched o (decode (word_of e))) _ h in
    rw z.0 (untouched_equal (observe o (decode (word_of e))) (observe p (decode (word_of f))) s t z.1)
untouched_equal o p (given e x ∷ s) (made b ∷ t) h =
    untouched_equal (observe o (decode (word_of e))) (observe p (happening (made b))) s t (both_true (untouched o (decode (word_of e))) _ h).1
untouched_equal o p (made a ∷ s) (y ∷ t) h = untouched_equal (observe o (happening (made a))) (observe p (happening y)) s t h

pub foreign_of : {n : ℕ} {es fs : List ℕ} {o p : Observer} {s t : List Entry} → OneForeignTransfer n es fs o p s t → ForeignLists n es fs o p s t
foreign_of {o = o} {p = p} {s = s} {t = t} q =
    record { events = q.events; left = q.left; right = q.right; sda = untouched_equal o p s t q.sda; unread = q.unread }

-- ---- the firmware call

-- answer places past the answers are not compared
compared_places : (s : List Entry) (xs : List ℕ) → compared_answers (words_of s) (answers_of s ++ xs) ≡ compared_answers (words_of s) (answers_of s)
compared_places [] xs = refl
compared_places (given e x ∷ s) xs = ap (◌∷◌ (compared_answer (decode (word_of e)) x)) (compared_places s xs)
compared_places (made a ∷ s) xs = compared_places s xs

places_of : (n : ℕ) (rom es : List ℕ) (m : Machine) (xs : List ℕ)
    → compared_answers (words_of (trace n 0 rom es m)) (called (runs n 0 rom es m) xs).answers ≡ compared_answers (words_of (trace n 0 rom es m)) (runs n 0 rom es m).answers
places_of n rom es m xs =
    let s = trace n 0 rom es m in
    rw (← (trace_answers n 0 rom es m)) (compared_places s (drop (length (answers_of s)) xs))

run_called : (c : Cpu) (ram rom : List ℕ) (k : Chip) (es xs : List ℕ) (n : ℕ) → is_well_formed c k ≡ true → length rom ≡ 24576 → ltb (length xs) (length es) ≡ false
    → firmware c ram rom k es xs n ≡ called (runs n 0 rom es (machine c ram k)) xs
unfolding firmware
run_called c ram rom k es xs n w l p = rw (w, l, p)

-- Two calls that are run, neither being refused with 8, 22 or 7, with the answer places xs and ys
module _ (c : Cpu) (ram rom : List ℕ) (k : Chip) (n : ℕ) (well : is_well_formed c k ≡ true) (whole : length rom ≡ 24576) where
  pub calling : (es fs xs ys : List ℕ) → ltb (length xs) (length es) ≡ false → ltb (length ys) (length fs) ≡ false
      → RunsAgree (runs n 0 rom es (machine c ram k)) (runs n 0 rom fs (machine c ram k)) (trace n 0 rom es (machine c ram k)) (trace n 0 rom fs (machine c ram k))
      → CallsAgree (firmware c ram rom k es xs n) (firmware c ram rom k fs ys n) (trace n 0 rom es (machine c ram k)) (trace n 0 rom fs (machine c ram k))
  calling es fs xs ys p p' z =
      let m = machine c ram k in
      rw (run_called c ram rom k es xs n well whole p, run_called c ram rom k fs ys n well whole p')
      (record {
        number = z.number;
        counted = z.counted;
        events_given = z.events_given;
        answers = places_of n rom es m xs ∙ z.answers ∙ sym (places_of n rom fs m ys);
        accesses = z.accesses;
        order = z.order;
        cpu = z.cpu;
        ram = z.ram;
        chip = z.chip;
      })

  chip_well : well_formed k ≡ true
  chip_well = (both_true (ltb c.over 32) (well_formed k) well).1

  module _ (ddc2b : mode_of k.core ≡ Ddc2b) {b : Trace} (begun : Begun k.core.bus.phase b) where
    pub firmware_calls_listed : (es fs xs ys : List ℕ) → ltb (length xs) (length es) ≡ false → ltb (length ys) (length fs) ≡ false
        → ForeignLists n es fs (observer_of k b) (observer_of k b) (trace n 0 rom es (machine c ram k)) (trace n 0 rom fs (machine c ram k))
        → CallsAgree (firmware c ram rom k es xs n) (firmware c ram rom k fs ys n) (trace n 0 rom es (machine c ram k)) (trace n 0 rom fs (machine c ram k))
    firmware_calls_listed es fs xs ys p p' q = calling es fs xs ys p p' (firmware_runs_listed n rom (machine c ram k) chip_well ddc2b begun es fs q)

    pub firmware_calls : (es fs xs ys : List ℕ) → ltb (length xs) (length es) ≡ false → ltb (length ys) (length fs) ≡ false
        → ForeignRuns (observer_of k b) (observer_of k b) (trace n 0 rom es (machine c ram k)) (trace n 0 rom fs (machine c ram k))
        → CallsAgree (firmware c ram rom k es xs n) (firmware c ram rom k fs ys n) (trace n 0 rom es (machine c ram k)) (trace n 0 rom fs (machine c ram k))
    firmware_calls es fs xs ys p p' q = calling es fs xs ys p p' (firmware_runs n rom (machine c ram k) chip_well ddc2b begun es fs q)
