-- Lists of what happens in two runs: the premises of what is left of them behind the same accesses, and behind the events given before an
-- instruction.
use Prim.Native.Nat.{ℕ, zero, suc, ◌+◌}
use mathlib.Core.Path.{◌≡◌, refl, ap₂, sym, ◌∙◌}
use mathlib.Core.Bool.{Bool, true, false, not, true≢false}
use mathlib.Core.List.{List, [], ◌∷◌, ◌++◌}
use lib.Dec.{eqb, ltb}
use borrow.Author.Tests.{eqb-true, not-true}
use Rattle.bits.specs.Byte.{pick}
use Rattle.bits.proofs.Finite.{both as both_true}
use Rattle.std.specs.Prelude.{Ok}
use Rattle.events.specs.Decoded.{Decoded}
use Rattle.events.specs.declared.Event.TheVariants.{Write}
use Rattle.events.specs.Word.{decode}
use Rattle.chip.specs.declared.Chip.{Chip}
use Rattle.chip_events.specs.Outcome.{was_reset}
use Rattle.step.specs.Step.{answered}
use Rattle.isolation_laws.specs.Foreign.{Observer, observe, permitted, same_but_sda, equal_at_high, compared_answer}
use Rattle.isolation_laws.specs.Related.{RelatedChips}
use Rattle.isolation_laws.specs.Related.{Paired, same, low, equal}
use Rattle.isolation_laws.proofs.Events.{paired, event_related, event_answers, was_reset_equal}
use Rattle.cpu_operations.specs.declared.Cpu.{Cpu}
use Rattle.cpu_instruction.specs.Program.{Access, read_at, write_at, Unread}
use Rattle.cpu_instruction.specs.Instruction.{reset_cpu}
use Rattle.firmware_machine.specs.Machine.{Machine, machine, turn}
use Rattle.firmware_machine.specs.Run.{number_of, word_of, occurred, after_events, left}
use Rattle.firmware_isolation_laws.specs.Trace.{Entry, given, entries, events_before, turn_accesses, trace, events_of}
use Rattle.firmware_isolation_laws.specs.Transfers.{same_event, alike_events, may_happen, may_be_listed, leaves_data, throughout, equal_throughout, ForeignRuns, compared_trace}
use Rattle.firmware_isolation_laws.specs.Related.{watch, writes_permitted}
use Rattle.firmware_isolation_laws.specs.Related.{Both, both}

-- ---- accesses

pub left_permitted : (a : List Access) (s : List Entry) (o : Observer) → throughout may_happen o (entries a ++ s) ≡ true → (writes_permitted o a ≡ true) × (throughout may_happen (watch o a) s ≡ true)
unfolding permitted observe
left_permitted [] s o h = (refl, h)
left_permitted (read_at x l ∷ a) s o h = left_permitted a s o h
left_permitted (write_at x b ∷ a) s o h =
    let z = both_true (permitted o (Ok (Write x b))) _ h in
    let r = left_permitted a s (observe o (Ok (Write x b))) z.1 in
    (rw z.0 r.0, r.1)

pub right_listed : (a : List Access) (s : List Entry) (o : Observer) → throughout may_be_listed o (entries a ++ s) ≡ true → throughout may_be_listed (watch o a) s ≡ true
unfolding observe
right_listed [] s o h = h
right_listed (read_at x l ∷ a) s o h = right_listed a s o h
right_listed (write_at x b ∷ a) s o h = right_listed a s (observe o (Ok (Write x b))) h

pub left_unread : (a : List Access) (s : List Entry) (o : Observer) → throughout leaves_data o (entries a ++ s) ≡ true → Unread 20 a × (throughout leaves_data (watch o a) s ≡ true)
unfolding observe
left_unread [] s o h = (tt, h)
left_unread (read_at x l ∷ a) s o h =
    let z = both_true (not (eqb x 20)) _ h in
    let r = left_unread a s o z.1 in
    ((not-true (eqb x 20) z.0, r.0), r.1)
left_unread (write_at x b ∷ a) s o h = left_unread a s (observe o (Ok (Write x b))) h

pub both_equal : (a : List Access) (s t : List Entry) (o p : Observer) → equal_throughout o p (entries a ++ s) (entries a ++ t) ≡ true → equal_throughout (watch o a) (watch p a) s t ≡ true
unfolding observe
both_equal [] s t o p h = h
both_equal (read_at x l ∷ a) s t o p h = both_equal a s t o p h
both_equal (write_at x b ∷ a) s t o p h = both_equal a s t (observe o (Ok (Write x b))) (observe p (Ok (Write x b))) h

pub events_behind : (a : List Access) (s : List Entry) → events_of (entries a ++ s) ≡ events_of s
events_behind [] s = refl
events_behind (x ∷ a) s = events_behind a s

pub behind_accesses : (a : List Access) (s t : List Entry) (o p : Observer) → ForeignRuns o p (entries a ++ s) (entries a ++ t) → ForeignRuns (watch o a) (watch p a) s t
behind_accesses a s t o p q =
    record {
      events = rw (events_behind a s, events_behind a t) at q.events;
      left = (left_permitted a s o q.left).1;
      right = right_listed a t p q.right;
      sda = both_equal a s t o p q.sda;
      unread = (left_unread a s o q.unread).1;
    }

-- ---- one pair of listed events

reset_paired : {c d : Chip} {o p : Observer} → RelatedChips c d o p → {e f : Decoded} → Paired o p e f → was_reset c e ≡ was_reset d f
unfolding was_reset
reset_paired t (same {e} h) = was_reset_equal t e
reset_paired t (low l l' h) = refl
reset_paired t (equal l h) = refl

restart : (rom : List ℕ) (c : Cpu) (ram : List ℕ) (b b' : Bool) → b ≡ b' → {d e : Chip} {o p : Observer} → RelatedChips d e o p
    → Both (machine (pick b (reset_cpu rom c) c) ram d) (machine (pick b' (reset_cpu rom c) c) ram e) o p
restart rom c ram b b' h t = rw (← h) (both (pick b (reset_cpu rom c) c) ram t)

pub occurs : (rom : List ℕ) (u v : ℕ) → same_but_sda u v ≡ true → {m m' : Machine} {o p : Observer} → Both m m' o p → equal_at_high o p u v ≡ true
    → permitted o (decode u) ≡ true → permitted p (decode v) ≡ true
    → Both (occurred rom m u) (occurred rom m' v) (observe o (decode u)) (observe p (decode v))
    × (compared_answer (decode u) (answered m.chip (decode u)) ≡ compared_answer (decode v) (answered m'.chip (decode v)))
unfolding occurred
occurs rom u v s (both c ram {d} {e} {o} {p} t) q h h' =
    let z = paired o p u v s q in
    (restart rom c ram (was_reset d (decode u)) (was_reset e (decode v)) (reset_paired t z) (event_related t z h h'), event_answers t z h h')

-- ---- the events given before an instruction

-- what is given later begins with the first event left
pub data Later : List ℕ → List ℕ → Type 0 where
  nothing : {es : List ℕ} → Later es []
  first : {e : ℕ} {es xs : List ℕ} → Later (e ∷ es) (e ∷ xs)

-- none is due before instruction i
data Waiting (i : ℕ) : List ℕ → Type 0 where
  empty : Waiting i []
  not_yet : {e : ℕ} {es : List ℕ} → ltb i (number_of e) ≡ true → Waiting i (e ∷ es)

pub same_number : (e f : ℕ) → same_event e f ≡ true → number_of e ≡ number_of f
same_number e f h = eqb-true (number_of e) (number_of f) (both_true (eqb (number_of e) (number_of f)) _ h).0

-- an event given in one run alone is against the premise
left_alone : {i : ℕ} (e : ℕ) (xs : List ℕ) {fs ys : List ℕ} → ltb i (number_of e) ≡ false → Waiting i fs → Later fs ys → alike_events (e ∷ xs) ys ≡ true → ⊥
left_alone e xs h w nothing q = true≢false (sym q)
left_alone e xs h (not_yet {e = f} g) (first {xs = ys}) q =
    let z = same_number e f (both_true (same_event e f) _ q).0 in
    true≢false (sym g ∙ (rw (← z) h))

right_alone : {i : ℕ} (f : ℕ) (ys : List ℕ) {es xs : List ℕ} → ltb i (number_of f) ≡ false → Waiting i es → Later es xs → alike_events xs (f ∷ ys) ≡ true → ⊥
right_alone f ys h w nothing q = true≢false (sym q)
right_alone f ys h (not_yet {e = e} g) (first {xs = xs}) q =
    let z = same_number e f (both_true (same_event e f) _ q).0 in
    true≢false (sym g ∙ (rw z h))

-- the events before an instruction, with s and t behind them
pub record Fed (a b : List Entry) (m m' : Machine) (s t : List Entry) : Type 0 where
  pub left_observer : Observer
  pub right_observer : Observer
  pub state : Both m m' left_observer right_observer
  pub rest : ForeignRuns left_observer right_observer s t
  pub said : compared_trace a ≡ compared_trace b

-- the first event of each list, given where b and b' are false
module _ (rom : List ℕ) (i : ℕ) (e f : ℕ) (es fs : List ℕ) (x y : ℕ) {m m' : Machine} (n n' : Machine) {o p : Observer} (s t : List Entry) (k : Both m m' o p) where
  pair_by : (b b' : Bool) → ltb i (number_of e) ≡ b → ltb i (number_of f) ≡ b'
      → Later (pick b (e ∷ es) (left i es)) (events_of s) → Later (pick b' (f ∷ fs) (left i fs)) (events_of t)
      → ForeignRuns o p (pick b [] (given e x ∷ events_before rom i es n) ++ s) (pick b' [] (given f y ∷ events_before rom i fs n') ++ t)
      → (ForeignRuns o p (given e x ∷ (events_before rom i es n ++ s)) (given f y ∷ (events_before rom i fs n' ++ t))
      → Later (left i es) (events_of s) → Later (left i fs) (events_of t)
      → Fed (given e x ∷ events_before rom i es n) (given f y ∷ events_before rom i fs n') (after_events rom i es n) (after_events rom i fs n') s t)
      → Fed (pick b [] (given e x ∷ events_before rom i es n)) (pick b' [] (given f y ∷ events_before rom i fs n')) (pick b m (after_events rom i es n)) (pick b' m' (after_events rom i fs n')) s t
  pair_by true true h h' l l' q go = record { left_observer = o; right_observer = p; state = k; rest = q; said = refl }
  pair_by true false h h' l l' q go = absurd (right_alone f (events_of (events_before rom i fs n' ++ t)) h' (not_yet h) l q.events)
  pair_by false true h h' l l' q go = absurd (left_alone e (events_of (events_before rom i es n ++ s)) h (not_yet h') l' q.events)
  pair_by false false h h' l l' q go = go q l l'

  left_by : (b : Bool) → ltb i (number_of e) ≡ b → Later (pick b (e ∷ es) (left i es)) (events_of s) → Later [] (events_of t)
      → ForeignRuns o p (pick b [] (given e x ∷ events_before rom i es n) ++ s) t
      → Fed (pick b [] (given e x ∷ events_before rom i es n)) [] (pick b m (after_events rom i es n)) m' s t
  left_by true h l l' q = record { left_observer = o; right_observer = p; state = k; rest = q; said = refl }
  left_by false h l l' q = absurd (left_alone e (events_of (events_before rom i es n ++ s)) h empty l' q.events)

  right_by : (b : Bool) → ltb i (number_of f) ≡ b → Later [] (events_of s) → Later (pick b (f ∷ fs) (left i fs)) (events_of t)
      → ForeignRuns o p s (pick b [] (given f y ∷ events_before rom i fs n') ++ t)
      → Fed [] (pick b [] (given f y ∷ events_before rom i fs n')) m (pick b m' (after_events rom i fs n')) s t
  right_by true h l l' q = record { left_observer = o; right_observer = p; state = k; rest = q; said = refl }
  right_by false h l l' q = absurd (right_alone f (events_of (events_before rom i fs n' ++ t)) h empty l q.events)

more : {e f x y : ℕ} {a b : List Entry} {m m' : Machine} {s t : List Entry} → number_of e ≡ number_of f → compared_answer (decode (word_of e)) x ≡ compared_answer (decode (word_of f)) y
    → Fed a b m m' s t → Fed (given e x ∷ a) (given f y ∷ b) m m' s t
more h g z =
    record {
      left_observer = z.left_observer;
      right_observer = z.right_observer;
      state = z.state;
      rest = z.rest;
      said = ap₂ ◌∷◌ (ap₂ given h g) z.said;
    }

pub feeds : (rom : List ℕ) (i : ℕ) (es fs : List ℕ) {m m' : Machine} {o p : Observer} (s t : List Entry) → Both m m' o p → Later (left i es) (events_of s) → Later (left i fs) (events_of t)
    → ForeignRuns o p (events_before rom i es m ++ s) (events_before rom i fs m' ++ t)
    → Fed (events_before rom i es m) (events_before rom i fs m') (after_events rom i es m) (after_events rom i fs m') s t
unfolding events_before after_events left
feeds rom i [] [] {o = o} {p = p} s t k l l' q = record { left_observer = o; right_observer = p; state = k; rest = q; said = refl }
feeds rom i [] (f ∷ fs) {m} {m'} s t k l l' q = right_by rom i 0 f [] fs 0 (answered m'.chip (decode (word_of f))) m' (occurred rom m' (word_of f)) s t k (ltb i (number_of f)) refl l l' q
feeds rom i (e ∷ es) [] {m} {m'} s t k l l' q = left_by rom i e 0 es [] (answered m.chip (decode (word_of e))) 0 (occurred rom m (word_of e)) m s t k (ltb i (number_of e)) refl l l' q
feeds rom i (e ∷ es) (f ∷ fs) {m} {m'} {o} {p} s t k l l' q =
    let u = decode (word_of e) in
    let v = decode (word_of f) in
    let n = occurred rom m (word_of e) in
    let n' = occurred rom m' (word_of f) in
    pair_by rom i e f es fs (answered m.chip u) (answered m'.chip v) n n' s t k (ltb i (number_of e)) (ltb i (number_of f)) refl refl l l' q
    (λ (r : ForeignRuns o p (given e (answered m.chip u) ∷ (events_before rom i es n ++ s)) (given f (answered m'.chip v) ∷ (events_before rom i fs n' ++ t)))
    (c : Later (left i es) (events_of s)) (d : Later (left i fs) (events_of t)).
    let ev = both_true (same_event e f) _ r.events in
    let w = both_true (eqb (number_of e) (number_of f)) (same_but_sda (word_of e) (word_of f)) ev.0 in
    let a = both_true (permitted o u) _ r.left in
    let b = both_true (permitted p v) _ r.right in
    let g = both_true (equal_at_high o p (word_of e) (word_of f)) _ r.sda in
    let y = occurs rom (word_of e) (word_of f) w.1 k g.0 a.0 b.0 in
    more (same_number e f ev.0) y.1
    (feeds rom i es fs s t y.0 c d (record { events = ev.1; left = a.1; right = b.1; sda = g.1; unread = r.unread })))

-- ---- what is given in a run begins with the first event of its list

later_by : (rom : List ℕ) (i : ℕ) (e : ℕ) (es : List ℕ) (x : ℕ) (n : Machine) (s : List Entry) (b : Bool) → Later (pick b (e ∷ es) (left i es)) (events_of s)
    → Later (e ∷ es) (events_of (pick b [] (given e x ∷ events_before rom i es n) ++ s))
later_by rom i e es x n s true l = l
later_by rom i e es x n s false l = first

later_before : (rom : List ℕ) (i : ℕ) (es : List ℕ) (m : Machine) (s : List Entry) → Later (left i es) (events_of s) → Later es (events_of (events_before rom i es m ++ s))
unfolding events_before left
later_before rom i [] m s l = l
later_before rom i (e ∷ es) m s l = later_by rom i e es _ _ s (ltb i (number_of e)) l

later_if : (b : Bool) (es : List ℕ) (s : List Entry) → Later es (events_of s) → Later es (events_of (pick b s []))
later_if true es s l = l
later_if false es s l = nothing

-- what happens behind the events of a turn
abbrev pub behind_events : ℕ → ℕ → List ℕ → List ℕ → Machine → List Entry
behind_events n i rom es m =
    entries (turn_accesses rom m) ++ pick (eqb (turn rom m).number 0) (trace n (i + 1) rom es (turn rom m).machine) []

later_turn : (n i : ℕ) (rom es : List ℕ) (m : Machine) → Later es (events_of (trace n (i + 1) rom es (turn rom m).machine)) → Later es (events_of (behind_events n i rom es m))
later_turn n i rom es m l =
    rw (events_behind (turn_accesses rom m) (pick (eqb (turn rom m).number 0) (trace n (i + 1) rom es (turn rom m).machine) []))
    (later_if (eqb (turn rom m).number 0) es _ l)

later_trace : (n i : ℕ) (rom es : List ℕ) (m : Machine) → Later es (events_of (trace n i rom es m))
unfolding trace
later_trace zero i rom es m = nothing
later_trace (suc n) i rom es m =
    later_before rom i es m (behind_events n i rom (left i es) (after_events rom i es m))
    (later_turn n i rom (left i es) (after_events rom i es m) (later_trace n (i + 1) rom (left i es) (turn rom (after_events rom i es m)).machine))

pub later_behind : (n i : ℕ) (rom es : List ℕ) (m : Machine) → Later es (events_of (behind_events n i rom es m))
later_behind n i rom es m = later_turn n i rom es m (later_trace n (i + 1) rom es (turn rom m).machine)
