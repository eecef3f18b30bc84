-- Two runs where the second is looked at by its listed events alone, along what happens in the first.
use Prim.Native.Nat.{ℕ, zero, suc, ◌+◌}
use mathlib.Core.Path.{◌≡◌, refl, ap, sym}
use mathlib.Core.Bool.{Bool, true, false, true≢false, ◌&&◌}
use mathlib.Core.List.{List, [], ◌∷◌, ◌++◌}
use native.Mathlib.Omega.{arith}
use lib.Dec.{eqb, ltb}
use borrow.Author.Tests.{lt-ltb}
use Rattle.bits.specs.Byte.{pick}
use Rattle.bits.proofs.Finite.{both as both_true}
use Rattle.events.specs.Word.{decode}
use Rattle.bus.specs.declared.Mode.TheVariants.{Ddc2b}
use Rattle.chip.specs.State.{mode_of}
use Rattle.chip_well_formed.specs.WellFormed.{well_formed}
use Rattle.step.specs.Step.{answered}
use Rattle.isolation_laws.specs.Foreign.{Trace, Observer, observer_of, permitted, same_but_sda, equal_at_high, Begun}
use Rattle.cpu_instruction.specs.Program.{Access}
use Rattle.firmware_machine.specs.Machine.{Machine}
use Rattle.firmware_machine.specs.Run.{runs, number_of, word_of, occurred, after_events, left, answers_before}
use Rattle.firmware_isolation_laws.specs.Trace.{Entry, given, made, entries, events_before, trace}
use Rattle.firmware_isolation_laws.specs.Transfers.{same_event, alike_events, within, throughout, may_be_listed, may_happen, leaves_data, equal_throughout, ForeignLists, RunsAgree}
use Rattle.firmware_isolation_laws.specs.Words.{exchanged, is_unaddressed, is_foreign_along}
use Rattle.firmware_isolation_laws.specs.Related.{watch}
use Rattle.firmware_isolation_laws.specs.Related.{Both}
use Rattle.firmware_isolation_laws.proofs.Lists.{behind_events, same_number, occurs}
use Rattle.firmware_isolation_laws.specs.Related.{FedLists}
use Rattle.firmware_isolation_laws.proofs.Listed.{listed_behind, due_within, same_due, left_alone, right_alone, unfed, more}
use Rattle.firmware_isolation_laws.proofs.Runs.{Result, ends_with, turned_by, with_events, agreeing, at_first}

-- the premises on two runs, the second being the first with its events exchanged
abbrev ForeignAlong : ℕ → List ℕ → List ℕ → Observer → Observer → List Entry → Type 0
ForeignAlong n es fs o p s = ForeignLists n es fs o p s (exchanged s fs)

exchanged_behind : (a : List Access) (s : List Entry) (fs : List ℕ) → exchanged (entries a ++ s) fs ≡ entries a ++ exchanged s fs
exchanged_behind [] s fs = refl
exchanged_behind (x ∷ a) s fs = ap (◌∷◌ (made x)) (exchanged_behind a s fs)

along_behind : (n : ℕ) (es fs : List ℕ) (a : List Access) (s t : List Entry) (o p : Observer) → ForeignAlong n es fs o p (entries a ++ s) → ForeignAlong n es fs (watch o a) (watch p a) s
along_behind n es fs a s t o p q = listed_behind n es fs a s (exchanged s fs) o p (rw (exchanged_behind a s fs) at q)

-- ---- the events given before an instruction

-- the first event of each list, given where b is false
module _ (rom : List ℕ) (i n : ℕ) (e f : ℕ) (es fs : List ℕ) (x y : ℕ) {m m' : Machine} (l l' : Machine) {o p : Observer} (s : List Entry) (k : Both m m' o p) where
  pair_by : (b b' : Bool) → b ≡ b' → ltb i (number_of e) ≡ b
      → ForeignAlong n (e ∷ es) (f ∷ fs) o p (pick b [] (given e x ∷ events_before rom i es l) ++ s)
      → (ltb i (number_of e) ≡ false → ForeignLists n (e ∷ es) (f ∷ fs) o p (given e x ∷ (events_before rom i es l ++ s)) (given f x ∷ exchanged (events_before rom i es l ++ s) fs)
      → FedLists n (left i es) (left i fs) (given e x ∷ events_before rom i es l) (given f y ∷ events_before rom i fs l') (after_events rom i es l) (after_events rom i fs l') s (exchanged s (left i fs)))
      → FedLists n (pick b (e ∷ es) (left i es)) (pick b' (f ∷ fs) (left i fs)) (pick b [] (given e x ∷ events_before rom i es l)) (pick b' [] (given f y ∷ events_before rom i fs l'))
      (pick b m (after_events rom i es l)) (pick b' m' (after_events rom i fs l')) s (exchanged s (pick b' (f ∷ fs) (left i fs)))
  pair_by true true z h q go = unfed k q
  pair_by true false z h q go = absurd (true≢false z)
  pair_by false true z h q go = absurd (true≢false (sym z))
  pair_by false false z h q go = go h q

feeds_along : (rom : List ℕ) (i n : ℕ) → ltb i n ≡ true → (es fs : List ℕ) {m m' : Machine} {o p : Observer} (s : List Entry) → Both m m' o p
    → ForeignAlong n es fs o p (events_before rom i es m ++ s)
    → FedLists n (left i es) (left i fs) (events_before rom i es m) (events_before rom i fs m') (after_events rom i es m) (after_events rom i fs m') s (exchanged s (left i fs))
unfolding events_before after_events left
feeds_along rom i n h [] [] s k q = unfed k q
feeds_along rom i n h [] (f ∷ fs) s k q =
    let z = right_alone i n h f (within n fs) (ltb (number_of f) n) refl q.events in
    rw z (unfed k q)
feeds_along rom i n h (e ∷ es) [] s k q =
    let z = left_alone i n h e (within n es) (ltb (number_of e) n) refl q.events in
    rw z (unfed k (rw z at q))
feeds_along rom i n h (e ∷ es) (f ∷ fs) {m} {m'} {o} {p} s k q =
    let u = decode (word_of e) in
    let v = decode (word_of f) in
    let l = occurred rom m (word_of e) in
    let l' = occurred rom m' (word_of f) in
    let due = same_due i n h e f (within n es) (within n fs) (ltb (number_of e) n) (ltb (number_of f) n) refl refl q.events in
    pair_by rom i n e f es fs (answered m.chip u) (answered m'.chip v) l l' s k (ltb i (number_of e)) (ltb i (number_of f)) due refl q
    (λ (g : ltb i (number_of e) ≡ false)
    (r : ForeignLists n (e ∷ es) (f ∷ fs) o p (given e (answered m.chip u) ∷ (events_before rom i es l ++ s)) (given f (answered m.chip u) ∷ exchanged (events_before rom i es l ++ s) fs)).
    let both-in : alike_events (e ∷ within n es) (f ∷ within n fs) ≡ true = rw (due_within i n h e es g, due_within i n h f fs (rw due at g)) at r.events in
    let ev = both_true (same_event e f) _ both-in in
    let w = both_true (eqb (number_of e) (number_of f)) (same_but_sda (word_of e) (word_of f)) ev.0 in
    let a = both_true (permitted o u) _ r.left in
    let b = both_true (permitted p v) _ r.right in
    let c = both_true (equal_at_high o p (word_of e) (word_of f)) _ r.sda in
    let y = occurs rom (word_of e) (word_of f) w.1 k c.0 a.0 b.0 in
    more (same_number e f ev.0) y.1
    (feeds_along rom i n h es fs s y.0 (record { events = ev.1; left = a.1; right = b.1; sda = c.1; unread = r.unread })))

-- ---- two runs, n' instructions in all

two_runs_along : (n i n' : ℕ) → i + n ≡ n' → (rom es fs : List ℕ) {m m' : Machine} {o p : Observer} → Both m m' o p → ForeignAlong n' es fs o p (trace n i rom es m)
    → Result (runs n i rom es m) (runs n i rom fs m') (trace n i rom es m) (trace n i rom fs m')
unfolding trace runs
two_runs_along zero i n' e rom es fs k q = record { state = ends_with k; number = refl; counted = refl; happened = refl }
two_runs_along (suc n) i n' e rom es fs {m} {m'} k q =
    let a = after_events rom i es m in
    let b = after_events rom i fs m' in
    let es' = left i es in
    let fs' = left i fs in
    let s = behind_events n i rom es' a in
    let t = behind_events n i rom fs' b in
    let f = feeds_along rom i n' (lt-ltb i n' (omega (arith, e))) es fs s k q in
    let r = turned_by (λ (o p : Observer) (s t : List Entry). ForeignAlong n' es' fs' o p s) (λ o p s t q. q.left) (λ o p s t q. q.unread) (along_behind n' es' fs') n i rom es' fs' f.state f.rest
    (λ (c d : Machine) (o p : Observer). two_runs_along n (i + 1) n' (omega (arith, e)) rom es' fs' {m = c} {m' = d} {o = o} {p = p}) in
    with_events (events_before rom i es m) (events_before rom i fs m') s t (answers_before rom i es m) (answers_before rom i fs m') f.said r

-- Demand 3 for n instructions from number i on, the second run never being looked at. The chip is in DDC2B, at a START just seen or on an idle
-- bus; the CPU may write II ADR.
pub firmware_runs_along : (n i : ℕ) (rom : List ℕ) (m : Machine) → well_formed m.chip ≡ true → mode_of m.chip.core ≡ Ddc2b → {b : Trace} → Begun m.chip.core.bus.phase b → (es fs : List ℕ)
    → is_unaddressed (observer_of m.chip b) (trace n i rom es m) ≡ true → is_foreign_along (i + n) es (observer_of m.chip b) (trace n i rom es m) fs ≡ true
    → RunsAgree (runs n i rom es m) (runs n i rom fs m) (trace n i rom es m) (trace n i rom fs m)
firmware_runs_along n i rom m well ddc2b {b} begun es fs q h =
    let o = observer_of m.chip b in
    let s = trace n i rom es m in
    let x = both_true (throughout may_happen o s) _ q in
    let y = both_true (alike_events (within (i + n) es) (within (i + n) fs)) _ h in
    let z = both_true (throughout may_be_listed o (exchanged s fs)) _ y.1 in
    agreeing n i rom es fs m (two_runs_along n i (i + n) refl rom es fs (at_first n rom m well ddc2b begun) (record { events = y.0; left = x.0; right = z.0; sda = z.1; unread = x.1 }))
