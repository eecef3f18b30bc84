-- The events listed for two runs: where the lists agree, before each instruction as many are given in one run as in the other.
use Prim.Native.Nat.{ℕ}
use mathlib.Core.Path.{◌≡◌, refl, ap, ap₂, sym}
use mathlib.Core.Bool.{Bool, true, false, true≢false}
use mathlib.Core.List.{List, [], ◌∷◌, ◌++◌}
use native.Mathlib.Omega.{arith}
use lib.Dec.{eqb, ltb}
use borrow.Author.Tests.{ltb-true, ltb-false, lt-ltb}
use Rattle.bits.specs.Byte.{pick}
use Rattle.bits.proofs.Finite.{both as both_true}
use Rattle.events.specs.Word.{decode}
use Rattle.step.specs.Step.{answered}
use Rattle.isolation_laws.specs.Foreign.{Observer, permitted, same_but_sda, equal_at_high, compared_answer}
use Rattle.cpu_instruction.specs.Program.{Access}
use Rattle.firmware_machine.specs.Machine.{Machine}
use Rattle.firmware_machine.specs.Run.{number_of, word_of, occurred, after_events, left}
use Rattle.firmware_isolation_laws.specs.Trace.{Entry, given, entries, events_before}
use Rattle.firmware_isolation_laws.specs.Transfers.{same_event, alike_events, within, ForeignLists}
use Rattle.firmware_isolation_laws.specs.Related.{watch}
use Rattle.firmware_isolation_laws.specs.Related.{Both}
use Rattle.firmware_isolation_laws.specs.Related.{FedLists}
use Rattle.firmware_isolation_laws.proofs.Lists.{left_permitted, right_listed, left_unread, both_equal, same_number, occurs}

-- ---- the premises behind the same accesses

pub listed_behind : (n : ℕ) (es fs : List ℕ) (a : List Access) (s t : List Entry) (o p : Observer) → ForeignLists n es fs o p (entries a ++ s) (entries a ++ t) → ForeignLists n es fs (watch o a) (watch p a) s t
listed_behind n es fs a s t o p q =
    record {
      events = q.events;
      left = (left_permitted a s o q.left).1;
      right = right_listed a t p q.right;
      sda = both_equal a s t o p q.sda;
      unread = (left_unread a s o q.unread).1;
    }

-- ---- lists that agree whole agree as far as any run goes

within_by : (n e f : ℕ) (es fs : List ℕ) (a b : Bool) → a ≡ b → same_event e f ≡ true → alike_events (within n es) (within n fs) ≡ true
    → alike_events (pick a (e ∷ within n es) []) (pick b (f ∷ within n fs) []) ≡ true
within_by n e f es fs true b z h q = rw (← z, h) q
within_by n e f es fs false b z h q = rw (← z)

pub alike_within : (n : ℕ) (es fs : List ℕ) → alike_events es fs ≡ true → alike_events (within n es) (within n fs) ≡ true
alike_within n [] [] h = refl
alike_within n [] (f ∷ fs) h = absurd (true≢false (sym h))
alike_within n (e ∷ es) [] h = absurd (true≢false (sym h))
alike_within n (e ∷ es) (f ∷ fs) h =
    let z = both_true (same_event e f) _ h in
    within_by n e f es fs (ltb (number_of e) n) (ltb (number_of f) n) (ap (λ (k : ℕ). ltb k n) (same_number e f z.0)) z.0 (alike_within n es fs z.1)

-- ---- the first events of two lists, before instruction i of n: both are due, or neither is

module _ (i n : ℕ) (h : ltb i n ≡ true) where
  later : (e : ℕ) → ltb (number_of e) n ≡ false → ltb i (number_of e) ≡ true
  later e g = lt-ltb i (number_of e) (omega (arith, ltb-true i n h, ltb-false (number_of e) n g))

  -- an event that is due is among those compared
  pub due_within : (e : ℕ) (es : List ℕ) → ltb i (number_of e) ≡ false → within n (e ∷ es) ≡ e ∷ within n es
  due_within e es g = ap (λ (b : Bool). pick b (e ∷ within n es) []) (lt-ltb (number_of e) n (omega (arith, ltb-true i n h, ltb-false i (number_of e) g)))

  pub same_due : (e f : ℕ) (x y : List ℕ) (a b : Bool) → ltb (number_of e) n ≡ a → ltb (number_of f) n ≡ b
      → alike_events (pick a (e ∷ x) []) (pick b (f ∷ y) []) ≡ true → ltb i (number_of e) ≡ ltb i (number_of f)
  same_due e f x y true true u v q = ap (ltb i) (same_number e f (both_true (same_event e f) _ q).0)
  same_due e f x y true false u v q = absurd (true≢false (sym q))
  same_due e f x y false true u v q = absurd (true≢false (sym q))
  same_due e f x y false false u v q = rw (later e u, later f v)

  pub left_alone : (e : ℕ) (x : List ℕ) (a : Bool) → ltb (number_of e) n ≡ a → alike_events (pick a (e ∷ x) []) [] ≡ true → ltb i (number_of e) ≡ true
  left_alone e x true u q = absurd (true≢false (sym q))
  left_alone e x false u q = later e u

  pub right_alone : (f : ℕ) (y : List ℕ) (b : Bool) → ltb (number_of f) n ≡ b → alike_events [] (pick b (f ∷ y) []) ≡ true → ltb i (number_of f) ≡ true
  right_alone f y true v q = absurd (true≢false (sym q))
  right_alone f y false v q = later f v

-- ---- the events given before an instruction

-- none is given
pub unfed : {n : ℕ} {es fs : List ℕ} {m m' : Machine} {o p : Observer} {s t : List Entry} → Both m m' o p → ForeignLists n es fs o p s t → FedLists n es fs [] [] m m' s t
unfed {o = o} {p = p} k q = record { left_observer = o; right_observer = p; state = k; rest = q; said = refl }

-- one more on each side
pub more : {n : ℕ} {es fs : List ℕ} {e f x y : ℕ} {a b : List Entry} {m m' : Machine} {s t : List Entry} → number_of e ≡ number_of f
    → compared_answer (decode (word_of e)) x ≡ compared_answer (decode (word_of f)) y → FedLists n es fs a b m m' s t → FedLists n es fs (given e x ∷ a) (given f y ∷ b) m m' s t
more h g z =
    record {
      left_observer = z.left_observer;
      right_observer = z.right_observer;
      state = z.state;
      rest = z.rest;
      said = ap₂ ◌∷◌ (ap₂ given h g) z.said;
    }

-- the first event of each list, given where b is false
module _ (rom : List ℕ) (i n : ℕ) (e f : ℕ) (es fs : List ℕ) (x y : ℕ) {m m' : Machine} (l l' : Machine) {o p : Observer} (s t : List Entry) (k : Both m m' o p) where
  pair_by : (b b' : Bool) → b ≡ b' → ltb i (number_of e) ≡ b
      → ForeignLists n (e ∷ es) (f ∷ fs) o p (pick b [] (given e x ∷ events_before rom i es l) ++ s) (pick b' [] (given f y ∷ events_before rom i fs l') ++ t)
      → (ltb i (number_of e) ≡ false → ForeignLists n (e ∷ es) (f ∷ fs) o p (given e x ∷ (events_before rom i es l ++ s)) (given f y ∷ (events_before rom i fs l' ++ t))
      → FedLists n (left i es) (left i fs) (given e x ∷ events_before rom i es l) (given f y ∷ events_before rom i fs l') (after_events rom i es l) (after_events rom i fs l') s t)
      → FedLists n (pick b (e ∷ es) (left i es)) (pick b' (f ∷ fs) (left i fs)) (pick b [] (given e x ∷ events_before rom i es l)) (pick b' [] (given f y ∷ events_before rom i fs l'))
      (pick b m (after_events rom i es l)) (pick b' m' (after_events rom i fs l')) s t
  pair_by true true z h q go = unfed k q
  pair_by true false z h q go = absurd (true≢false z)
  pair_by false true z h q go = absurd (true≢false (sym z))
  pair_by false false z h q go = go h q

pub feeds_listed : (rom : List ℕ) (i n : ℕ) → ltb i n ≡ true → (es fs : List ℕ) {m m' : Machine} {o p : Observer} (s t : List Entry) → Both m m' o p
    → ForeignLists n es fs o p (events_before rom i es m ++ s) (events_before rom i fs m' ++ t)
    → FedLists n (left i es) (left i fs) (events_before rom i es m) (events_before rom i fs m') (after_events rom i es m) (after_events rom i fs m') s t
unfolding events_before after_events left
feeds_listed rom i n h [] [] s t k q = unfed k q
feeds_listed rom i n h [] (f ∷ fs) s t k q =
    let z = right_alone i n h f (within n fs) (ltb (number_of f) n) refl q.events in
    rw z (unfed k (rw z at q))
feeds_listed rom i n h (e ∷ es) [] s t k q =
    let z = left_alone i n h e (within n es) (ltb (number_of e) n) refl q.events in
    rw z (unfed k (rw z at q))
feeds_listed rom i n h (e ∷ es) (f ∷ fs) {m} {m'} {o} {p} s t k q =
    let u = decode (word_of e) in
    let v = decode (word_of f) in
    let l = occurred rom m (word_of e) in
    let l' = occurred rom m' (word_of f) in
    let due = same_due i n h e f (within n es) (within n fs) (ltb (number_of e) n) (ltb (number_of f) n) refl refl q.events in
    pair_by rom i n e f es fs (answered m.chip u) (answered m'.chip v) l l' s t k (ltb i (number_of e)) (ltb i (number_of f)) due refl q
    (λ (g : ltb i (number_of e) ≡ false)
    (r : ForeignLists n (e ∷ es) (f ∷ fs) o p (given e (answered m.chip u) ∷ (events_before rom i es l ++ s)) (given f (answered m'.chip v) ∷ (events_before rom i fs l' ++ t))).
    let both-in : alike_events (e ∷ within n es) (f ∷ within n fs) ≡ true = rw (due_within i n h e es g, due_within i n h f fs (rw due at g)) at r.events in
    let ev = both_true (same_event e f) _ both-in in
    let w = both_true (eqb (number_of e) (number_of f)) (same_but_sda (word_of e) (word_of f)) ev.0 in
    let a = both_true (permitted o u) _ r.left in
    let b = both_true (permitted p v) _ r.right in
    let c = both_true (equal_at_high o p (word_of e) (word_of f)) _ r.sda in
    let y = occurs rom (word_of e) (word_of f) w.1 k c.0 a.0 b.0 in
    more (same_number e f ev.0) y.1
    (feeds_listed rom i n h es fs s t y.0 (record { events = ev.1; left = a.1; right = b.1; sda = c.1; unread = r.unread })))
