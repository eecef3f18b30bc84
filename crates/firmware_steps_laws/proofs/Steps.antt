-- The steps of a firmware run make the run.
-- Assumes nothing.
use Prim.Native.Nat.{ℕ, zero, suc, ◌+◌, ◌-◌, ◌<◌, ◌≤◌}
use mathlib.Core.Path.{◌≡◌, refl, ap, ap₂, sym, ◌∙◌}
use mathlib.Core.Bool.{Bool, true, false}
use mathlib.Core.List.{List, [], ◌∷◌}
use native.Mathlib.Omega.{arith}
use lib.Dec.{eqb, ltb}
use borrow.Author.Tests.{lt-ltb, le-ltb, ltb-true, ltb-false}
use Rattle.bits.specs.Byte.{pick}
use Rattle.events.specs.Word.{decode}
use Rattle.step.specs.Step.{answered}
use Rattle.firmware_machine.specs.Machine.{Machine, Turned, turn}
use Rattle.firmware_machine.specs.Run.{number_of, word_of, occurred, after_events, answers_before, left, Ended, ended, prepended, runs}
use Rattle.firmware_laws.proofs.Parts.{run_next}
use Rattle.firmware_steps_laws.specs.Steps.{up_to, least, on_event, in_steps}

-- ---- instructions before an event

on_first : (t : Turned) (i : ℕ) (x y : Ended) (b : Bool) → x ≡ y → prepended [] (pick b x (ended t.machine t.number i [])) ≡ prepended [] (pick b y (ended t.machine t.number i []))
on_first t i x y b h = ap (λ (z : Ended). prepended [] (pick b z (ended t.machine t.number i []))) h

-- before its number an event changes nothing
pub before_event : (k i : ℕ) (rom : List ℕ) (e : ℕ) (es : List ℕ) (m : Machine) → k ≤ number_of e - i → runs k i rom (e ∷ es) m ≡ runs k i rom [] m
unfolding runs after_events answers_before left
before_event zero i rom e es m h = refl
before_event (suc k) i rom e es m h =
    rw (lt-ltb i (number_of e) (omega (arith, h)))
    (on_first (turn rom m) i _ _ (eqb (turn rom m).number 0) (before_event k (i + 1) rom e es (turn rom m).machine (omega (arith, h))))

on_parts : (t : Turned) (i : ℕ) (w r : Ended) (f : Machine → Ended) (b : Bool) → eqb t.number 0 ≡ b → w ≡ pick (eqb r.number 0) (f r.machine) r
    → prepended [] (pick b w (ended t.machine t.number i []))
    ≡ pick (eqb (pick b r (ended t.machine t.number i [])).number 0) (f (pick b r (ended t.machine t.number i [])).machine) (prepended [] (pick b r (ended t.machine t.number i [])))
on_parts t i w r f true h g = g
on_parts t i w r f false h g = rw h

-- and the run goes on from there
pub before_event_parts : (k j i : ℕ) (rom : List ℕ) (e : ℕ) (es : List ℕ) (m : Machine) → k ≤ number_of e - i
    → runs (k + j) i rom (e ∷ es) m ≡ pick (eqb (runs k i rom [] m).number 0) (runs j (i + k) rom (e ∷ es) (runs k i rom [] m).machine) (runs k i rom [] m)
unfolding runs after_events answers_before left
before_event_parts zero j i rom e es m h =
    let p : 0 + j ≡ j = omega arith in
    let q : i + 0 ≡ i = omega arith in
    rw (p, q)
before_event_parts (suc k) j i rom e es m h =
    let p : suc k + j ≡ suc (k + j) = omega arith in
    let q : i + 1 + k ≡ i + suc k = omega arith in
    let t = turn rom m in
    let r = runs k (i + 1) rom [] t.machine in
    let g = before_event_parts k j (i + 1) rom e es t.machine (omega (arith, h)) ∙ ap (λ (a : ℕ). pick (eqb r.number 0) (runs j a rom (e ∷ es) r.machine) r) q in
    ap (λ (a : ℕ). runs a i rom (e ∷ es) m) p
    ∙ rw (lt-ltb i (number_of e) (omega (arith, h)))
    (on_parts t i (runs (k + j) (i + 1) rom (e ∷ es) t.machine) r (λ (x : Machine). runs j (i + suc k) rom (e ∷ es) x) (eqb t.number 0) refl g)

-- ---- an event whose number has come is given first

pub due : (j i : ℕ) (rom : List ℕ) (e : ℕ) (es : List ℕ) (m : Machine) → 0 < j → number_of e ≤ i
    → runs j i rom (e ∷ es) m ≡ prepended (answered m.chip (decode (word_of e)) ∷ []) (runs j i rom es (occurred rom m (word_of e)))
unfolding runs after_events answers_before left
due zero i rom e es m z h = absurd (omega (arith, z))
due (suc j) i rom e es m z h = rw (le-ltb i (number_of e) h)

-- ---- the run

-- an event given after r, and the run from there
abbrev going : ℕ → List ℕ → ℕ → List ℕ → Ended → Ended
going n rom e es r = prepended (answered r.machine.chip (decode (word_of e)) ∷ []) (in_steps n r.next rom es (occurred rom r.machine (word_of e)))

-- no instruction is left
at_end_by : (n i k j : ℕ) (rom : List ℕ) (e : ℕ) (es : List ℕ) (m : Machine) (f : Ended → Ended) → k ≡ 0 → j ≡ 0 → ltb i n ≡ false
    → on_event (runs k i rom [] m) n f ≡ runs j i rom (e ∷ es) m
unfolding runs
at_end_by n i k j rom e es m f h g l = rw (h, g, l)

-- the event comes with the end of the run or behind it
late_by : (n : ℕ) (r : Ended) (f : Ended → Ended) (b : Bool) → (b ≡ true → r.next ≡ n) → pick b (pick (ltb r.next n) (f r) r) r ≡ r
late_by n r f true h = rw (le-ltb r.next n (omega (arith, h refl)))
late_by n r f false h = refl

late : (n i : ℕ) (rom : List ℕ) (e : ℕ) (es : List ℕ) (m : Machine) (f : Ended → Ended) → i ≤ n → n ≤ number_of e → on_event (up_to n i rom m) n f ≡ runs (n - i) i rom (e ∷ es) m
late n i rom e es m f h g =
    late_by n (up_to n i rom m) f (eqb (up_to n i rom m).number 0) (λ (z : eqb (up_to n i rom m).number 0 ≡ true). omega (arith, h, run_next (n - i) i rom [] m z))
    ∙ sym (before_event (n - i) i rom e es m (omega (arith, g)))

-- the event comes before the end
given_by : (n i k : ℕ) (rom : List ℕ) (e : ℕ) (es : List ℕ) (r : Ended) (b : Bool) → (b ≡ true → r.next ≡ i + k) → i + k < n → number_of e ≤ i + k
    → ((a : ℕ) (m : Machine) → a ≤ n → in_steps n a rom es m ≡ runs (n - a) a rom es m)
    → pick b (pick (ltb r.next n) (going n rom e es r) r) r ≡ pick b (runs (n - (i + k)) (i + k) rom (e ∷ es) r.machine) r
given_by n i k rom e es r true h l g f =
    let x = occurred rom r.machine (word_of e) in
    let a = answered r.machine.chip (decode (word_of e)) ∷ [] in
    rw (h refl, lt-ltb (i + k) n l)
    (ap (prepended a) (f (i + k) x (omega (arith, l))) ∙ sym (due (n - (i + k)) (i + k) rom e es r.machine (omega (arith, l)) g))
given_by n i k rom e es r false h l g f = refl

given : (n i : ℕ) (rom : List ℕ) (e : ℕ) (es : List ℕ) (m : Machine) → i < n → number_of e < n
    → ((a : ℕ) (x : Machine) → a ≤ n → in_steps n a rom es x ≡ runs (n - a) a rom es x)
    → on_event (up_to (number_of e) i rom m) n (going n rom e es) ≡ runs (n - i) i rom (e ∷ es) m
given n i rom e es m h g f =
    let k = number_of e - i in
    let r = up_to (number_of e) i rom m in
    let p : k + (n - (i + k)) ≡ n - i = omega (arith, h, g) in
    given_by n i k rom e es r (eqb r.number 0) (λ (z : eqb r.number 0 ≡ true). run_next k i rom [] m z) (omega (arith, h, g)) (omega arith) f
    ∙ sym (before_event_parts k (n - (i + k)) i rom e es m (omega arith))
    ∙ ap (λ (j : ℕ). runs j i rom (e ∷ es) m) p

event_by : (n i : ℕ) (rom : List ℕ) (e : ℕ) (es : List ℕ) (m : Machine) (a b : Bool) → ltb i n ≡ a → ltb (number_of e) n ≡ b → i ≤ n
    → ((j : ℕ) (x : Machine) → j ≤ n → in_steps n j rom es x ≡ runs (n - j) j rom es x)
    → on_event (up_to (pick b (number_of e) n) i rom m) n (going n rom e es) ≡ runs (n - i) i rom (e ∷ es) m
event_by n i rom e es m true true h g l f = given n i rom e es m (ltb-true i n h) (ltb-true (number_of e) n g) f
event_by n i rom e es m true false h g l f = late n i rom e es m (going n rom e es) l (ltb-false (number_of e) n g)
event_by n i rom e es m false true h g l f =
    at_end_by n i (number_of e - i) (n - i) rom e es m (going n rom e es) (omega (arith, ltb-false i n h, ltb-true (number_of e) n g)) (omega (arith, ltb-false i n h)) h
event_by n i rom e es m false false h g l f =
    at_end_by n i (n - i) (n - i) rom e es m (going n rom e es) (omega (arith, ltb-false i n h)) (omega (arith, ltb-false i n h)) h

-- instructions up to an event, the event, and so on: the run up to the instruction of number n, whatever the list
pub steps_run : (n i : ℕ) (rom es : List ℕ) (m : Machine) → i ≤ n → in_steps n i rom es m ≡ runs (n - i) i rom es m
unfolding in_steps
steps_run n i rom [] m h = refl
steps_run n i rom (e ∷ es) m h =
    event_by n i rom e es m (ltb i n) (ltb (number_of e) n) refl refl h (λ (j : ℕ) (x : Machine) (l : j ≤ n). steps_run n j rom es x l)
