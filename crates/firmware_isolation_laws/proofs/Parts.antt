-- What happens in a run, in two parts: up to its first event and from there on, or in n instructions and then in k.
use Prim.Native.Nat.{ℕ, zero, suc, ◌+◌, ◌<◌}
use mathlib.Core.Path.{◌≡◌, refl, ap, sym, ◌∙◌}
use mathlib.Core.Bool.{Bool, true, false, true≢false}
use mathlib.Core.List.{List, [], ◌∷◌, ◌++◌, append_assoc}
use native.Mathlib.Omega.{arith}
use lib.ListN.{length, drop}
use lib.Dec.{eqb, ltb}
use borrow.Author.Tests.{lt-ltb}
use Rattle.bits.specs.Byte.{pick}
use Rattle.events.specs.Word.{decode}
use Rattle.step.specs.Step.{answered}
use Rattle.cpu_instruction.specs.Program.{Access}
use Rattle.firmware_machine.specs.Machine.{Machine, Turned, turn}
use Rattle.firmware_machine.specs.Run.{number_of, word_of, occurred, runs, Ended, ended, after_events, answers_before, left}
use Rattle.firmware_machine.specs.Turns.{Later, none, next_at_lem}
use Rattle.firmware_machine.proofs.Turns.{idle}
use Rattle.firmware_laws.proofs.Parts.{left_after, after_dropped}
use Rattle.firmware_isolation_laws.specs.Trace.{Entry, given, made, entries, turn_accesses, events_before, trace, events_of}

-- behind a turn, where no instruction is refused
behind_by : (t : Turned) (i : ℕ) (b : Bool) → eqb t.number 0 ≡ b → (r : Ended) (whole s : List Entry) (f : Machine → List Entry)
    → (eqb r.number 0 ≡ true → whole ≡ s ++ f r.machine) → eqb (pick b r (ended t.machine t.number i [])).number 0 ≡ true
    → pick b whole [] ≡ pick b s [] ++ f (pick b r (ended t.machine t.number i [])).machine
behind_by t i true e r whole s f h q = h q
behind_by t i false e r whole s f h q = absurd (true≢false (sym q ∙ e))

-- ---- up to the first event, and from there on

none_before : (rom : List ℕ) (i to : ℕ) (es : List ℕ) (m : Machine) → i < to → Later to es → events_before rom i es m ≡ []
unfolding events_before
none_before rom i to [] m h none = refl
none_before rom i to (e ∷ es) m h (next_at_lem _ _ g) =
    let z : ltb i (number_of e) ≡ true = lt-ltb i (number_of e) (omega arith) in
    rw z

pub trace_split : (n k i to : ℕ) (rom es : List ℕ) (m : Machine) → to ≡ i + n → Later to es → eqb (runs n i rom [] m).number 0 ≡ true
    → trace (n + k) i rom es m ≡ trace n i rom [] m ++ trace k to rom es (runs n i rom [] m).machine
unfolding trace runs after_events answers_before left events_before
trace_split zero k i to rom es m e d h =
    let p : 0 + k ≡ k = omega arith in
    let q : to ≡ i = omega (arith, e) in
    rw (p, q)
trace_split (suc n) k i to rom es m e d h =
    let p : suc n + k ≡ suc (n + k) = omega arith in
    let z = idle rom i to es m (omega (arith, e)) d in
    let a = entries (turn_accesses rom m) in
    let t = turn rom m in
    let s = trace n (i + 1) rom [] t.machine in
    rw (p, none_before rom i to es m (omega (arith, e)) d, z.state, z.rest)
    (ap (◌++◌ a) (behind_by t i (eqb t.number 0) refl (runs n (i + 1) rom [] t.machine) (trace (n + k) (i + 1) rom es t.machine) s (λ (x : Machine). trace k to rom es x)
    (λ (q : eqb (runs n (i + 1) rom [] t.machine).number 0 ≡ true). trace_split n k (i + 1) to rom es t.machine (omega (arith, e)) d q) h)
    ∙ sym (append_assoc a (pick (eqb t.number 0) s []) _))

-- ---- n instructions, and then k

trace_parts : (n k i to : ℕ) (rom es : List ℕ) (m : Machine) → to ≡ i + n → eqb (runs n i rom es m).number 0 ≡ true
    → trace (n + k) i rom es m ≡ trace n i rom es m ++ trace k to rom (left_after n i es) (runs n i rom es m).machine
unfolding trace runs
trace_parts zero k i to rom es m e h =
    let p : 0 + k ≡ k = omega arith in
    let q : to ≡ i = omega (arith, e) in
    rw (p, q)
trace_parts (suc n) k i to rom es m e h =
    let p : suc n + k ≡ suc (n + k) = omega arith in
    let b = events_before rom i es m in
    let a = entries (turn_accesses rom (after_events rom i es m)) in
    let t = turn rom (after_events rom i es m) in
    let l = left i es in
    let s = trace n (i + 1) rom l t.machine in
    rw p
    (ap (λ (x : List Entry). b ++ (a ++ x)) (behind_by t i (eqb t.number 0) refl (runs n (i + 1) rom l t.machine) (trace (n + k) (i + 1) rom l t.machine) s (λ (x : Machine). trace k to rom (left_after n (i + 1) l) x)
    (λ (q : eqb (runs n (i + 1) rom l t.machine).number 0 ≡ true). trace_parts n k (i + 1) to rom l t.machine (omega (arith, e)) q) h)
    ∙ ap (◌++◌ b) (sym (append_assoc a (pick (eqb t.number 0) s []) _))
    ∙ sym (append_assoc b (a ++ pick (eqb t.number 0) s []) _))

-- past n instructions that are not refused it goes on with the events past those given, as the run does
pub trace_on : (n k i : ℕ) (rom es : List ℕ) (m : Machine) → eqb (runs n i rom es m).number 0 ≡ true
    → trace (n + k) i rom es m ≡ trace n i rom es m ++ trace k (i + n) rom (drop (length (runs n i rom es m).answers) es) (runs n i rom es m).machine
trace_on n k i rom es m h =
    trace_parts n k i (i + n) rom es m refl h
    ∙ ap (λ (l : List ℕ). trace n i rom es m ++ trace k (i + n) rom l (runs n i rom es m).machine) (after_dropped n i rom es m h)

-- ---- the events given, and those left, are the list

events_append : (s t : List Entry) → events_of (s ++ t) ≡ events_of s ++ events_of t
events_append [] t = refl
events_append (given e x ∷ s) t = ap (◌∷◌ e) (events_append s t)
events_append (made a ∷ s) t = events_append s t

events_behind : (a : List Access) (s : List Entry) → events_of (entries a ++ s) ≡ events_of s
events_behind [] s = refl
events_behind (x ∷ a) s = events_behind a s

before_by : (i e x : ℕ) (es : List ℕ) (s : List Entry) (b : Bool) → events_of s ++ left i es ≡ es → events_of (pick b [] (given e x ∷ s)) ++ pick b (e ∷ es) (left i es) ≡ e ∷ es
before_by i e x es s true h = refl
before_by i e x es s false h = ap (◌∷◌ e) h

before_left : (rom : List ℕ) (i : ℕ) (es : List ℕ) (m : Machine) → events_of (events_before rom i es m) ++ left i es ≡ es
unfolding events_before left
before_left rom i [] m = refl
before_left rom i (e ∷ es) m =
    let l = occurred rom m (word_of e) in
    before_by i e (answered m.chip (decode (word_of e))) es (events_before rom i es l) (ltb i (number_of e)) (before_left rom i es l)

given_by : (t : Turned) (i : ℕ) (b : Bool) → eqb t.number 0 ≡ b → (r : Ended) (s : List Entry) (rest l : List ℕ) → (eqb r.number 0 ≡ true → events_of s ++ rest ≡ l)
    → eqb (pick b r (ended t.machine t.number i [])).number 0 ≡ true → events_of (pick b s []) ++ rest ≡ l
given_by t i true e r s rest l h q = h q
given_by t i false e r s rest l h q = absurd (true≢false (sym q ∙ e))

given_left : (n i : ℕ) (rom es : List ℕ) (m : Machine) → eqb (runs n i rom es m).number 0 ≡ true → events_of (trace n i rom es m) ++ left_after n i es ≡ es
unfolding trace runs
given_left zero i rom es m h = refl
given_left (suc n) i rom es m h =
    let b = events_before rom i es m in
    let a = turn_accesses rom (after_events rom i es m) in
    let t = turn rom (after_events rom i es m) in
    let l = left i es in
    let s = trace n (i + 1) rom l t.machine in
    let y = pick (eqb t.number 0) s [] in
    let rest = left_after n (i + 1) l in
    ap (λ (x : List ℕ). x ++ rest) (events_append b (entries a ++ y) ∙ ap (◌++◌ (events_of b)) (events_behind a y))
    ∙ append_assoc (events_of b) (events_of y) rest
    ∙ ap (◌++◌ (events_of b)) (given_by t i (eqb t.number 0) refl (runs n (i + 1) rom l t.machine) s rest l (λ (q : eqb (runs n (i + 1) rom l t.machine).number 0 ≡ true). given_left n (i + 1) rom l t.machine q) h)
    ∙ before_left rom i es m

pub events_given : (n i : ℕ) (rom es : List ℕ) (m : Machine) → eqb (runs n i rom es m).number 0 ≡ true
    → events_of (trace n i rom es m) ++ drop (length (runs n i rom es m).answers) es ≡ es
events_given n i rom es m h = ap (◌++◌ (events_of (trace n i rom es m))) (sym (after_dropped n i rom es m h)) ∙ given_left n i rom es m h
