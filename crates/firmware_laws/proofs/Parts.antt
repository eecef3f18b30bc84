-- A run of n + k instructions is a run of n and then one of k.
use Prim.Native.Nat.{ℕ, zero, suc, ◌+◌, ◌-◌}
use mathlib.Core.Path.{◌≡◌, refl, ap, ap₂, sym, ◌∙◌}
use mathlib.Core.Bool.{Bool, true, false, true≢false}
use mathlib.Core.List.{List, [], ◌∷◌, ◌++◌, append_assoc}
use native.Mathlib.Omega.{arith}
use lib.Dec.{eqb, ltb}
use lib.ListN.{length, drop, length-append}
use lib.Seq.{drop-drop}
use borrow.Author.Tests.{lt-ltb, le-ltb, ltb-true, ltb-false}
use Rattle.bits.specs.Byte.{pick}
use Rattle.events.specs.Word.{decode}
use Rattle.step.specs.Step.{answered}
use Rattle.firmware_machine.specs.Machine.{Machine, machine, Turned, turn}
use Rattle.firmware_machine.specs.Run.{number_of, word_of, occurred, after_events, answers_before, left, Ended, ended, prepended, on_turned, runs}
use Rattle.firmware_laws.specs.Parts.{earlier, renumbered, followed, run_in_parts}

-- ---- renumbered events

earlier_number : (n e : ℕ) → number_of (earlier n e) ≡ number_of e - n
earlier_number n e = omega arith

earlier_word : (n e : ℕ) → word_of (earlier n e) ≡ word_of e
earlier_word n e = omega arith

due_by : (i n q : ℕ) (b : Bool) → ltb i (q - n) ≡ b → ltb (i + n) q ≡ b
due_by i n q true h = lt-ltb (i + n) q (omega (arith, ltb-true i (q - n) h))
due_by i n q false h = le-ltb (i + n) q (omega (arith, ltb-false i (q - n) h))

due_equal : (i n e : ℕ) → ltb (i + n) (number_of e) ≡ ltb i (number_of (earlier n e))
due_equal i n e = due_by i n (number_of e) (ltb i (number_of e - n)) refl ∙ ap (ltb i) (sym (earlier_number n e))

pick_equal : {A : Type 0} (b b' : Bool) (x y x' y' : A) → b ≡ b' → x ≡ x' → y ≡ y' → pick b x y ≡ pick b' x' y'
pick_equal b b' x y x' y' h p q = rw (h, p, q)

after_events_shift : (rom : List ℕ) (i n : ℕ) (es : List ℕ) (m : Machine) → after_events rom (i + n) es m ≡ after_events rom i (renumbered n es) m
unfolding after_events
after_events_shift rom i n [] m = refl
after_events_shift rom i n (e ∷ es) m =
    pick_equal _ _ _ _ _ _ (due_equal i n e) refl (after_events_shift rom i n es (occurred rom m (word_of e)) ∙ ap (λ (w : ℕ). after_events rom i (renumbered n es) (occurred rom m w)) (sym (earlier_word n e)))

answers_shift : (rom : List ℕ) (i n : ℕ) (es : List ℕ) (m : Machine) → answers_before rom (i + n) es m ≡ answers_before rom i (renumbered n es) m
unfolding answers_before
answers_shift rom i n [] m = refl
answers_shift rom i n (e ∷ es) m =
    pick_equal _ _ _ _ _ _ (due_equal i n e) refl
    (ap (◌∷◌ (answered m.chip (decode (word_of e)))) (answers_shift rom i n es (occurred rom m (word_of e)))
    ∙ ap (λ (w : ℕ). answered m.chip (decode w) ∷ answers_before rom i (renumbered n es) (occurred rom m w)) (sym (earlier_word n e)))

left_by : (i n e : ℕ) (es : List ℕ) (b : Bool) → renumbered n (left (i + n) es) ≡ left i (renumbered n es)
    → renumbered n (pick b (e ∷ es) (left (i + n) es)) ≡ pick b (earlier n e ∷ renumbered n es) (left i (renumbered n es))
left_by i n e es true h = refl
left_by i n e es false h = h

left_shift : (i n : ℕ) (es : List ℕ) → renumbered n (left (i + n) es) ≡ left i (renumbered n es)
unfolding left
left_shift i n [] = refl
left_shift i n (e ∷ es) =
    left_by i n e es (ltb (i + n) (number_of e)) (left_shift i n es) ∙ ap (λ (b : Bool). pick b (earlier n e ∷ renumbered n es) (left i (renumbered n es))) (due_equal i n e)

-- a run with the numbers n further
abbrev further : ℕ → Ended → Ended
further n e = ended e.machine e.number (e.next + n) e.answers

on_shift : (t : Turned) (i n : ℕ) (f g : Machine → Ended) → f t.machine ≡ further n (g t.machine) → (b : Bool)
    → pick b (f t.machine) (ended t.machine t.number (i + n) []) ≡ further n (pick b (g t.machine) (ended t.machine t.number i []))
on_shift t i n f g h true = h
on_shift t i n f g h false = refl

runs_shift : (k i n : ℕ) (rom es : List ℕ) (m : Machine) → runs k (i + n) rom es m ≡ further n (runs k i rom (renumbered n es) m)
unfolding runs
runs_shift zero i n rom es m = refl
runs_shift (suc k) i n rom es m =
    let j : i + n + 1 ≡ i + 1 + n = omega arith in
    let x = turn rom (after_events rom i (renumbered n es) m) in
    let r : runs k (i + n + 1) rom (left (i + n) es) x.machine ≡ further n (runs k (i + 1) rom (left i (renumbered n es)) x.machine)
    = ap (λ (a : ℕ). runs k a rom (left (i + n) es) x.machine) j ∙ runs_shift k (i + 1) n rom (left (i + n) es) x.machine
    ∙ ap (λ (l : List ℕ). further n (runs k (i + 1) rom l x.machine)) (left_shift i n es) in
    let o = on_shift x i n (λ (t : Machine). runs k (i + n + 1) rom (left (i + n) es) t) (λ (t : Machine). runs k (i + 1) rom (left i (renumbered n es)) t) r (eqb x.number 0) in
    ap₂ (λ (l : List ℕ) (y : Machine). prepended l (on_turned (turn rom y) (i + n) (λ (t : Machine). runs k (i + n + 1) rom (left (i + n) es) t))) (answers_shift rom i n es m) (after_events_shift rom i n es m)
    ∙ ap (prepended (answers_before rom i (renumbered n es) m)) o

-- ---- the events left

abbrev pub left_after : ℕ → ℕ → List ℕ → List ℕ
left_after zero i es = es
left_after (suc n) i es = left_after n (i + 1) (left i es)

dropped_by : (rom : List ℕ) (i e x : ℕ) (es : List ℕ) (l : List ℕ) (b : Bool) → left i es ≡ drop (length l) es → pick b (e ∷ es) (left i es) ≡ drop (length (pick b [] (x ∷ l))) (e ∷ es)
dropped_by rom i e x es l true h = refl
dropped_by rom i e x es l false h = h

left_dropped : (rom : List ℕ) (i : ℕ) (es : List ℕ) (m : Machine) → left i es ≡ drop (length (answers_before rom i es m)) es
unfolding left answers_before
left_dropped rom i [] m = refl
left_dropped rom i (e ∷ es) m =
    dropped_by rom i e (answered m.chip (decode (word_of e))) es (answers_before rom i es (occurred rom m (word_of e))) (ltb i (number_of e)) (left_dropped rom i es (occurred rom m (word_of e)))

on_dropped : (t : Turned) (i : ℕ) (r : Ended) (a l es : List ℕ) (b : Bool) → eqb t.number 0 ≡ b → (eqb r.number 0 ≡ true → l ≡ drop (length r.answers) (drop (length a) es))
    → eqb (pick b r (ended t.machine t.number i [])).number 0 ≡ true → l ≡ drop (length (a ++ (pick b r (ended t.machine t.number i [])).answers)) es
on_dropped t i r a l es true e h z = h z ∙ drop-drop (length r.answers) (length a) es ∙ ap (λ (n : ℕ). drop n es) (sym (length-append a r.answers))
on_dropped t i r a l es false e h z = absurd (true≢false (sym z ∙ e))

-- the events left are those past the events given
pub after_dropped : (n i : ℕ) (rom es : List ℕ) (m : Machine) → eqb (runs n i rom es m).number 0 ≡ true → left_after n i es ≡ drop (length (runs n i rom es m).answers) es
unfolding runs
after_dropped zero i rom es m h = refl
after_dropped (suc n) i rom es m h =
    let x = turn rom (after_events rom i es m) in
    let r = runs n (i + 1) rom (left i es) x.machine in
    let a = answers_before rom i es m in
    on_dropped x i r a (left_after n (i + 1) (left i es)) es (eqb x.number 0) refl
    (λ (z : eqb r.number 0 ≡ true). after_dropped n (i + 1) rom (left i es) x.machine z ∙ ap (drop (length r.answers)) (left_dropped rom i es m)) h

on_next : (t : Turned) (i j : ℕ) (r : Ended) (b : Bool) → eqb t.number 0 ≡ b → (eqb r.number 0 ≡ true → r.next ≡ j)
    → eqb (pick b r (ended t.machine t.number i [])).number 0 ≡ true → (pick b r (ended t.machine t.number i [])).next ≡ j
on_next t i j r true e h z = h z
on_next t i j r false e h z = absurd (true≢false (sym z ∙ e))

-- a run that is not refused counts all its instructions
pub run_next : (n i : ℕ) (rom es : List ℕ) (m : Machine) → eqb (runs n i rom es m).number 0 ≡ true → (runs n i rom es m).next ≡ i + n
unfolding runs
run_next zero i rom es m h = omega arith
run_next (suc n) i rom es m h =
    let x = turn rom (after_events rom i es m) in
    let j : i + 1 + n ≡ i + suc n = omega arith in
    on_next x i (i + suc n) (runs n (i + 1) rom (left i es) x.machine) (eqb x.number 0) refl (λ z. run_next n (i + 1) rom (left i es) x.machine z ∙ j) h

-- ---- two parts

prepended_by : (a : List ℕ) (r : Ended) (y : Ended) (b : Bool) → prepended a (pick b (prepended r.answers y) r) ≡ pick b (prepended (a ++ r.answers) y) (prepended a r)
prepended_by a r y true = ap (ended y.machine y.number y.next) (sym (append_assoc a r.answers y.answers))
prepended_by a r y false = refl

on_parts : (t : Turned) (i : ℕ) (a : List ℕ) (w r : Ended) (f : Machine → Ended) (b : Bool) → eqb t.number 0 ≡ b
    → w ≡ pick (eqb r.number 0) (prepended r.answers (f r.machine)) r
    → prepended a (pick b w (ended t.machine t.number i []))
    ≡ pick (eqb (pick b r (ended t.machine t.number i [])).number 0)
    (prepended (a ++ (pick b r (ended t.machine t.number i [])).answers) (f (pick b r (ended t.machine t.number i [])).machine))
    (prepended a (pick b r (ended t.machine t.number i [])))
on_parts t i a w r f true e h = ap (prepended a) h ∙ prepended_by a r (f r.machine) (eqb r.number 0)
on_parts t i a w r f false e h = rw e

parts : (n k i : ℕ) (rom es : List ℕ) (m : Machine)
    → runs (n + k) i rom es m
    ≡ pick (eqb (runs n i rom es m).number 0) (prepended (runs n i rom es m).answers (runs k (i + n) rom (left_after n i es) (runs n i rom es m).machine)) (runs n i rom es m)
unfolding runs
parts zero k i rom es m =
    let p : 0 + k ≡ k = omega arith in
    let q : i + 0 ≡ i = omega arith in
    rw (p, q)
parts (suc n) k i rom es m =
    let p : suc n + k ≡ suc (n + k) = omega arith in
    let q : i + 1 + n ≡ i + suc n = omega arith in
    let x = turn rom (after_events rom i es m) in
    let l = left i es in
    let h = parts n k (i + 1) rom l x.machine ∙ ap (λ (j : ℕ). pick (eqb (runs n (i + 1) rom l x.machine).number 0)
    (prepended (runs n (i + 1) rom l x.machine).answers (runs k j rom (left_after n (i + 1) l) (runs n (i + 1) rom l x.machine).machine)) (runs n (i + 1) rom l x.machine)) q in
    ap (λ (j : ℕ). runs j i rom es m) p
    ∙ on_parts x i (answers_before rom i es m) (runs (n + k) (i + 1) rom l x.machine) (runs n (i + 1) rom l x.machine) (λ (y : Machine). runs k (i + suc n) rom (left_after n (i + 1) l) y)
    (eqb x.number 0) refl h

-- past n instructions that are not refused a run goes on from what they leave, with the events past those given
pub run_on : (n k i : ℕ) (rom es : List ℕ) (m : Machine) → eqb (runs n i rom es m).number 0 ≡ true
    → runs (n + k) i rom es m ≡ prepended (runs n i rom es m).answers (runs k (i + n) rom (drop (length (runs n i rom es m).answers) es) (runs n i rom es m).machine)
run_on n k i rom es m h =
    let r = runs n i rom es m in
    parts n k i rom es m
    ∙ ap (λ (b : Bool). pick b (prepended r.answers (runs k (i + n) rom (left_after n i es) r.machine)) r) h
    ∙ ap (λ (l : List ℕ). prepended r.answers (runs k (i + n) rom l r.machine)) (after_dropped n i rom es m h)

second_by : (n k : ℕ) (rom es l : List ℕ) (r : Ended) (b : Bool) → (b ≡ true → r.next ≡ n) → (b ≡ true → l ≡ drop (length r.answers) es)
    → pick b (prepended r.answers (runs k (0 + n) rom l r.machine)) r ≡ pick b (followed r (runs k 0 rom (renumbered n (drop (length r.answers) es)) r.machine)) r
second_by n k rom es l r true h g =
    let s = runs k 0 rom (renumbered n (drop (length r.answers) es)) r.machine in
    let j : s.next + n ≡ r.next + s.next = omega (arith, h refl) in
    ap (prepended r.answers) (runs_shift k 0 n rom l r.machine ∙ ap (λ (x : List ℕ). further n (runs k 0 rom (renumbered n x) r.machine)) (g refl))
    ∙ ap (λ (a : ℕ). ended s.machine s.number a (r.answers ++ s.answers)) j
second_by n k rom es l r false h g = refl

-- A run of n + k instructions is one of n and then one of k, with the events past those given, their numbers n less
pub run_in_parts_lem : (n k : ℕ) (rom es : List ℕ) (m : Machine) → runs (n + k) 0 rom es m ≡ run_in_parts n k rom es m
run_in_parts_lem n k rom es m =
    let r = runs n 0 rom es m in
    let z : 0 + n ≡ n = omega arith in
    parts n k 0 rom es m
    ∙ second_by n k rom es (left_after n 0 es) r (eqb r.number 0) (λ (h : eqb r.number 0 ≡ true). run_next n 0 rom es m h ∙ z) (λ (h : eqb r.number 0 ≡ true). after_dropped n 0 rom es m h)
