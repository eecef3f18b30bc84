-- The loop of a firmware run: what is left to do comes to the whole run.
use Prim.Native.Nat.{ℕ, zero, suc, ◌+◌, ◌-◌, ◌<◌, ◌≤◌}
use mathlib.Core.Path.{◌≡◌, refl, ap, ap₂, sym, ◌∙◌}
use mathlib.Core.Bool.{Bool, true, false, true≢false}
use mathlib.Core.List.{List, [], ◌∷◌, ◌++◌, append_assoc, append-nil}
use native.Mathlib.Omega.{arith}
use native.Mathlib.Numerals.{add-one}
use lib.Dec.{eqb, ltb}
use lib.ListN.{length, take, drop, get_or, set, length-set, length-take, take-append-drop}
use lib.Seq.{drop-cons, take-suc-set, drop-set-lt, drop-drop, drop-nil}
use borrow.Author.Tests.{le-ltb, ltb-true, ltb-false}
use Rattle.bits.specs.Byte.{pick}
use Rattle.events.specs.Word.{decode}
use Rattle.chip.specs.declared.Core.{Core}
use Rattle.chip.specs.declared.Chip.{Chip}
use Rattle.chip.specs.State.{chip_of}
use Rattle.chip_events.specs.Outcome.{next}
use Rattle.step.specs.Step.{answered}
use Rattle.cpu_operations.specs.declared.Cpu.{Cpu}
use Rattle.firmware_machine.specs.Machine.{Machine, machine, Turned, turn}
use Rattle.firmware_machine.specs.Seen.{Knows}
use Rattle.firmware_machine.specs.Run.{number_of, word_of, occurred, after_events, answers_before, left, Ended, ended, prepended, on_turned, runs, Called, called}
use Rattle.firmware_machine.specs.Turns.{Later, none, next_at_lem, on_ended}
use Rattle.firmware_machine.proofs.Turns.{split, runs_next}
use Rattle.firmware_run.specs.declared.Occurred.{Occurred}
use Rattle.firmware_run.specs.declared.Settled.{Settled}
use Rattle.firmware_run.specs.Instructions.{settled_end}
use Rattle.cpu_register_cache.specs.Cache.{seen_after_event, none_seen}
use Rattle.firmware_run.specs.Firmware.{result_of, occurred_with, until}
use Rattle.firmware_run.specs.Outcome.{outcome}
use Rattle.cpu_register_cache.proofs.Registers.{knows_none}
use Rattle.cpu_register_cache.proofs.Lines.{knows_event, event_length}

-- ---- the next event

until_le_by : (b : Bool) (e n : ℕ) → ltb e n ≡ b → pick b e n ≤ n
until_le_by true e n h = omega (arith, ltb-true e n h)
until_le_by false e n h = omega arith

pub until_le : (n : ℕ) (es : List ℕ) → until n es ≤ n
unfolding until
until_le n [] = omega arith
until_le n (e ∷ es) = until_le_by (ltb (number_of e) n) (number_of e) n refl

until_later_by : (b : Bool) (e n : ℕ) → ltb e n ≡ b → pick b e n ≤ e
until_later_by true e n h = omega arith
until_later_by false e n h = ltb-false e n h

pub until_later : (n : ℕ) (es : List ℕ) → Later (until n es) es
unfolding until
until_later n [] = none
until_later n (e ∷ es) = next_at_lem e es (until_later_by (ltb (number_of e) n) (number_of e) n refl)

until_due_by : (b : Bool) (e n i : ℕ) → i < n → pick b e n ≤ i → e ≤ i
until_due_by true e n i h g = g
until_due_by false e n i h g = absurd (omega (arith, h, g))

until_due : (n i e : ℕ) (es : List ℕ) → i < n → until n (e ∷ es) ≤ i → number_of e ≤ i
unfolding until
until_due n i e es h g = until_due_by (ltb (number_of e) n) (number_of e) n i h g

until_none : (n i : ℕ) → until n [] ≤ i → n ≤ i
unfolding until
until_none n i g = g

drop_past : (l : List ℕ) (j : ℕ) → length l ≤ j → drop j l ≡ []
drop_past [] j h = drop-nil j
drop_past (x ∷ xs) zero h = absurd (omega arith)
drop_past (x ∷ xs) (suc j) h = drop_past xs j (omega arith)

until_some_by : (b : Bool) (n i : ℕ) (es : List ℕ) (j : ℕ) → ltb j (length es) ≡ b → i < n → until n (drop j es) ≤ i → j < length es
until_some_by true n i es j e h g = ltb-true j (length es) e
until_some_by false n i es j e h g =
    let z : drop j es ≡ [] = drop_past es j (ltb-false j (length es) e) in
    absurd (omega (arith, h, until_none n i (rw z at g)))

-- where one is due, there is one
pub until_some : (n i : ℕ) (es : List ℕ) (j : ℕ) → i < n → until n (drop j es) ≤ i → j < length es
until_some n i es j h g = until_some_by (ltb j (length es)) n i es j refl h g

pub until_cons : (n : ℕ) (es : List ℕ) (j : ℕ) → j < length es → until n (drop j es) ≡ pick (ltb (number_of (get_or es j 0)) n) (number_of (get_or es j 0)) n
unfolding until
until_cons n es j h = ap (until n) (drop-cons es j 0 h)

pub until_past : (n : ℕ) (es : List ℕ) (j : ℕ) → length es ≤ j → until n (drop j es) ≡ n
unfolding until
until_past n es j h = ap (until n) (drop_past es j h)

-- ---- one event

prepended_twice : (l k : List ℕ) (e : Ended) → prepended l (prepended k e) ≡ prepended (l ++ k) e
prepended_twice l k e = ap (λ (a : List ℕ). ended e.machine e.number e.next a) (sym (append_assoc l k e.answers))

runs_event : (n i : ℕ) (rom : List ℕ) (e : ℕ) (es : List ℕ) (m : Machine) → i < n → number_of e ≤ i
    → runs (n - i) i rom (e ∷ es) m ≡ prepended (answered m.chip (decode (word_of e)) ∷ []) (runs (n - i) i rom es (occurred rom m (word_of e)))
unfolding runs after_events answers_before left
runs_event n i rom e es m h g =
    let j : n - i ≡ suc (n - (i + 1)) = omega arith in
    let z : ltb i (number_of e) ≡ false = le-ltb i (number_of e) g in
    rw (j, z)

-- ---- the loop

-- before instruction i, with `given` events given
pub record Going (n : ℕ) (rom es places : List ℕ) (whole : Ended) (answers ram seen registers : List ℕ) (core : Core) (c : Cpu) (i given : ℕ) : Type 0 where
  pub within : i ≤ n
  pub listed : given ≤ length es
  pub same : length answers ≡ length places
  pub total : whole ≡ prepended (take given answers) (runs (n - i) i rom (drop given es) (machine c ram (chip_of registers core)))
  pub rest : drop given answers ≡ drop given places
  pub knows : Knows seen (chip_of registers core)
  pub size : length seen ≡ 38

-- what is left to do
abbrev pub measure : ℕ → List ℕ → ℕ → ℕ → ℕ
measure n es i given = (length es - given) + (n - i)

module _ (n : ℕ) (rom es places : List ℕ) (whole : Ended) (answers ram seen registers : List ℕ) (core : Core) (c : Cpu) (i given : ℕ)
    (room : length es ≤ length places) (h : Going n rom es places whole answers ram seen registers core c i given) (more : i < n) where
  -- an event was given
  module _ (to : ℕ) (at : to ≡ until n (drop given es)) (reached : to ≤ i) where
    due : until n (drop given es) ≤ i
    due = rw (← at) reached

    pub some : given < length es
    some = until_some n i es given more due

    pub after_events_less : measure n es i (given + 1) < measure n es i given
    after_events_less = omega (arith, some)

    goes_set : (w : ℕ) → w ≡ word_of (get_or es given 0) → (o : Occurred) (r s : List ℕ) → o ≡ occurred_with rom c (chip_of registers core) w
        → r ≡ (next (chip_of registers core) (decode w)).registers → s ≡ seen_after_event seen (decode w)
        → Going n rom es places whole (set answers given o.answer) ram s r o.core o.cpu i (given + 1)
    unfolding occurred occurred_with
    goes_set w e o r s p q u =
        let m = machine c ram (chip_of registers core) in
        let a : given < length answers = omega (arith, some, h.same) in
        let z : drop given es ≡ get_or es given 0 ∷ drop (suc given) es = drop-cons es given 0 some in
        let d : number_of (get_or es given 0) ≤ i = until_due n i (get_or es given 0) (drop (suc given) es) more (rw z at due) in
        record {
          within = h.within;
          listed = omega (arith, some);
          same = length-set answers given o.answer ∙ h.same;
          total =
              rw (p, q, e, add-one, take-suc-set answers given (answered (chip_of registers core) (decode (word_of (get_or es given 0)))) a)
              (h.total ∙ ap (prepended (take given answers)) (ap (λ (l : List ℕ). runs (n - i) i rom l m) z ∙ runs_event n i rom (get_or es given 0) (drop (suc given) es) m more d)
              ∙ prepended_twice (take given answers) (answered (chip_of registers core) (decode (word_of (get_or es given 0))) ∷ []) _);
          rest = drop-set-lt (given + 1) answers given o.answer (omega arith) ∙ sym (drop-drop 1 given answers) ∙ ap (drop 1) h.rest ∙ drop-drop 1 given places;
          knows = rw (p, q, u) (knows_event seen registers core (decode w) h.size h.knows);
          size = rw u (event_length seen (decode w) h.size);
        }

    pub after_events_goes : (v : ℕ) → v ≡ get_or es given 0 → (w : ℕ) → w ≡ word_of v → (o : Occurred) (r s a : List ℕ) → o ≡ occurred_with rom c (chip_of registers core) w
        → r ≡ (next (chip_of registers core) (decode w)).registers → s ≡ seen_after_event seen (decode w) → a ≡ set answers given o.answer
        → Going n rom es places whole a ram s r o.core o.cpu i (given + 1)
    after_events_goes v x w e o r s a p q u y = rw y (goes_set w (e ∙ ap word_of x) o r s p q u)

  -- instructions were done
  module _ (to : ℕ) (at : to ≡ until n (drop given es)) (later : i < to) (s : Settled) (r ram' : List ℕ)
      (e : settled_end s ram' r ≡ runs (to - i) i rom [] (machine c ram (chip_of registers core))) where
    most : to ≤ n
    most = rw at (until_le n (drop given es))

    on : runs (n - i) i rom (drop given es) (machine c ram (chip_of registers core)) ≡ on_ended (settled_end s ram' r) (λ (j : ℕ) (t : Machine). runs (n - j) j rom (drop given es) t)
    on =
        split n i to rom (drop given es) (machine c ram (chip_of registers core)) (omega (arith, later)) most (rw at (until_later n (drop given es)))
        ∙ ap (λ (x : Ended). on_ended x (λ (j : ℕ) (t : Machine). runs (n - j) j rom (drop given es) t)) (sym e)

    reaches : eqb s.refusal 0 ≡ true → s.number ≡ to
    reaches z =
        let y : eqb (runs (to - i) i rom [] (machine c ram (chip_of registers core))).number 0 ≡ true = ap (λ (x : Ended). eqb x.number 0) (sym e) ∙ z in
        let w : i + (to - i) ≡ to = omega (arith, later) in
        ap (λ (x : Ended). x.next) e ∙ runs_next (to - i) i rom (machine c ram (chip_of registers core)) y ∙ w

    pub on_less : eqb s.refusal 0 ≡ true → measure n es s.number given < measure n es i given
    on_less z = rw (reaches z) (omega (arith, later, most))

    pub on_goes : eqb s.refusal 0 ≡ true → (seen' : List ℕ) → Knows seen' (chip_of r s.core) → length seen' ≡ 38 → Going n rom es places whole answers ram' seen' r s.core s.cpu s.number given
    on_goes z seen' known sized =
        record {
          within = rw (reaches z) most;
          listed = h.listed;
          same = h.same;
          total = h.total ∙ ap (prepended (take given answers)) (on ∙ (rw z));
          rest = h.rest;
          knows = known;
          size = sized;
        }

    pub on_ends : eqb s.refusal 0 ≡ false → whole ≡ prepended (take given answers) (ended (machine s.cpu ram' (chip_of r s.core)) s.refusal s.number [])
    on_ends z = h.total ∙ ap (prepended (take given answers)) (on ∙ (rw z))

-- ---- the end

pub first : (n : ℕ) (rom es places : List ℕ) (c : Cpu) (ram registers : List ℕ) (core : Core) (seen : List ℕ) → seen ≡ none_seen
    → Going n rom es places (runs n 0 rom es (machine c ram (chip_of registers core))) places ram seen registers core c 0 0
first n rom es places c ram registers core seen e =
    record {
      within = omega arith;
      listed = omega arith;
      same = refl;
      total = ap (λ (x : ℕ). runs x 0 rom es (machine c ram (chip_of registers core))) (let z : n ≡ n - 0 = omega arith in z);
      rest = refl;
      knows = rw e (knows_none (chip_of registers core));
      size = rw e refl;
    }

module _ (es places : List ℕ) (whole : Ended) (answers : List ℕ) (given : ℕ) (room : length es ≤ length places) (listed : given ≤ length es)
    (same : length answers ≡ length places) (rest : drop given answers ≡ drop given places) where
  answered_length : length (take given answers ++ []) ≡ given
  answered_length = ap length (append-nil (take given answers)) ∙ length-take given answers ∙ (omega (arith, same))

  pub ends : (c : Cpu) (ram : List ℕ) (k : Chip) (x i : ℕ) → whole ≡ prepended (take given answers) (ended (machine c ram k) x i [])
      → (outcome x c k i given ≡ result_of (called whole places)) × (answers ≡ (called whole places).answers) × (ram ≡ (called whole places).ram)
  ends c ram k x i e =
      rw e (
        ap (outcome x c k i) (sym answered_length),
        sym (take-append-drop given answers) ∙ ap₂ (λ (l r : List ℕ). l ++ r) (sym (append-nil (take given answers))) (rest ∙ (rw answered_length)),
        refl,
      )

pub runs_done : (n i : ℕ) (rom es : List ℕ) (m : Machine) → n ≤ i → i ≤ n → runs (n - i) i rom es m ≡ ended m 0 i []
unfolding runs
runs_done n i rom es m h g =
    let z : n - i ≡ 0 = omega arith in
    rw z

pub finish : (n : ℕ) (rom es places : List ℕ) (whole : Ended) (answers ram seen registers : List ℕ) (core : Core) (c : Cpu) (i given : ℕ)
    → length es ≤ length places → Going n rom es places whole answers ram seen registers core c i given → n ≤ i
    → (outcome 0 c (chip_of registers core) i given ≡ result_of (called whole places)) × (answers ≡ (called whole places).answers) × (ram ≡ (called whole places).ram)
finish n rom es places whole answers ram seen registers core c i given room h l =
    ends es places whole answers given room h.listed h.same h.rest c ram (chip_of registers core) 0 i
    (h.total ∙ ap (prepended (take given answers)) (runs_done n i rom (drop given es) (machine c ram (chip_of registers core)) l h.within))

pub stop : (n : ℕ) (rom es places : List ℕ) (whole : Ended) (answers ram seen registers : List ℕ) (core : Core) (c : Cpu) (i given : ℕ)
    → length es ≤ length places → Going n rom es places whole answers ram seen registers core c i given
    → (d : Cpu) (ram' : List ℕ) (k : Chip) (x j : ℕ) → whole ≡ prepended (take given answers) (ended (machine d ram' k) x j [])
    → (outcome x d k j given ≡ result_of (called whole places)) × (answers ≡ (called whole places).answers) × (ram' ≡ (called whole places).ram)
stop n rom es places whole answers ram seen registers core c i given room h d ram' k x j e =
    ends es places whole answers given room h.listed h.same h.rest d ram' k x j e
