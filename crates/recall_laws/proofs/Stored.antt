-- From a stored run that ends in its wait to every list that is foreign beside its own.
use Prim.Native.Nat.{ℕ, ◌+◌, ◌-◌, ◌≤◌}
use mathlib.Core.Path.{◌≡◌, refl, ap, sym, ◌∙◌}
use mathlib.Core.Bool.{Bool, true, false, not, true≢false, ◌&&◌}
use mathlib.Core.List.{List, [], ◌∷◌, ◌++◌}
use native.Mathlib.Omega.{arith}
use lib.Dec.{eqb, ltb}
use lib.ListN.{length, drop}
use lib.Seq.{drop-length}
use borrow.Author.Tests.{not-true, ltb-false}
use Rattle.bits.proofs.Finite.{both as both_true}
use Rattle.chip.specs.declared.Chip.{Chip}
use Rattle.bus.specs.declared.Mode.TheVariants.{Ddc2b}
use Rattle.chip.specs.State.{mode_of}
use Rattle.chip_well_formed.specs.WellFormed.{well_formed}
use Rattle.isolation_laws.specs.Foreign.{observer_of, none, Begun}
use Rattle.cpu_instruction.specs.Program.{Access, read_at, write_at}
use Rattle.cpu_operations.specs.declared.Cpu.{Cpu}
use Rattle.firmware_machine.specs.Machine.{Machine}
use Rattle.firmware_machine.specs.Run.{runs, Ended, number_of}
use Rattle.firmware_machine.specs.Turns.{Later, next_at_lem, on_ended}
use Rattle.firmware_machine.proofs.Turns.{split, runs_next}
use Rattle.firmware_machine.specs.Turns as turns
use Rattle.firmware_isolation_laws.specs.Trace.{Entry, given, made, trace, events_of, answers_of, accesses_of}
use Rattle.firmware_isolation_laws.specs.Transfers.{alike_events, same_event, RunsAgree}
use Rattle.firmware_isolation_laws.specs.Words.{is_unaddressed, keeps_address, is_foreign_list, lists_no_data}
use Rattle.firmware_isolation_laws.proofs.Lists.{same_number}
use Rattle.firmware_isolation_laws.proofs.Runs.{trace_answers}
use Rattle.firmware_isolation_laws.proofs.Parts.{trace_split}
use Rattle.firmware_isolation_laws.proofs.Words.{firmware_runs_words, answers_same, alike_length}
use Rattle.recall_laws.specs.Wait.{Waits, is_uninterrupted, holds_at}

-- ---- what is computed of an image

-- its l instructions before the wait, with no event
pub record Boots (l : ℕ) (rom : List ℕ) (start : Machine) : Type 0 where
  pub unrefused : (runs l 0 rom [] start).number ≡ 0
  pub uninterrupted : is_uninterrupted (accesses_of (trace l 0 rom [] start)) ≡ true

-- its stored run: n instructions from number l on, with the list es, from a machine in DDC2B on an idle bus
pub record Stored (test : Cpu → List ℕ → List ℕ → Bool) (n l : ℕ) (rom es : List ℕ) (m : Machine) : Type 0 where
  pub well : well_formed m.chip ≡ true
  pub ddc2b : mode_of m.chip.core ≡ Ddc2b
  pub idle : Begun m.chip.core.bus.phase none
  pub unaddressed : is_unaddressed (observer_of m.chip none) (trace n l rom es m) ≡ true
  pub given_all : events_of (trace n l rom es m) ≡ es
  pub keeps_address_lem : keeps_address (trace n l rom es m) ≡ true
  pub waits : Waits test (runs n l rom es m) (trace n l rom es m)

-- ---- what agrees is enough

waits_same : {test : Cpu → List ℕ → List ℕ → Bool} {a b : Ended} {s t : List Entry} → RunsAgree a b s t → Waits test a s → Waits test b t
waits_same {test} {a} {b} z d =
    record {
      unrefused = sym z.number ∙ d.unrefused;
      uninterrupted = ap is_uninterrupted (sym z.accesses) ∙ d.uninterrupted;
      waiting = ap (λ (c : Cpu). test c b.machine.ram b.machine.chip.registers) (sym z.cpu)
          ∙ ap (λ (l : List ℕ). test a.machine.cpu l b.machine.chip.registers) (sym z.ram)
          ∙ ap (λ (c : Chip). test a.machine.cpu a.machine.ram c.registers) (sym z.chip) ∙ d.waiting;
    }

-- ---- two parts

pub uninterrupted_append : (s t : List Entry) → is_uninterrupted (accesses_of s) ≡ true → is_uninterrupted (accesses_of t) ≡ true → is_uninterrupted (accesses_of (s ++ t)) ≡ true
uninterrupted_append [] t h g = g
uninterrupted_append (given e x ∷ s) t h g = uninterrupted_append s t h g
uninterrupted_append (made (read_at a l) ∷ s) t h g =
    let z = both_true (not (eqb a 0xFFFE)) _ h in
    rw z.0 (uninterrupted_append s t z.1 g)
uninterrupted_append (made (write_at a b) ∷ s) t h g = uninterrupted_append s t h g

-- the first event of a list is not due before instruction l
abbrev pub begins_at : ℕ → List ℕ → Bool
begins_at l [] = true
begins_at l (e ∷ es) = not (ltb (number_of e) l)

alike_later : (l : ℕ) (es fs : List ℕ) → begins_at l es ≡ true → alike_events es fs ≡ true → Later l fs
alike_later l [] [] b h = turns.none
alike_later l [] (f ∷ fs) b h = absurd (true≢false (sym h))
alike_later l (e ∷ es) [] b h = turns.none
alike_later l (e ∷ es) (f ∷ fs) b h =
    let z = same_number e f (both_true (same_event e f) _ h).0 in
    next_at_lem f fs (omega (arith, z, ltb-false (number_of e) l (not-true (ltb (number_of e) l) b)))

events_length : (s : List Entry) → length (answers_of s) ≡ length (events_of s)
events_length [] = refl
events_length (given e x ∷ s) = let z = events_length s in omega (arith, z)
events_length (made a ∷ s) = events_length s

-- ---- every foreign list

module _ (test : Cpu → List ℕ → List ℕ → Bool) (rom es : List ℕ) (start : Machine) (l n : ℕ) (boots : Boots l rom start) (begins : begins_at l es ≡ true)
    (stored : Stored test n l rom es (runs l 0 rom [] start).machine) where
  module _ (fs : List ℕ) (h : is_foreign_list es (observer_of (runs l 0 rom [] start).machine.chip none) fs ≡ true) where
    alike : alike_events es fs ≡ true
    alike = (both_true (alike_events es fs) _ h).0

    later : Later l fs
    later = alike_later l es fs begins alike

    unrefused : eqb (runs l 0 rom [] start).number 0 ≡ true
    unrefused = ap (λ (x : ℕ). eqb x 0) boots.unrefused

    pub agrees : RunsAgree (runs n l rom es (runs l 0 rom [] start).machine) (runs n l rom fs (runs l 0 rom [] start).machine) (trace n l rom es (runs l 0 rom [] start).machine) (trace n l rom fs (runs l 0 rom [] start).machine)
    agrees = firmware_runs_words n l rom (runs l 0 rom [] start).machine stored.well stored.ddc2b stored.idle es fs stored.unaddressed stored.given_all stored.keeps_address_lem h

    -- from the start on
    pub run_parts : runs (l + n) 0 rom fs start ≡ runs n l rom fs (runs l 0 rom [] start).machine
    run_parts =
        let e = runs l 0 rom [] start in
        let a : l + n - 0 ≡ l + n = omega arith in
        let b : l - 0 ≡ l = omega arith in
        let c : l + n - l ≡ n = omega arith in
        let x : e.next ≡ l = runs_next l 0 rom start unrefused ∙ (let z : 0 + l ≡ l = omega arith in z) in
        let y : runs (l + n) 0 rom fs start ≡ on_ended e (λ (j : ℕ) (t : Machine). runs (l + n - j) j rom fs t) = rw (a, b) at (split (l + n) 0 l rom fs start (omega arith) (omega arith) later) in
        y ∙ (rw (unrefused, x, c))

    pub stays : Waits test (runs (l + n) 0 rom fs start) (trace (l + n) 0 rom fs start)
    stays =
        let q = waits_same agrees stored.waits in
        rw (run_parts, trace_split l n 0 l rom fs start (omega arith) later unrefused)
        (record {
          unrefused = q.unrefused;
          uninterrupted = uninterrupted_append (trace l 0 rom [] start) (trace n l rom fs (runs l 0 rom [] start).machine) boots.uninterrupted q.uninterrupted;
          waiting = q.waiting;
        })

    -- where no listed event reads II DAT, every answer is that of the stored run
    pub answers : lists_no_data es ≡ true → (runs (l + n) 0 rom fs start).answers ≡ (runs n l rom es (runs l 0 rom [] start).machine).answers
    answers g = ap (λ (e : Ended). e.answers) run_parts ∙ sym (answers_same n l rom es fs (runs l 0 rom [] start).machine agrees stored.waits.unrefused alike g)

    -- all events are given
    pub none_left : drop (length (runs (l + n) 0 rom fs start).answers) fs ≡ []
    none_left =
        let m = (runs l 0 rom [] start).machine in
        let s = trace n l rom es m in
        let z : length (runs (l + n) 0 rom fs start).answers ≡ length fs
        = ap (λ (e : Ended). length e.answers) run_parts ∙ sym agrees.events_given ∙ ap length (sym (trace_answers n l rom es m)) ∙ events_length s ∙ ap length stored.given_all ∙ alike_length es fs alike in
        ap (λ (k : ℕ). drop k fs) z ∙ drop-length fs
