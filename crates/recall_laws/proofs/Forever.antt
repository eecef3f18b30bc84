-- With no more events firmware stays in its wait, however many instructions are run.
use Prim.Native.Nat.{ℕ, zero, suc, ◌+◌}
use mathlib.Core.Path.{◌≡◌, refl, ap, sym, ◌∙◌, subst}
use mathlib.Core.Bool.{Bool, true, false}
use mathlib.Core.List.{List, [], ◌∷◌, ◌++◌}
use lib.Dec.{eqb}
use lib.ListN.{length, drop}
use Rattle.bits.specs.Byte.{pick}
use Rattle.chip.specs.declared.Chip.{Chip}
use Rattle.isolation_laws.specs.Foreign.{observer_of, none, compared_state}
use Rattle.cpu_instruction.specs.Program.{Access}
use Rattle.cpu_operations.specs.declared.Cpu.{Cpu}
use Rattle.firmware_machine.specs.Machine.{Machine, turn}
use Rattle.firmware_machine.specs.Run.{runs, Ended, prepended, after_events, answers_before, left}
use Rattle.firmware_laws.proofs.Parts.{run_on}
use Rattle.firmware_isolation_laws.specs.Trace.{Entry, entries, turn_accesses, events_before, trace, accesses_of}
use Rattle.firmware_isolation_laws.specs.Words.{is_foreign_list, lists_no_data}
use Rattle.firmware_isolation_laws.proofs.Parts.{trace_on}
use Rattle.recall_laws.specs.Wait.{Waits, is_uninterrupted, holds_at}
use Rattle.recall_laws.proofs.Stored.{Boots, Stored, begins_at, uninterrupted_append, agrees, run_parts, stays, answers, none_left}

-- the turn of an instruction from a machine of which W holds: not refused, with no interrupt, to another one
pub record TurnStays (W : Machine → Type 0) (rom : List ℕ) (m : Machine) : Type 0 where
  pub number : (turn rom m).number ≡ 0
  pub accesses : is_uninterrupted (turn_accesses rom m) ≡ true
  pub machine : W (turn rom m).machine

-- n instructions with no event
pub record RunStays (W : Machine → Type 0) (n i : ℕ) (rom : List ℕ) (m : Machine) : Type 0 where
  pub number : (runs n i rom [] m).number ≡ 0
  pub answers : (runs n i rom [] m).answers ≡ []
  pub machine : W (runs n i rom [] m).machine
  pub accesses : is_uninterrupted (accesses_of (trace n i rom [] m)) ≡ true

entries_accesses : (a : List Access) → accesses_of (entries a) ≡ a
entries_accesses [] = refl
entries_accesses (x ∷ a) = ap (◌∷◌ x) (entries_accesses a)

module _ (W : Machine → Type 0) (rom : List ℕ) (turns : (m : Machine) → W m → TurnStays W rom m) where
  pub run_stays : (n i : ℕ) (m : Machine) → W m → RunStays W n i rom m
  unfolding runs trace after_events answers_before left events_before
  run_stays zero i m w = record { number = refl; answers = refl; machine = w; accesses = refl }
  run_stays (suc n) i m w =
      let t = turns m w in
      let z = run_stays n (i + 1) (turn rom m).machine t.machine in
      let a = turn_accesses rom m in
      record {
        number = rw t.number z.number;
        answers = rw t.number z.answers;
        machine = rw t.number z.machine;
        accesses = rw t.number (uninterrupted_append (entries a) (trace n (i + 1) rom [] (turn rom m).machine) (ap is_uninterrupted (entries_accesses a) ∙ t.accesses) z.accesses);
      }

-- ---- every foreign list, and k instructions more

module _ (test : Cpu → List ℕ → List ℕ → Bool) (rom es : List ℕ) (start : Machine) (l n : ℕ) (boots : Boots l rom start) (begins : begins_at l es ≡ true)
    (stored : Stored test n l rom es (runs l 0 rom [] start).machine) (W : Machine → Type 0) (turns : (m : Machine) → W m → TurnStays W rom m) (waits : (m : Machine) → W m → holds_at test m ≡ true)
    (reached : (m : Machine) → (runs n l rom es (runs l 0 rom [] start).machine).machine.cpu ≡ m.cpu → (runs n l rom es (runs l 0 rom [] start).machine).machine.ram ≡ m.ram
    → compared_state (runs n l rom es (runs l 0 rom [] start).machine).machine.chip ≡ compared_state m.chip → W m) where
  module _ (fs : List ℕ) (h : is_foreign_list es (observer_of (runs l 0 rom [] start).machine.chip none) fs ≡ true) (k : ℕ) where
    ended_waiting : W (runs (l + n) 0 rom fs start).machine
    ended_waiting =
        let z = agrees test rom es start l n boots begins stored fs h in
        subst (λ (e : Ended). W e.machine) (sym (run_parts test rom es start l n boots begins stored fs h)) (reached _ z.cpu z.ram z.chip)

    unrefused : eqb (runs (l + n) 0 rom fs start).number 0 ≡ true
    unrefused = ap (λ (x : ℕ). eqb x 0) (stays test rom es start l n boots begins stored fs h).unrefused

    more : RunStays W k (0 + (l + n)) rom (runs (l + n) 0 rom fs start).machine
    more = run_stays W rom turns k (0 + (l + n)) (runs (l + n) 0 rom fs start).machine ended_waiting

    goes_on : runs (l + n + k) 0 rom fs start ≡ prepended (runs (l + n) 0 rom fs start).answers (runs k (0 + (l + n)) rom [] (runs (l + n) 0 rom fs start).machine)
    goes_on =
        let e = runs (l + n) 0 rom fs start in
        run_on (l + n) k 0 rom fs start unrefused
        ∙ ap (λ (x : List ℕ). prepended e.answers (runs k (0 + (l + n)) rom x e.machine)) (none_left test rom es start l n boots begins stored fs h)

    happens_on : trace (l + n + k) 0 rom fs start ≡ trace (l + n) 0 rom fs start ++ trace k (0 + (l + n)) rom [] (runs (l + n) 0 rom fs start).machine
    happens_on =
        let e = runs (l + n) 0 rom fs start in
        trace_on (l + n) k 0 rom fs start unrefused
        ∙ ap (λ (x : List ℕ). trace (l + n) 0 rom fs start ++ trace k (0 + (l + n)) rom x e.machine) (none_left test rom es start l n boots begins stored fs h)

    pub stays_on : Waits test (runs (l + n + k) 0 rom fs start) (trace (l + n + k) 0 rom fs start)
    stays_on =
        let m = (runs (l + n) 0 rom fs start).machine in
        rw (goes_on, happens_on)
        (record {
          unrefused = more.number;
          uninterrupted = uninterrupted_append (trace (l + n) 0 rom fs start) (trace k (0 + (l + n)) rom [] m) (stays test rom es start l n boots begins stored fs h).uninterrupted more.accesses;
          waiting = waits (runs k (0 + (l + n)) rom [] m).machine more.machine;
        })

    append_none : (s : List ℕ) → s ++ [] ≡ s
    append_none [] = refl
    append_none (x ∷ s) = ap (◌∷◌ x) (append_none s)

    pub answers_on : lists_no_data es ≡ true → (runs (l + n + k) 0 rom fs start).answers ≡ (runs n l rom es (runs l 0 rom [] start).machine).answers
    answers_on g =
        ap (λ (e : Ended). e.answers) goes_on ∙ ap (◌++◌ (runs (l + n) 0 rom fs start).answers) more.answers ∙ append_none (runs (l + n) 0 rom fs start).answers
        ∙ answers test rom es start l n boots begins stored fs h g
