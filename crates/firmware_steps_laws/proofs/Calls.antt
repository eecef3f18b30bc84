-- Firmware calls with an empty list and the events between them make the run; none of the calls is refused before it runs.
-- Assumes nothing.
use Prim.Native.Nat.{ℕ, zero, suc, ◌+◌, ◌-◌, ◌≤◌}
use mathlib.Core.Path.{◌≡◌, refl, ap, sym, ◌∙◌}
use mathlib.Core.Bool.{Bool, true, false}
use mathlib.Core.List.{List, [], ◌∷◌, ◌++◌, append-nil}
use native.Mathlib.Omega.{arith}
use lib.Dec.{eqb, ltb}
use lib.ListN.{length, drop, replicate}
use Rattle.bits.specs.Byte.{pick}
use Rattle.bits.proofs.Finite.{both as both_true}
use Rattle.events.specs.Word.{decode}
use Rattle.chip.specs.declared.Chip.{Chip}
use Rattle.chip.specs.State.{fresh}
use Rattle.chip_well_formed.specs.WellFormed.{well_formed}
use Rattle.chip_laws.proofs.WellFormed.{next_well_formed, fresh_well_formed}
use Rattle.chip_events.specs.Outcome.{was_reset}
use Rattle.step.specs.Step.{answered}
use Rattle.cpu_operations.specs.declared.Cpu.{Cpu}
use Rattle.cpu_instruction.specs.Instruction.{reset_cpu}
use Rattle.firmware_machine.specs.Machine.{Machine, machine, Turned, turn}
use Rattle.firmware_machine.specs.Run.{number_of, word_of, occurred, after_events, answers_before, left, Ended, ended, prepended, runs, called, is_well_formed}
use Rattle.firmware_laws.proofs.Clocks.{run_well_formed}
use Rattle.firmware_laws.proofs.Calls.{is_run}
use Rattle.firmware_steps.specs.Steps.{power_up}
use Rattle.firmware_steps_laws.specs.Steps.{up_to, least, on_event, in_steps}
use Rattle.firmware_steps_laws.specs.Calls.{ended_by, call_to, in_calls}
use Rattle.firmware_steps_laws.proofs.Steps.{steps_run}

-- ---- a call is the run up to a number

abbrev moved : ℕ → Ended → Ended
moved i e = ended e.machine e.number (i + e.next) e.answers

on_moved : (t : Turned) (i d : ℕ) (x y : Ended) (b : Bool) → x ≡ moved i y
    → prepended [] (pick b x (ended t.machine t.number (i + d) [])) ≡ moved i (prepended [] (pick b y (ended t.machine t.number d [])))
on_moved t i d x y true h = h
on_moved t i d x y false h = refl

runs_moved : (k i d : ℕ) (rom : List ℕ) (m : Machine) → runs k (i + d) rom [] m ≡ moved i (runs k d rom [] m)
unfolding runs after_events answers_before left
runs_moved zero i d rom m = refl
runs_moved (suc k) i d rom m =
    let q : i + d + 1 ≡ i + (d + 1) = omega arith in
    let t = turn rom m in
    on_moved t i d (runs k (i + d + 1) rom [] t.machine) (runs k (d + 1) rom [] t.machine) (eqb t.number 0)
    (ap (λ (a : ℕ). runs k a rom [] t.machine) q ∙ runs_moved k i (d + 1) rom t.machine)

drop_none : (n : ℕ) → drop {A = ℕ} n [] ≡ []
drop_none zero = refl
drop_none (suc n) = refl

kept_none : (l : List ℕ) → l ++ drop (length l) [] ≡ l
kept_none l = ap (◌++◌ l) (drop_none (length l)) ∙ append-nil l

pub call_to_lem : (t i : ℕ) (rom : List ℕ) (m : Machine) → is_well_formed m.cpu m.chip ≡ true → eqb (length rom) 24576 ≡ true → call_to t i rom m ≡ up_to t i rom m
call_to_lem t i rom m h g =
    let x = runs (t - i) 0 rom [] m in
    let z : i + 0 ≡ i = omega arith in
    ap (ended_by i) (is_run m.cpu m.ram rom m.chip [] [] (t - i) h g refl)
    ∙ ap (ended x.machine x.number (i + x.next)) (kept_none x.answers)
    ∙ sym (runs_moved (t - i) i 0 rom m)
    ∙ ap (λ (a : ℕ). runs (t - i) a rom [] m) z

-- ---- an event keeps CPU and chip well formed

over_by : (rom : List ℕ) (c : Cpu) (b : Bool) → (pick b (reset_cpu rom c) c).over ≡ c.over
unfolding reset_cpu
over_by rom c true = refl
over_by rom c false = refl

pub occurred_well_formed : (rom : List ℕ) (m : Machine) (w : ℕ) → is_well_formed m.cpu m.chip ≡ true → is_well_formed (occurred rom m w).cpu (occurred rom m w).chip ≡ true
unfolding occurred
occurred_well_formed rom m w h =
    let b = both_true (ltb m.cpu.over 32) (well_formed m.chip) h in
    rw (over_by rom m.cpu (was_reset m.chip (decode w)), b.0, next_well_formed m.chip (decode w) b.1)

-- ---- the run

calls_steps : (n i : ℕ) (rom es : List ℕ) (m : Machine) → is_well_formed m.cpu m.chip ≡ true → eqb (length rom) 24576 ≡ true → in_calls n i rom es m ≡ in_steps n i rom es m
unfolding in_calls in_steps
calls_steps n i rom [] m h g = call_to_lem n i rom m h g
calls_steps n i rom (e ∷ es) m h g =
    let t = least n (number_of e) in
    let r = up_to t i rom m in
    let x = occurred rom r.machine (word_of e) in
    ap
    (λ (a : Ended). on_event a n (λ (r : Ended). prepended (answered r.machine.chip (decode (word_of e)) ∷ []) (in_calls n r.next rom es (occurred rom r.machine (word_of e)))))
    (call_to_lem t i rom m h g)
    ∙ ap (λ (a : Ended). pick (eqb r.number 0) (pick (ltb r.next n) (prepended (answered r.machine.chip (decode (word_of e)) ∷ []) a) r) r)
    (calls_steps n r.next rom es x (occurred_well_formed rom r.machine (word_of e) (run_well_formed (t - i) i rom [] m h)) g)

-- calls with an empty list up to each event, and the event: the run
pub calls_run : (n i : ℕ) (rom es : List ℕ) (m : Machine) → is_well_formed m.cpu m.chip ≡ true → eqb (length rom) 24576 ≡ true → i ≤ n → in_calls n i rom es m ≡ runs (n - i) i rom es m
calls_run n i rom es m h g l = calls_steps n i rom es m h g ∙ steps_run n i rom es m l

-- from power up
power_up_well_formed : (rom : List ℕ) → is_well_formed (power_up rom) fresh ≡ true
unfolding power_up reset_cpu
power_up_well_formed rom = rw (fresh_well_formed)

pub program_run : (n : ℕ) (rom es : List ℕ) → eqb (length rom) 24576 ≡ true
    → in_calls n 0 rom es (machine (power_up rom) (replicate 256 0) fresh) ≡ runs n 0 rom es (machine (power_up rom) (replicate 256 0) fresh)
program_run n rom es g =
    let m = machine (power_up rom) (replicate 256 0) fresh in
    let p : n - 0 ≡ n = omega arith in
    calls_run n 0 rom es m (power_up_well_formed rom) g (omega arith) ∙ ap (λ (a : ℕ). runs a 0 rom es m) p
