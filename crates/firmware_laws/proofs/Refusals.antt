-- Refusals of a run and of the firmware call: 20, 21, 5 and 6 exactly when, and what they leave.
use Prim.Native.Nat.{ℕ, zero, suc, ◌+◌, ◌-◌, ◌<◌}
use mathlib.Core.Path.{◌≡◌, refl, ap, ap₂, sym, subst, ◌∙◌}
use mathlib.Core.Bool.{Bool, true, false, true≢false}
use mathlib.Core.List.{List, [], ◌++◌, append-nil}
use native.Mathlib.Omega.{arith}
use lib.Dec.{eqb}
use borrow.Author.Tests.{eqb-true}
use Rattle.bits.specs.Byte.{pick}
use Rattle.chip.specs.declared.Chip.{Chip}
use Rattle.cpu_operations.specs.declared.Cpu.{Cpu}
use Rattle.firmware_machine.specs.Machine.{Machine, machine, turned, Turned, instruct, after_interrupt, turn}
use Rattle.firmware_machine.specs.Run.{after_events, answers_before, Ended, ended, prepended, runs, Called, called, firmware}
use Rattle.firmware_laws.specs.Numbers.{instruction_number}
use Rattle.firmware_laws.specs.Refusals.{turn_number, events_past, machine_past, refused_past}
use Rattle.firmware_laws.specs.Refused.{RefusedCall, RefusedNumber, write_only_lem, read_only, not_documented, not_mapped, RunNumber, none, refusal}
use Rattle.firmware_laws.specs.Refused.{RefusedCall, Refused}
use Rattle.firmware_laws.proofs.Numbers.{instruct_number, turn_refused}
use Rattle.firmware_laws.proofs.Parts.{run_on}
use Rattle.firmware_laws.proofs.Calls.{is_run, only_run}

-- ---- a turn

turn_by : (b : Bool) (rom : List ℕ) (m : Machine) → (pick b (instruct rom (after_interrupt rom m)) (turned m 0)).number ≡ pick b (instruction_number rom (after_interrupt rom m)) 0
turn_by true rom m = instruct_number rom (after_interrupt rom m)
turn_by false rom m = refl

pub turn_told : (rom : List ℕ) (m : Machine) → (turn rom m).number ≡ turn_number rom m
unfolding turn turn_number
turn_told rom m = turn_by m.chip.core.reset rom m

high_by : (b : Bool) (n : ℕ) → eqb (pick b n 0) 0 ≡ false → pick b n 0 ≡ n
high_by true n h = refl
high_by false n h = absurd (true≢false h)

-- where it is not 0, RESET is high
turn_high : (rom : List ℕ) (m : Machine) → eqb (turn_number rom m) 0 ≡ false → turn_number rom m ≡ instruction_number rom (after_interrupt rom m)
unfolding turn_number
turn_high rom m h = high_by m.chip.core.reset (instruction_number rom (after_interrupt rom m)) h

-- ---- a run

run_stops : (n i : ℕ) (rom es : List ℕ) (m : Machine) → eqb (turn rom (after_events rom i es m)).number 0 ≡ false
    → runs (suc n) i rom es m ≡ ended (turn rom (after_events rom i es m)).machine (turn rom (after_events rom i es m)).number i (answers_before rom i es m ++ [])
unfolding runs
run_stops n i rom es m h = rw h

run_stopped : (n i : ℕ) (rom es : List ℕ) (m : Machine) → eqb (turn_number rom (after_events rom i es m)) 0 ≡ false
    → runs (suc n) i rom es m ≡ ended (after_interrupt rom (after_events rom i es m)) (turn_number rom (after_events rom i es m)) i (answers_before rom i es m)
run_stopped n i rom es m h =
    let x = after_events rom i es m in
    let t : eqb (turn rom x).number 0 ≡ false = ap (λ (a : ℕ). eqb a 0) (turn_told rom x) ∙ h in
    run_stops n i rom es m t
    ∙ ap₂ (λ (y : Machine) (a : ℕ). ended y a i (answers_before rom i es m ++ [])) (turn_refused rom x t) (turn_told rom x)
    ∙ ap (ended (after_interrupt rom x) (turn_number rom x) i) (append-nil (answers_before rom i es m))

-- Wish 5, what a refusal leaves, and when there is one: where k instructions are not refused and the next has a number by its accesses, every
-- longer run ends at it, with that number, and CPU, RAM and chip are left as before it
pub run_refused_at : (k n i : ℕ) (rom es : List ℕ) (m : Machine) → k < n → eqb (runs k i rom es m).number 0 ≡ true → eqb (turn_number rom (machine_past k i rom es m)) 0 ≡ false
    → runs n i rom es m ≡ refused_past k i rom es m
unfolding refused_past
run_refused_at k n i rom es m l b h =
    let j = n - k - 1 in
    let e : n ≡ k + suc j = omega (arith, l) in
    let r = runs k i rom es m in
    ap (λ (a : ℕ). runs a i rom es m) e ∙ run_on k (suc j) i rom es m b ∙ ap (prepended r.answers) (run_stopped j (i + k) rom (events_past k i rom es m) r.machine h)

one_by : (t : Turned) (i : ℕ) (b : Bool) → eqb t.number 0 ≡ b → eqb (pick b (ended t.machine 0 (i + 1) []) (ended t.machine t.number i [])).number 0 ≡ false
    → eqb t.number 0 ≡ false
one_by t i true e h = absurd (true≢false h)
one_by t i false e h = e

one_fails : (i : ℕ) (rom es : List ℕ) (m : Machine) → eqb (runs 1 i rom es m).number 0 ≡ false → eqb (turn_number rom (after_events rom i es m)) 0 ≡ false
unfolding runs
one_fails i rom es m h =
    let x = after_events rom i es m in
    ap (λ (a : ℕ). eqb a 0) (sym (turn_told rom x)) ∙ one_by (turn rom x) i (eqb (turn rom x).number 0) refl h

refused_by_lem : (n i : ℕ) (rom es : List ℕ) (m : Machine) (b : Bool) → eqb (runs n i rom es m).number 0 ≡ b → (eqb (runs n i rom es m).number 0 ≡ false → Refused n i rom es m)
    → eqb (runs (suc n) i rom es m).number 0 ≡ false → Refused (suc n) i rom es m
refused_by_lem n i rom es m true e f h =
    let s : suc n ≡ n + 1 = omega arith in
    let l : n < suc n = omega arith in
    let o = ap (λ (y : Ended). eqb y.number 0) (ap (λ (a : ℕ). runs a i rom es m) s ∙ run_on n 1 i rom es m e) in
    let z = one_fails (i + n) rom (events_past n i rom es m) (runs n i rom es m).machine (sym o ∙ h) in
    record { k = n; inside = l; before = e; fails = z; is = run_refused_at n (suc n) i rom es m l e z }
refused_by_lem n i rom es m false e f h =
    let z = f e in
    let l : z.k < suc n = omega (arith, z.inside) in
    record { k = z.k; inside = l; before = z.before; fails = z.fails; is = run_refused_at z.k (suc n) i rom es m l z.before z.fails }

-- The converse: there is no other refused run
pub run_refused : (n i : ℕ) (rom es : List ℕ) (m : Machine) → eqb (runs n i rom es m).number 0 ≡ false → Refused n i rom es m
unfolding runs
run_refused zero i rom es m h = absurd (true≢false h)
run_refused (suc n) i rom es m h = refused_by_lem n i rom es m (eqb (runs n i rom es m).number 0) refl (run_refused n i rom es m) h

past_told : (k i : ℕ) (rom es : List ℕ) (m : Machine) → eqb (turn_number rom (machine_past k i rom es m)) 0 ≡ false
    → (refused_past k i rom es m).number ≡ instruction_number rom (refused_past k i rom es m).machine
unfolding refused_past
past_told k i rom es m h = turn_high rom (machine_past k i rom es m) h

-- Wish 5, the first failing access tells: the number of a refused run is that of the instruction at PC of the machine that it leaves
pub run_told : (n i : ℕ) (rom es : List ℕ) (m : Machine) → eqb (runs n i rom es m).number 0 ≡ false → (runs n i rom es m).number ≡ instruction_number rom (runs n i rom es m).machine
run_told n i rom es m h =
    let z = run_refused n i rom es m h in
    rw z.is (past_told z.k i rom es m z.fails)

-- ---- the firmware call

not_zero : {j : ℕ} → RefusedNumber j → eqb j 0 ≡ false
not_zero write_only_lem = refl
not_zero read_only = refl
not_zero not_documented = refl
not_zero not_mapped = refl

module _ (c : Cpu) (ram rom : List ℕ) (x : Chip) (es places : List ℕ) where
  as_run : (k : ℕ) → RunNumber (firmware c ram rom x es places k).number → (n : ℕ) → firmware c ram rom x es places n ≡ called (runs n 0 rom es (machine c ram x)) places
  as_run k h n =
      let o = only_run c ram rom x es places k h in
      is_run c ram rom x es places n o.0 o.1 o.2

  -- the same of the call: where it gives 0 for k instructions and the next has a number, it gives that number for every longer run
  pub call_refused_at : (k n : ℕ) → k < n → (firmware c ram rom x es places k).number ≡ 0 → eqb (turn_number rom (machine_past k 0 rom es (machine c ram x))) 0 ≡ false
      → firmware c ram rom x es places n ≡ called (refused_past k 0 rom es (machine c ram x)) places
  call_refused_at k n l z h =
      let r = as_run k (subst RunNumber (sym z) none) in
      let b = ap (λ (y : Called). eqb y.number 0) (sym (r k)) ∙ ap (λ (a : ℕ). eqb a 0) z in
      r n ∙ ap (λ (e : Ended). called e places) (run_refused_at k n 0 rom es (machine c ram x) l b h)

  refused_run : (n : ℕ) → RefusedNumber (firmware c ram rom x es places n).number → eqb (runs n 0 rom es (machine c ram x)).number 0 ≡ false
  refused_run n h = ap (λ (y : Called). eqb y.number 0) (sym (as_run n (refusal h) n)) ∙ not_zero h

  -- it gives 20, 21, 5 and 6 in no other case
  pub call_refused : (n : ℕ) → RefusedNumber (firmware c ram rom x es places n).number → RefusedCall c ram rom x es places n
  call_refused n h =
      let z = run_refused n 0 rom es (machine c ram x) (refused_run n h) in
      let r = as_run n (refusal h) in
      record {
        k = z.k;
        inside = z.inside;
        before = ap (λ (y : Called). y.number) (r z.k) ∙ eqb-true _ 0 z.before;
        fails = z.fails;
        is = r n ∙ ap (λ (e : Ended). called e places) z.is;
      }

  -- and the number is that of the instruction at PC of the CPU, with RAM and chip, as the call leaves them
  pub call_told : (n : ℕ) → RefusedNumber (firmware c ram rom x es places n).number → (firmware c ram rom x es places n).number
      ≡ instruction_number rom (machine (firmware c ram rom x es places n).cpu (firmware c ram rom x es places n).ram (firmware c ram rom x es places n).chip)
  call_told n h = rw (as_run n (refusal h) n) (run_told n 0 rom es (machine c ram x) (refused_run n h))
