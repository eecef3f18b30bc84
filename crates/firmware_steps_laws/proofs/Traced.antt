-- What a trace does, one instruction at a time, is the run; the interrupt that it shows before an instruction is the one that comes with it.
-- Assumes nothing.
use Prim.Native.Nat.{ℕ, zero, suc, ◌+◌}
use mathlib.Core.Path.{◌≡◌, refl, ap}
use mathlib.Core.Bool.{Bool, true, false}
use mathlib.Core.List.{List, []}
use lib.Dec.{eqb}
use Rattle.bits.specs.Byte.{pick}
use Rattle.firmware_machine.specs.Machine.{Machine, Turned, turn}
use Rattle.firmware_machine.specs.Run.{after_events, answers_before, left, Ended, ended, prepended, on_turned, runs}
use Rattle.firmware_steps.specs.Steps.{before_instruction}
use Rattle.firmware_steps.proofs.Before.{turn_before}
use Rattle.firmware_steps_laws.specs.Steps.{traced}

-- one instruction from behind the interrupt is one with it
pub one_before : (i : ℕ) (rom : List ℕ) (m : Machine) → runs 1 i rom [] (before_instruction rom m) ≡ runs 1 i rom [] m
unfolding runs after_events answers_before left
one_before i rom m = ap (λ (t : Turned). prepended [] (on_turned t i (λ (x : Machine). ended x 0 (i + 1) []))) (turn_before rom m)

on_one : (t : Turned) (i : ℕ) (f : Machine → Ended) (y : Ended) (b : Bool) → eqb t.number 0 ≡ b → f t.machine ≡ y
    → pick (eqb (pick b (ended t.machine 0 (i + 1) []) (ended t.machine t.number i [])).number 0)
    (f (pick b (ended t.machine 0 (i + 1) []) (ended t.machine t.number i [])).machine)
    (prepended [] (pick b (ended t.machine 0 (i + 1) []) (ended t.machine t.number i [])))
    ≡ prepended [] (pick b y (ended t.machine t.number i []))
on_one t i f y true h g = g
on_one t i f y false h g = rw h

pub traced_run : (n i : ℕ) (rom : List ℕ) (m : Machine) → traced n i rom m ≡ runs n i rom [] m
unfolding traced runs after_events answers_before left
traced_run zero i rom m = refl
traced_run (suc n) i rom m =
    let t = turn rom m in
    on_one t i (traced n (i + 1) rom) (runs n (i + 1) rom [] t.machine) (eqb t.number 0) refl (traced_run n (i + 1) rom t.machine)
