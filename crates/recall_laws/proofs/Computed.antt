-- What happens in a run and how it ends, as they are computed: each machine once, and each run once for all that is asked of it.
use Prim.Native.Nat.{ℕ, zero, suc, ◌+◌}
use mathlib.Core.Path.{◌≡◌, refl, ap, sym, ◌∙◌}
use mathlib.Core.Bool.{Bool, true, false}
use mathlib.Core.List.{List, [], ◌∷◌, ◌++◌}
use lib.Dec.{eqb}
use Rattle.bits.specs.Byte.{pick}
use Rattle.bus.specs.declared.Mode.TheVariants.{Ddc2b}
use Rattle.chip.specs.State.{mode_of}
use Rattle.chip_well_formed.specs.WellFormed.{well_formed}
use Rattle.isolation_laws.specs.Foreign.{Observer, observer_of, none, Begun}
use Rattle.cpu_operations.specs.declared.Cpu.{Cpu}
use Rattle.firmware_machine.specs.Machine.{Machine, Turned, turn}
use Rattle.firmware_machine.specs.Run.{runs, after_events, left}
use Rattle.firmware_isolation_laws.specs.Trace.{Entry, entries, turn_accesses, events_before, trace, events_of, accesses_of}
use Rattle.firmware_isolation_laws.specs.Words.{is_unaddressed, keeps_address}
use Rattle.recall_laws.specs.Wait.{is_uninterrupted, holds_at}
use Rattle.recall_laws.proofs.Stored.{Stored}

abbrev from_machine : Machine → (Machine → List Entry) → List Entry
from_machine m f = f m

abbrev from_turned : Turned → (Turned → List Entry) → List Entry
from_turned t f = f t

-- the definition `trace` names the machine after the events, and the turn, several times; here each is handed on
unfoldable pub traced : ℕ → ℕ → List ℕ → List ℕ → Machine → List Entry
traced zero i rom es m = []
traced (suc n) i rom es m =
    events_before rom i es m
    ++ from_machine (after_events rom i es m)
    (λ (a : Machine). entries (turn_accesses rom a) ++ from_turned (turn rom a) (λ (t : Turned). pick (eqb t.number 0) (traced n (i + 1) rom (left i es) t.machine) []))

traced_trace : (n i : ℕ) (rom es : List ℕ) (m : Machine) → traced n i rom es m ≡ trace n i rom es m
unfolding traced trace
traced_trace zero i rom es m = refl
traced_trace (suc n) i rom es m =
    let a = after_events rom i es m in
    let t = turn rom a in
    ap (λ (x : List Entry). events_before rom i es m ++ (entries (turn_accesses rom a) ++ pick (eqb t.number 0) x [])) (traced_trace n (i + 1) rom (left i es) t.machine)

-- what is asked of all that happens in a stored run
abbrev pub happens : Observer → List Entry → Bool × List ℕ × Bool × Bool
happens o s = (is_unaddressed o s, events_of s, keeps_address s, is_uninterrupted (accesses_of s))

-- a stored run by what is computed of it
pub stored_by_lem : {test : Cpu → List ℕ → List ℕ → Bool} (n l : ℕ) (rom es : List ℕ) (m : Machine)
    → (well_formed m.chip ≡ true) × (mode_of m.chip.core ≡ Ddc2b) × Begun m.chip.core.bus.phase none
    → happens (observer_of m.chip none) (traced n l rom es m) ≡ (true, es, true, true) → (runs n l rom es m).number ≡ 0 → holds_at test (runs n l rom es m).machine ≡ true
    → Stored test n l rom es m
stored_by_lem n l rom es m ready h number waiting =
    let s : happens (observer_of m.chip none) (trace n l rom es m) ≡ (true, es, true, true) = ap (happens (observer_of m.chip none)) (sym (traced_trace n l rom es m)) ∙ h in
    record {
      well = ready.0;
      ddc2b = ready.1;
      idle = ready.2;
      unaddressed = ap (λ (x : Bool × List ℕ × Bool × Bool). x.0) s;
      given_all = ap (λ (x : Bool × List ℕ × Bool × Bool). x.1) s;
      keeps_address_lem = ap (λ (x : Bool × List ℕ × Bool × Bool). x.2) s;
      waits = record { unrefused = number; uninterrupted = ap (λ (x : Bool × List ℕ × Bool × Bool). x.3) s; waiting = waiting };
    }
