-- A state stays with its chip, whatever is called, refused calls included.
-- Assumes nothing.
use mathlib.Core.Path.{◌≡◌, refl, ◌∙◌}
use mathlib.Core.Bool.{Bool}
use mathlib.Core.List.{List, [], ◌∷◌}
use native.Mathlib.Omega.{arith}
use Rattle.bits.proofs.Level.{pick_by}
use Rattle.sync6862.specs.declared.Part.{Part}
use Rattle.sync6862.specs.declared.Part.TheVariants.{Nt6861, Nt6862}
use Rattle.sync6862.specs.declared.Counters.{Counters}
use Rattle.sync6862.specs.declared.Refusal.{Refusal}
use Rattle.std.proofs.Common.{Result}
use Rattle.sync6862.specs.declared.Call.{Call}
use Rattle.sync6862.specs.declared.Call.TheVariants.{Hsynci, Vsynci, Clock, Enhsel, Hsel, ClearH, ClearV}
use Rattle.sync6862.specs.Unit.{chip_number, periods_last, well_formed, hsync_moved, vsync_moved, clocked, hsel_set, enhsel_set, cleared_h, cleared_v, on_enhsel, answered, answer, left}
use Rattle.sync6862_laws.specs.Counting.{run}

enhsel_chip : (part : Part) (s : Counters) (new : Bool) → s.part ≡ part → chip_number (left s (on_enhsel part s new)).part ≡ chip_number part
unfolding on_enhsel enhsel_set chip_number
enhsel_chip Nt6861 s new e = rw e
enhsel_chip (Nt6862 old) s new e = refl

answered_chip : (s : Counters) (call : Call) → chip_number (left s (answered s call)).part ≡ chip_number s.part
unfolding answered hsync_moved vsync_moved clocked hsel_set cleared_h cleared_v
answered_chip s (Hsynci level) = refl
answered_chip s (Vsynci level) = refl
answered_chip s Clock = refl
answered_chip s (Enhsel new) = enhsel_chip s.part s new refl
answered_chip s (Hsel new) = refl
answered_chip s ClearH = refl
answered_chip s ClearV = refl

pub chip_kept : (s : Counters) (call : Call) → chip_number (left s (answer s call)).part ≡ chip_number s.part
unfolding answer
chip_kept s call = pick_by (λ (o : Result Counters Refusal). chip_number (left s o).part ≡ chip_number s.part) (well_formed s) (λ _. answered_chip s call) (λ _. refl)

-- over a list of calls
pub chip_stays : (s : Counters) (calls : List Call) → chip_number (run s calls).part ≡ chip_number s.part
unfolding run
chip_stays s [] = refl
chip_stays s (call ∷ calls) = chip_stays (left s (answer s call)) calls ∙ chip_kept s call

-- so that VCNT keeps its last value
same_last : (p q : Part) → chip_number p ≡ chip_number q → periods_last p ≡ periods_last q
unfolding chip_number periods_last
same_last Nt6861 Nt6861 h = refl
same_last Nt6861 (Nt6862 enhsel) h = absurd (omega arith)
same_last (Nt6862 enhsel) Nt6861 h = absurd (omega arith)
same_last (Nt6862 enhsel) (Nt6862 other) h = refl

pub last_kept : (s : Counters) (call : Call) → periods_last (left s (answer s call)).part ≡ periods_last s.part
last_kept s call = same_last (left s (answer s call)).part s.part (chip_kept s call)
