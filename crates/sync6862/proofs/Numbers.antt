-- Each number is given exactly when its rule says, and a refused call moves nothing.
-- Assumes nothing.
use Prim.Native.Nat.{ℕ}
use mathlib.Core.Path.{◌≡◌, refl, ap, ◌∙◌}
use mathlib.Core.Bool.{Bool, true, false}
use lib.Dec.{eqb}
use Rattle.bits.specs.Byte.{pick}
use Rattle.sync6862.specs.declared.Part.{Part}
use Rattle.sync6862.specs.declared.Part.TheVariants.{Nt6861, Nt6862}
use Rattle.sync6862.specs.declared.Counters.{Counters}
use Rattle.sync6862.specs.declared.Call.{Call}
use Rattle.sync6862.specs.declared.Call.TheVariants.{Hsynci, Vsynci, Clock, Enhsel, Hsel, ClearH, ClearV}
use Rattle.sync6862.specs.declared.Refusal.{Refusal}
use Rattle.std.proofs.Common.{Result, Ok, Err}
use Rattle.sync6862.specs.declared.LatchReport.{LatchReport}
use Rattle.sync6862.specs.declared.Refusal.TheVariants.{IllFormed, NoSuchChip}
use Rattle.sync6862.specs.Unit.{well_formed, on_enhsel, answered, answer, fresh, fresh_number, latches, latches_number, has_enhsel, lacks_enhsel, number_of, left, given_number, refusal_number}

-- ---- calls

on_enhsel_number : (part : Part) (s : Counters) (new : Bool) → (given_number (on_enhsel part s new)) ≡ pick (lacks_enhsel part (Enhsel new)) 2 0
unfolding on_enhsel lacks_enhsel has_enhsel refusal_number
on_enhsel_number Nt6861 s new = refl
on_enhsel_number (Nt6862 old) s new = refl

answered_number : (s : Counters) (call : Call) → (given_number (answered s call)) ≡ pick (lacks_enhsel s.part call) 2 0
unfolding answered lacks_enhsel
answered_number s (Hsynci level) = refl
answered_number s (Vsynci level) = refl
answered_number s Clock = refl
answered_number s (Enhsel new) = on_enhsel_number s.part s new
answered_number s (Hsel new) = refl
answered_number s ClearH = refl
answered_number s ClearV = refl

number_by : (s : Counters) (call : Call) (formed : Bool) → given_number (pick formed (answered s call) (Err IllFormed)) ≡ pick formed (pick (lacks_enhsel s.part call) 2 0) 8
unfolding refusal_number
number_by s call true = answered_number s call
number_by s call false = refl

-- the number of a call
pub number_exact : (s : Counters) (call : Call) → (given_number (answer s call)) ≡ number_of s call
unfolding answer number_of
number_exact s call = number_by s call (well_formed s)

-- ---- refusals move nothing

enhsel_unmoved : (part : Part) (s : Counters) (new : Bool) → ((given_number (on_enhsel part s new)) ≡ 0 → ⊥) → left s (on_enhsel part s new) ≡ s
unfolding on_enhsel
enhsel_unmoved Nt6861 s new h = refl
enhsel_unmoved (Nt6862 old) s new h = absurd (h refl)

answered_unmoved : (s : Counters) (call : Call) → ((given_number (answered s call)) ≡ 0 → ⊥) → left s (answered s call) ≡ s
unfolding answered
answered_unmoved s (Hsynci level) h = absurd (h refl)
answered_unmoved s (Vsynci level) h = absurd (h refl)
answered_unmoved s Clock h = absurd (h refl)
answered_unmoved s (Enhsel new) h = enhsel_unmoved s.part s new h
answered_unmoved s (Hsel new) h = absurd (h refl)
answered_unmoved s ClearH h = absurd (h refl)
answered_unmoved s ClearV h = absurd (h refl)

unmoved_by : (s : Counters) (call : Call) (formed : Bool) (o : Result Counters Refusal) → o ≡ pick formed (answered s call) (Err IllFormed) → (given_number o ≡ 0 → ⊥) → left s o ≡ s
unmoved_by s call true o e h = ap (λ (x : Result Counters Refusal). (left s x)) e ∙ answered_unmoved s call (λ z. h (ap (λ (x : Result Counters Refusal). given_number x) e ∙ z))
unmoved_by s call false o e h = ap (λ (x : Result Counters Refusal). (left s x)) e

-- a call answered by another number than 0 leaves the state
pub refused_unmoved : (s : Counters) (call : Call) → ((given_number (answer s call)) ≡ 0 → ⊥) → left s (answer s call) ≡ s
unfolding answer
refused_unmoved s call h = unmoved_by s call (well_formed s) _ refl h

-- ---- a fresh state, and the latches

fresh_by : (first second : Bool) (x y : Counters) → fresh_number (pick first (Ok x) (pick second (Ok y) (Err NoSuchChip))) ≡ pick first 0 (pick second 0 23)
unfolding refusal_number
fresh_by true second x y = refl
fresh_by false true x y = refl
fresh_by false false x y = refl

-- 23 for every number but 6861 and 6862
pub fresh_exact : (number : ℕ) → fresh_number (fresh number) ≡ pick (eqb number 6861) 0 (pick (eqb number 6862) 0 23)
unfolding fresh
fresh_exact number = fresh_by (eqb number 6861) (eqb number 6862) _ _

latches_by : (formed : Bool) (x : Result LatchReport Refusal) → latches_number x ≡ 0 → latches_number (pick formed x (Err IllFormed)) ≡ pick formed 0 8
unfolding refusal_number
latches_by true x h = h
latches_by false x h = refl

-- 8 for an ill formed state
pub latches_exact : (s : Counters) → latches_number (latches s) ≡ pick (well_formed s) 0 8
unfolding latches
latches_exact s = latches_by (well_formed s) _ refl
