-- Two whole lists: runs through transfers to other devices agree (document 01, "How tight each statement is").
use Prim.Native.Nat.{ℕ, ◌^◌}
use mathlib.Core.Path.{◌≡◌, refl, ap, ap₂, sym, ◌∙◌}
use mathlib.Core.List.{List, [], ◌∷◌}
use mathlib.Core.Bool.{Bool, true, false, ◌&&◌, ◌||◌, true≢false}
use native.Mathlib.Omega.{arith}
use lib.ListN.{length}
use lib.Dec.{eqb}
use borrow.Author.Tests.{lt-ltb, ltb-true, eqb-true}
use Rattle.bits.proofs.Finite.{both}
use Rattle.events.specs.Decoded.{Decoded}
use Rattle.events.specs.Word.{decode}
use Rattle.bus.specs.declared.Phase.{Phase}
use Rattle.chip.specs.declared.Chip.{Chip}
use Rattle.chip_well_formed.specs.WellFormed.{gathered_fits, phase_fits, bus_fits, reserved_apart, well_formed}
use Rattle.step.specs.Step.{answered, advance, step}
use Rattle.chip_events.specs.Outcome.{next}
use Rattle.list_call.specs.Run.{after, answers, advanced, advanced_answers}
use Rattle.isolation_laws.specs.Foreign.{Trace, byte_of, Observer, observe, permitted, touches_sda, same_but_sda, alike, equal_at_high, compared_answer, compared_answers, compared_phase, compared_state, SeveralTransfers, Agree}
use Rattle.isolation_laws.proofs.Bits.{byte_lt}
use Rattle.isolation_laws.specs.Related.{Apart, idle, ignoring, address, related, RelatedChips, chips}
use Rattle.isolation_laws.specs.Related.{Paired}
use Rattle.isolation_laws.proofs.Events.{paired, Touches, touches, touches_of, event_related, event_answers}

phases_agree : {q q' : Phase} {t t' : Trace} → Apart q q' t t' → compared_phase q ≡ compared_phase q'
phases_agree idle = refl
phases_agree (ignoring ls ls') = refl
phases_agree (address ls ls' e h) = refl

pub related_agree : {c d : Chip} {o o' : Observer} → RelatedChips c d o o' → compared_state c ≡ compared_state d
related_agree (chips rs (related g z s x x' y y' k o)) = rw (phases_agree k)

-- ---- one pair of words, and the premises of those after them

pub record Carried (c d : Chip) (o o' : Observer) (w v : ℕ) (ws vs : List ℕ) : Type 0 where
  pub still : RelatedChips (next c (decode w)) (next d (decode v)) (observe o (decode w)) (observe o' (decode v))
  pub answer : compared_answer (decode w) (answered c (decode w)) ≡ compared_answer (decode v) (answered d (decode v))
  pub rest : SeveralTransfers (observe o (decode w)) (observe o' (decode v)) ws vs

pub carried : {c d : Chip} {o o' : Observer} → RelatedChips c d o o' → (w v : ℕ) (ws vs : List ℕ) → SeveralTransfers o o' (w ∷ ws) (v ∷ vs) → Carried c d o o' w v ws vs
carried {o = o} {o' = o'} r w v ws vs p =
    let pair : Paired o o' (decode w) (decode v) = paired o o' w v (both (same_but_sda w v) _ p.words).0 (both (equal_at_high o o' w v) _ p.sda).0 in
    let left : permitted o (decode w) ≡ true = (both (permitted o (decode w)) _ p.left).0 in
    let right : permitted o' (decode v) ≡ true = (both (permitted o' (decode v)) _ p.right).0 in
    record {
      still = event_related r pair left right;
      answer = event_answers r pair left right;
      rest = record {
        words = (both (same_but_sda w v) _ p.words).1;
        left = (both (permitted o (decode w)) _ p.left).1;
        right = (both (permitted o' (decode v)) _ p.right).1;
        sda = (both (equal_at_high o o' w v) _ p.sda).1;
      };
    }

-- ---- runs without the test of the state

pub advanced_agree : {c d : Chip} {o o' : Observer} → RelatedChips c d o o' → (ws vs : List ℕ) → SeveralTransfers o o' ws vs
    → Agree ws vs (advanced_answers c ws) (advanced_answers d vs) (advanced c ws) (advanced d vs)
unfolding advance
advanced_agree r [] [] p = record { answers_agree = refl; states_agree = related_agree r }
advanced_agree r [] (v ∷ vs) p = absurd (true≢false (sym p.words))
advanced_agree r (w ∷ ws) [] p = absurd (true≢false (sym p.words))
advanced_agree {c} {d} {o} {o'} r (w ∷ ws) (v ∷ vs) p =
    let one = carried r w v ws vs p in
    let rest = advanced_agree {c = next c (decode w)} {d = next d (decode v)} {o = observe o (decode w)} {o' = observe o' (decode v)} one.still ws vs one.rest in
    record { answers_agree = ap₂ ◌∷◌ one.answer rest.answers_agree; states_agree = rest.states_agree }

-- ---- runs by the step: related chips are both well formed or both ill formed

fits_left : {q q' : Phase} {t t' : Trace} → Apart q q' t t' → phase_fits q ≡ true
unfolding phase_fits gathered_fits
fits_left idle = refl
fits_left (ignoring ls ls') = refl
fits_left (address ls ls' e h) = rw (h, lt-ltb (length ls) 9 (omega (arith, ltb-true (length ls) 8 h)), lt-ltb (byte_of ls) (2 ^ length ls) (byte_lt ls))

fits_right : {q q' : Phase} {t t' : Trace} → Apart q q' t t' → phase_fits q' ≡ true
unfolding phase_fits gathered_fits
fits_right idle = refl
fits_right (ignoring ls ls') = refl
fits_right (address ls ls' e h) = rw (h, lt-ltb (length ls) 9 (omega (arith, ltb-true (length ls) 8 h)), lt-ltb (byte_of ls') (2 ^ length ls) (rw e at (byte_lt ls')))

pub well_formed_equal : {c d : Chip} {o o' : Observer} → RelatedChips c d o o' → well_formed c ≡ well_formed d
unfolding well_formed reserved_apart bus_fits
well_formed_equal (chips rs (related g z s x x' y y' k o)) = rw (o.ddc2b, fits_left k, fits_right k)

-- words that are the same but for SDA's levels are answered alike where the answer is the same
sda_part : {e f : Decoded} → Touches e → Touches f → (x : ℕ) → compared_answer e x ≡ compared_answer f x
sda_part (touches l) (touches l') x = refl

part_by : (w v x : ℕ) (t : Bool) → eqb w v ≡ t → (t || (touches_sda (decode w) && touches_sda (decode v))) ≡ true → compared_answer (decode w) x ≡ compared_answer (decode v) x
part_by w v x true e h = rw (eqb-true w v e)
part_by w v x false e h =
    sda_part (touches_of (decode w) (both (touches_sda (decode w)) (touches_sda (decode v)) h).0) (touches_of (decode v) (both (touches_sda (decode w)) (touches_sda (decode v)) h).1) x

same_part : (w v x : ℕ) → same_but_sda w v ≡ true → compared_answer (decode w) x ≡ compared_answer (decode v) x
same_part w v x h = part_by w v x (eqb w v) refl h

-- an ill formed state stays and answers 08000000 to every word
pub ill_formed_runs : (c d : Chip) → well_formed c ≡ false → well_formed d ≡ false → (ws vs : List ℕ) → alike ws vs ≡ true
    → (compared_answers ws (answers c ws) ≡ compared_answers vs (answers d vs)) × (after c ws ≡ c) × (after d vs ≡ d)
unfolding step
ill_formed_runs c d h h' [] [] a = (refl, refl, refl)
ill_formed_runs c d h h' [] (v ∷ vs) a = absurd (true≢false (sym a))
ill_formed_runs c d h h' (w ∷ ws) [] a = absurd (true≢false (sym a))
ill_formed_runs c d h h' (w ∷ ws) (v ∷ vs) a =
    let rest = ill_formed_runs c d h h' ws vs (both (same_but_sda w v) _ a).1 in
    rw (h, h') (ap₂ ◌∷◌ (same_part w v 0x08000000 (both (same_but_sda w v) _ a).0) rest.0, rest.1, rest.2)

stepped_agree : {c d : Chip} {o o' : Observer} → RelatedChips c d o o' → (t : Bool) → well_formed c ≡ t → (ws vs : List ℕ) → SeveralTransfers o o' ws vs
    → Agree ws vs (answers c ws) (answers d vs) (after c ws) (after d vs)
unfolding advance step
stepped_agree r t k [] [] p = record { answers_agree = refl; states_agree = related_agree r }
stepped_agree r t k [] (v ∷ vs) p = absurd (true≢false (sym p.words))
stepped_agree r t k (w ∷ ws) [] p = absurd (true≢false (sym p.words))
stepped_agree {c} {d} r false k (w ∷ ws) (v ∷ vs) p =
    let ill = ill_formed_runs c d k (sym (well_formed_equal r) ∙ k) (w ∷ ws) (v ∷ vs) p.words in
    record { answers_agree = ill.0; states_agree = ap compared_state ill.1 ∙ related_agree r ∙ sym (ap compared_state ill.2) }
stepped_agree {c} {d} {o} {o'} r true k (w ∷ ws) (v ∷ vs) p =
    let one = carried r w v ws vs p in
    let rest = stepped_agree {c = next c (decode w)} {d = next d (decode v)} {o = observe o (decode w)} {o' = observe o' (decode v)} one.still _ refl ws vs one.rest in
    let well : well_formed d ≡ true = sym (well_formed_equal r) ∙ k in
    rw (k, well) (record { answers_agree = ap₂ ◌∷◌ one.answer rest.answers_agree; states_agree = rest.states_agree })

pub run_agree : {c d : Chip} {o o' : Observer} → RelatedChips c d o o' → (ws vs : List ℕ) → SeveralTransfers o o' ws vs → Agree ws vs (answers c ws) (answers d vs) (after c ws) (after d vs)
run_agree {c} r ws vs p = stepped_agree r (well_formed c) refl ws vs p
