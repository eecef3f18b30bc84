-- Through transfers to other devices the chip pulls neither line, so that the lines are at their outside levels.
use Prim.Native.Nat.{ℕ}
use mathlib.Core.Path.{◌≡◌, refl, sym, ◌∙◌}
use mathlib.Core.List.{List, [], ◌∷◌}
use mathlib.Core.Bool.{Bool, true, false, true≢false}
use Rattle.bus.specs.declared.Mode.TheVariants.{Ddc2b}
use Rattle.bus.specs.declared.Phase.{Phase}
use Rattle.bus.specs.Bus.{pulls_sda, pulls_scl, sda_pulled, scl_pulled}
use Rattle.chip.specs.declared.Chip.{Chip}
use Rattle.chip.specs.State.{mode_of}
use Rattle.chip_well_formed.specs.WellFormed.{well_formed}
use Rattle.step.specs.Step.{advance, step}
use Rattle.chip_events.specs.Outcome.{next}
use Rattle.events.specs.Word.{decode}
use Rattle.isolation_laws.specs.Foreign.{Trace, Observer, observer_of, observe, SeveralTransfers, Begun, start_seen, bus_idle}
use Rattle.isolation_laws.specs.Lines.{LinesFree, FreeThroughout}
use Rattle.isolation_laws.specs.Related.{related, RelatedChips, chips}
use Rattle.isolation_laws.proofs.Related.{Released, left_released, right_released}
use Rattle.isolation_laws.proofs.Runs.{well_formed_equal, carried}
use Rattle.isolation_laws.proofs.Theorems.{self_related, flags_lt}

related_free : {c d : Chip} {o o' : Observer} → RelatedChips c d o o' → LinesFree c × LinesFree d
unfolding sda_pulled scl_pulled
related_free (chips rs (related g z s x x' y y' k o)) =
    let l = left_released k in
    let r = right_released k in
    (record { sda_level_lem = rw (o.ddc2b, l.sda_free_lem); scl_level = rw (o.ddc2b, l.scl_free_lem) }, record { sda_level_lem = rw (o.ddc2b, r.sda_free_lem); scl_level = rw (o.ddc2b, r.scl_free_lem) })

-- an ill formed state stays as it is
ill_formed_free : (c : Chip) → well_formed c ≡ false → LinesFree c → (ws : List ℕ) → FreeThroughout c ws
unfolding step
ill_formed_free c k f [] = f
ill_formed_free c k f (w ∷ ws) = rw k (f, ill_formed_free c k f ws)

both_free : {c d : Chip} {o o' : Observer} → RelatedChips c d o o' → (t : Bool) → well_formed c ≡ t → (ws vs : List ℕ) → SeveralTransfers o o' ws vs
    → FreeThroughout c ws × FreeThroughout d vs
unfolding advance step
both_free r t k [] [] p = related_free r
both_free r t k [] (v ∷ vs) p = absurd (true≢false (sym p.words))
both_free r t k (w ∷ ws) [] p = absurd (true≢false (sym p.words))
both_free {c} {d} r false k (w ∷ ws) (v ∷ vs) p =
    let free = related_free r in
    (ill_formed_free c k free.0 (w ∷ ws), ill_formed_free d (sym (well_formed_equal r) ∙ k) free.1 (v ∷ vs))
both_free {c} {d} {o} {o'} r true k (w ∷ ws) (v ∷ vs) p =
    let one = carried r w v ws vs p in
    let free = related_free r in
    let rest = both_free {c = next c (decode w)} {d = next d (decode v)} {o = observe o (decode w)} {o' = observe o' (decode v)} one.still _ refl ws vs one.rest in
    let well : well_formed d ≡ true = sym (well_formed_equal r) ∙ k in
    rw (k, well) ((free.0, rest.0), (free.1, rest.1))

begun_released : {q : Phase} {t : Trace} → Begun q t → Released q
unfolding pulls_sda pulls_scl
begun_released start_seen = record { sda_free_lem = refl; scl_free_lem = refl }
begun_released bus_idle = record { sda_free_lem = refl; scl_free_lem = refl }

begun_free : (c : Chip) → mode_of c.core ≡ Ddc2b → Released c.core.bus.phase → LinesFree c
unfolding sda_pulled scl_pulled
begun_free c h q = record { sda_level_lem = rw (h, q.sda_free_lem); scl_level = rw (h, q.scl_free_lem) }

lines_by : (c : Chip) → mode_of c.core ≡ Ddc2b → {t : Trace} → Begun c.core.bus.phase t → (ws vs : List ℕ) → SeveralTransfers (observer_of c t) (observer_of c t) ws vs
    → (well : Bool) → well_formed c ≡ well → FreeThroughout c ws × FreeThroughout c vs
lines_by c h b ws vs p true k = both_free (self_related c h (flags_lt c k) b) true k ws vs p
lines_by c h b ws vs p false k =
    let free = begun_free c h (begun_released b) in
    (ill_formed_free c k free ws, ill_formed_free c k free vs)

-- under the premises of `several-transfers` SDA's line, just before any word, is what the premises say of its outside level
pub lines_free : (c : Chip) → mode_of c.core ≡ Ddc2b → {t : Trace} → Begun c.core.bus.phase t → (ws vs : List ℕ) → SeveralTransfers (observer_of c t) (observer_of c t) ws vs
    → FreeThroughout c ws × FreeThroughout c vs
lines_free c h b ws vs p = lines_by c h b ws vs p (well_formed c) refl
