-- What is noted of one word is the change that it made, and of the sort that it is.
-- Assumes nothing.
use mathlib.Core.Path.{◌≡◌, refl, sym, ap, ◌∙◌}
use mathlib.Core.Bool.{Bool, true, false, not, ◌&&◌, ◌||◌, and-false, or-false, true≢false}
use Prim.Native.Nat.{ℕ}
use lib.Dec.{eqb}
use Rattle.bits.specs.Byte.{pick, bit}
use Rattle.events.specs.Decoded.{Decoded}
use Rattle.events.specs.Word.{InRange}
use Rattle.bus.specs.declared.Mode.{Mode}
use Rattle.bus.specs.declared.Mode.TheVariants.{Off, Ddc1, Ddc2b}
use Rattle.bus.specs.declared.Comparison.{Comparison}
use Rattle.bus.specs.declared.Comparison.TheVariants.{None, Own}
use Rattle.bus.specs.Bus.{mode, mode_by, compared_in, is_own}
use Rattle.chip.specs.declared.Chip.{Chip}
use Rattle.chip.specs.State.{mode_of}
use Rattle.chip_events.specs.Outcome.{next}
use Rattle.chip_flag_laws.specs.Causes.{raises, rises_vsynci, falls_scl, in_ninth_clock}
use Rattle.chip_flag_laws.specs.Causes.Source.{SclFall as ByScl, DataByte as ByData, AddressMatch as ByAddress, TimerOverflow as ByTimer, ExternalRise as ByP16, VsyncRise as ByVsync}
use Rattle.chip_flag_laws.proofs.Causes.{sets_exactly}
use Rattle.why_last_set.specs.declared.Sort.{Sort}
use Rattle.why_last_set.specs.declared.Sort.TheVariants.{VsyncRise, P16Rise, Timer, MatchedAddress, NinthClock, Ddc1Load, SclFall}
use Rattle.why_last_set.specs.declared.Last.TheVariants.{Never}
use Rattle.why_last_set.specs.LastSet.{Source, goes_up, byte_sort, last_at, address_at, noted}
use Rattle.why_last_set.specs.LastSet.Source.{IntV, IntE, IntR, IntA, IntD, IntS}
use Rattle.why_laws.specs.Due.{cause_of, is_set, address_outcome, IsSort, source_of}
use Rattle.why_laws.specs.Found.{Step}
use Rattle.why_laws.proofs.Address.{false_true, outcome_told}

-- a flag that goes from 0 to 1 is raised
raised : (s : Source) (c : Chip) (e : Decoded) → InRange e → is_set s c ≡ false → is_set s (next c e) ≡ true → raises (cause_of s) c e ≡ true
raised IntV c e h f t = sym (sets_exactly ByVsync c e h f) ∙ t
raised IntE c e h f t = sym (sets_exactly ByP16 c e h f) ∙ t
raised IntR c e h f t = sym (sets_exactly ByTimer c e h f) ∙ t
raised IntA c e h f t = sym (sets_exactly ByAddress c e h f) ∙ t
raised IntD c e h f t = sym (sets_exactly ByData c e h f) ∙ t
raised IntS c e h f t = sym (sets_exactly ByScl c e h f) ∙ t

up_step : (s : Source) (c : Chip) (e : Decoded) (place : ℕ) (sort : Sort) (x y : Bool) → is_set s c ≡ x → is_set s (next c e) ≡ y
    → (is_set s c ≡ false → is_set s (next c e) ≡ true → IsSort c e sort) → source_of sort ≡ s → Step s c e place (last_at (not x && y) place sort Never)
unfolding last_at
up_step s c e place sort true y p q g k = λ f _. true≢false (sym p ∙ f)
up_step s c e place sort false true p q g k = record { same = refl; clear = p; set = q; source = k; event = g p q }
up_step s c e place sort false false p q g k = λ _ t. true≢false (sym t ∙ q)

-- ---- D, by the mode before

byte_source : (m : Mode) → source_of (byte_sort m) ≡ IntD
unfolding byte_sort
byte_source Off = refl
byte_source Ddc1 = refl
byte_source Ddc2b = refl

byte_by : (P : Sort → Type 0) (v scl edges ninth enddc md : Bool) → ((v && ((not enddc && md) && edges)) ≡ true → P Ddc1Load)
    → ((scl && ((not enddc && not md) && ninth)) ≡ true → P NinthClock)
    → ((v && ((not enddc && md) && edges)) || (scl && ((not enddc && not md) && ninth))) ≡ true → P (byte_sort (mode_by enddc md))
unfolding byte_sort
byte_by P v scl edges ninth true md f g h = false_true (rw (and-false v, and-false scl) at h)
byte_by P v scl edges ninth false true f g h = f (rw (and-false scl, or-false (v && edges)) at h)
byte_by P v scl edges ninth false false f g h = g (rw (and-false v) at h)

byte_event : (c : Chip) (e : Decoded) → raises ByData c e ≡ true → IsSort c e (byte_sort (mode_of c.core))
unfolding raises IsSort mode
byte_event c e h =
    byte_by (λ sort. IsSort c e sort) (rises_vsynci c e) (falls_scl c e) (eqb c.core.bus.shifter.edges 0) (in_ninth_clock c.core.bus.phase)
    (bit 3 c.core.bus.iists) (bit 0 c.core.mdcon) (λ x. x) (λ x. x) h

-- ---- A, by the outcome that the phase keeps

address_step : (c : Chip) (e : Decoded) (place : ℕ) (x y : Bool) (k : Comparison) → is_set IntA c ≡ x → is_set IntA (next c e) ≡ y
    → (is_set IntA c ≡ false → is_set IntA (next c e) ≡ true → (raises ByAddress c e ≡ true) × ((k ≡ address_outcome c) × (is_own k ≡ true)))
    → Step IntA c e place (address_at (not x && y) place k Never)
unfolding address_at last_at IsSort
address_step c e place true y None p q g = λ f _. true≢false (sym p ∙ f)
address_step c e place true y (Own matched) p q g = λ f _. true≢false (sym p ∙ f)
address_step c e place false true None p q g = λ f t. true≢false (sym (g f t).1.1)
address_step c e place false true (Own matched) p q g = record { same = refl; clear = p; set = q; source = refl; event = ((g p q).0, sym (g p q).1.0) }
address_step c e place false false None p q g = λ _ t. true≢false (sym t ∙ q)
address_step c e place false false (Own matched) p q g = λ _ t. true≢false (sym t ∙ q)

address_told : (c : Chip) (e : Decoded) → raises ByAddress c e ≡ true
    → (raises ByAddress c e ≡ true) × ((compared_in (next c e).core.bus.phase ≡ address_outcome c) × (is_own (compared_in (next c e).core.bus.phase) ≡ true))
address_told c e h =
    let told = outcome_told c e h in
    (h, (told.0, ap is_own told.0 ∙ told.1))

-- ---- every source

pub noted_step : (s : Source) (c : Chip) (e : Decoded) → InRange e → (place : ℕ) → Step s c e place (noted s place c.core.irqx (mode_of c.core) (next c e).core Never)
unfolding noted goes_up IsSort raises
noted_step IntV c e h place = up_step IntV c e place VsyncRise _ _ refl refl (λ f t. raised IntV c e h f t) refl
noted_step IntE c e h place = up_step IntE c e place P16Rise _ _ refl refl (λ f t. raised IntE c e h f t) refl
noted_step IntR c e h place = up_step IntR c e place Timer _ _ refl refl (λ f t. raised IntR c e h f t) refl
noted_step IntA c e h place =
    address_step c e place _ _ (compared_in (next c e).core.bus.phase) refl refl (λ f t. address_told c e (raised IntA c e h f t))
noted_step IntD c e h place =
    up_step IntD c e place (byte_sort (mode_of c.core)) _ _ refl refl (λ f t. byte_event c e (raised IntD c e h f t)) (byte_source (mode_of c.core))
noted_step IntS c e h place = up_step IntS c e place SclFall _ _ refl refl (λ f t. raised IntS c e h f t) refl
