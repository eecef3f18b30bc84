-- The reason given is due, and no other is: exactly one answer for every state and list.
-- Assumes nothing.
use mathlib.Core.Path.{◌≡◌, refl, sym, ap, ap₂, ◌∙◌}
use mathlib.Core.Bool.{Bool, true, false, not, ◌&&◌, and-false, true≢false}
use mathlib.Core.List.{List, [], ◌∷◌}
use mathlib.Core.Logic.{⊎_elim}
use Prim.Native.Nat.{ℕ, zero, suc, ◌+◌, ◌<◌, ◌≤◌}
use native.Mathlib.Nat.{zero-add, not-suc-le-zero}
use native.Mathlib.Omega.{arith}
use lib.Dec.{eqb}
use lib.ListN.{length, take}
use Rattle.bits.specs.Byte.{bit}
use Rattle.bits.proofs.Bitwise.{bit_and_lem}
use Rattle.bits.proofs.Finite.{both, lt_or_le}
use Rattle.registers.specs.Names.{IEX}
use Rattle.events.specs.Word.{decode}
use Rattle.events.specs.Decoded.{Decoded}
use Rattle.bus.specs.declared.Comparison.{Comparison}
use Rattle.bus.specs.declared.Comparison.TheVariants.{None, Own}
use Rattle.bus.specs.Bus.{mode, mode_by}
use Rattle.chip.specs.declared.Chip.{Chip}
use Rattle.chip.specs.State.{mode_of, register_at, requested}
use Rattle.step.specs.Step.{advance}
use Rattle.list_call.specs.Run.{advanced}
use Rattle.chip_flag_laws.specs.Causes.{rises_vsynci, falls_scl, in_ninth_clock}
use Rattle.why_last_set.specs.declared.Sort.{Sort}
use Rattle.why_last_set.specs.declared.Sort.TheVariants.{VsyncRise, P16Rise, Timer, MatchedAddress, NinthClock, Ddc1Load, SclFall}
use Rattle.why_last_set.specs.declared.Last.{Last}
use Rattle.why_last_set.specs.declared.Last.TheVariants.{Never, At}
use Rattle.why_last_set.specs.LastSet.{Source, bit_of, byte_sort}
use Rattle.why_last_set.specs.LastSet.Source.{IntV, IntE, IntR, IntA, IntD, IntS}
use Rattle.why_reasons.specs.declared.Reason.{Reason}
use Rattle.why_reasons.specs.declared.Reason.TheVariants.{NotRequested, AlreadySet, Event}
use Rattle.why_reasons.specs.Explain.{last_set, reason_by, requesting, reason_of}
use Rattle.why_laws.specs.Due.{is_set, chip_at, SetAt, address_outcome, IsSort, source_of, LastAt, Due}
use Rattle.why_laws.proofs.Address.{false_true}
use Rattle.why_laws.specs.Found.{Found}
use Rattle.why_laws.proofs.Lists.{found}

clash : {A : Type 0} (b : Bool) → b ≡ true → b ≡ false → A
clash b t f = absurd (true≢false (sym t ∙ f))

-- ---- a flag that no word sets

-- a source that requests has its flag set
set_where_requesting : (s : Source) (c : Chip) → requesting s c ≡ true → is_set s c ≡ true
unfolding requested
set_where_requesting s c h = (both (is_set s c) (bit (bit_of s) (register_at c.registers IEX)) (sym (bit_and_lem (bit_of s) c.core.irqx (register_at c.registers IEX)) ∙ h)).0

-- a flag that is 1 in the end and that no word set was 1 all along
was_set : (s : Source) (c : Chip) (w : ℕ) (ws : List ℕ) (b : Bool) → is_set s c ≡ b → (SetAt s c (w ∷ ws) 0 → ⊥) → is_set s (advance c (decode w)).chip ≡ true → is_set s c ≡ true
was_set s c w ws true e f t = e
was_set s c w ws false e f t = absurd (f (record { within = omega arith; clear = e; set = t }))

all_along : (s : Source) (c : Chip) (ws : List ℕ) → ((n : ℕ) → SetAt s c ws n → ⊥) → is_set s (advanced c ws) ≡ true → (n : ℕ) → n ≤ length ws → is_set s (chip_at c ws n) ≡ true
all_along s c [] f t zero h = t
all_along s c [] f t (suc n) h = absurd (not-suc-le-zero h)
all_along s c (w ∷ ws) f t zero h =
    was_set s c w ws (is_set s c) refl (f 0) (all_along s (advance c (decode w)).chip ws (λ m x. f (suc m) (record { within = omega (arith, x.within); clear = x.clear; set = x.set })) t 0 (omega arith))
all_along s c (w ∷ ws) f t (suc n) h =
    all_along s (advance c (decode w)).chip ws (λ m x. f (suc m) (record { within = omega (arith, x.within); clear = x.clear; set = x.set })) t n (omega arith)

-- ---- the reason given is due

due_by : (s : Source) (c : Chip) (ws : List ℕ) (r : Bool) (l : Last) → requesting s (advanced c ws) ≡ r → Found s c ws 0 l → Due s c ws (reason_by r l)
unfolding Due reason_by
due_by s c ws false l e f = e
due_by s c ws true Never e f = (e, all_along s c ws f (set_where_requesting s (advanced c ws) e))
due_by s c ws true (At told sort) e f =
    let same : told ≡ f.index = f.place ∙ zero-add f.index in
    (e, rw same f.last)

pub due : (s : Source) (c : Chip) (ws : List ℕ) → Due s c ws (reason_of s c ws)
unfolding reason_of
due s c ws = due_by s c ws (requesting s (advanced c ws)) (last_set s c ws 0) refl (found s c ws 0)

-- ---- and no other

-- the sort of an event that sets a source's flag, by the chip before it
abbrev address_sort : Comparison → Sort
address_sort None = SclFall
address_sort (Own matched) = MatchedAddress matched

abbrev sort_by : Source → Chip → Sort
sort_by IntV c = VsyncRise
sort_by IntE c = P16Rise
sort_by IntR c = Timer
sort_by IntA c = address_sort (address_outcome c)
sort_by IntD c = byte_sort (mode_of c.core)
sort_by IntS c = SclFall

ninth_by : (scl enddc md ninth : Bool) → (scl && ((not enddc && not md) && ninth)) ≡ true → NinthClock ≡ byte_sort (mode_by enddc md)
unfolding byte_sort
ninth_by scl true md ninth h = refl
ninth_by scl false true ninth h = false_true (rw (and-false scl) at h)
ninth_by scl false false ninth h = refl

load_by : (v enddc md edges : Bool) → (v && ((not enddc && md) && edges)) ≡ true → Ddc1Load ≡ byte_sort (mode_by enddc md)
unfolding byte_sort
load_by v true md edges h = false_true (rw (and-false v) at h)
load_by v false true edges h = refl
load_by v false false edges h = false_true (rw (and-false v) at h)

sort_is : (c : Chip) (e : Decoded) (sort : Sort) → IsSort c e sort → sort ≡ sort_by (source_of sort) c
unfolding IsSort mode
sort_is c e VsyncRise h = refl
sort_is c e P16Rise h = refl
sort_is c e Timer h = refl
sort_is c e (MatchedAddress matched) h = sym (ap address_sort h.1)
sort_is c e NinthClock h = ninth_by (falls_scl c e) (bit 3 c.core.bus.iists) (bit 0 c.core.mdcon) (in_ninth_clock c.core.bus.phase) h
sort_is c e Ddc1Load h = load_by (rises_vsynci c e) (bit 3 c.core.bus.iists) (bit 0 c.core.mdcon) (eqb c.core.bus.shifter.edges 0) h
sort_is c e SclFall h = refl

module _ (s : Source) (c : Chip) (ws : List ℕ) where
  same_place : (n m : ℕ) (a b : Sort) → LastAt s c ws n a → LastAt s c ws m b → n ≡ m
  same_place n m a b x y =
      ⊎_elim
      (λ (h : n < m). absurd (x.last m h y.set))
      (λ (h : m ≤ n). ⊎_elim (λ (k : m < n). absurd (y.last n k x.set)) (λ (k : n ≤ m). omega arith) (lt_or_le m n))
      (lt_or_le n m)

  sort_at : (n : ℕ) (a : Sort) → LastAt s c ws n a → a ≡ sort_by s (chip_at c ws n)
  sort_at n a x = sort_is (chip_at c ws n) _ a x.event ∙ ap (λ (t : Source). sort_by t (chip_at c ws n)) x.source

  same_event_lem : (n m : ℕ) (a b : Sort) → LastAt s c ws n a → LastAt s c ws m b → Event n a ≡ Event m b
  same_event_lem n m a b x y =
      let e = same_place n m a b x y in
      ap₂ Event e (sort_at n a x ∙ ap (λ (k : ℕ). sort_by s (chip_at c ws k)) e ∙ sym (sort_at m b y))

  one : (a b : Reason) → Due s c ws a → Due s c ws b → a ≡ b
  unfolding Due
  one NotRequested NotRequested x y = refl
  one NotRequested AlreadySet x y = clash _ y.0 x
  one NotRequested (Event m b) x y = clash _ y.0 x
  one AlreadySet NotRequested x y = clash _ x.0 y
  one AlreadySet AlreadySet x y = refl
  one AlreadySet (Event m b) x y = clash _ (x.1 m (omega (arith, y.1.set.within))) y.1.set.clear
  one (Event n a) NotRequested x y = clash _ x.0 y
  one (Event n a) AlreadySet x y = clash _ (y.1 n (omega (arith, x.1.set.within))) x.1.set.clear
  one (Event n a) (Event m b) x y = same_event_lem n m a b x.1 y.1

  -- an answer that is due is the one given
  pub only : (r : Reason) → Due s c ws r → r ≡ reason_of s c ws
  only r d = one r (reason_of s c ws) d (due s c ws)
