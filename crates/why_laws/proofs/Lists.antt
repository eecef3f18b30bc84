-- The last change that is found in a list is the last in it, and where none is found there is none.
-- Assumes nothing.
use mathlib.Core.Path.{refl, sym, ◌∙◌}
use mathlib.Core.Bool.{Bool, true, false}
use mathlib.Core.List.{List, [], ◌∷◌}
use Prim.Native.Nat.{ℕ, zero, suc, ◌+◌, ◌<◌, ◌≤◌}
use native.Mathlib.Nat.{not-suc-le-zero}
use native.Mathlib.Omega.{arith}
use lib.ListN.{length, take, get_or}
use Rattle.events.specs.Word.{decode}
use Rattle.events.proofs.Refused.{decode_in_range}
use Rattle.chip.specs.declared.Chip.{Chip}
use Rattle.chip.specs.State.{mode_of}
use Rattle.chip_events.specs.Outcome.{next}
use Rattle.step.specs.Step.{advance}
use Rattle.list_call.specs.Run.{advanced}
use Rattle.why_last_set.specs.declared.Sort.{Sort}
use Rattle.why_last_set.specs.declared.Last.{Last}
use Rattle.why_last_set.specs.declared.Last.TheVariants.{Never, At}
use Rattle.why_last_set.specs.LastSet.{Source, noted}
use Rattle.why_reasons.specs.Explain.{later, last_set}
use Rattle.why_laws.specs.Due.{is_set, chip_at, SetAt, IsSort, LastAt}
use Rattle.why_laws.specs.Found.{StepAt, Step}
use Rattle.why_laws.specs.Found.{Found}
use Rattle.why_laws.proofs.Steps.{noted_step}

-- ---- one word before others

module _ (s : Source) (c : Chip) (w : ℕ) (ws : List ℕ) where
  into_tail : (n : ℕ) → SetAt s c (w ∷ ws) (suc n) → SetAt s (advance c (decode w)).chip ws n
  into_tail n x = record { within = omega (arith, x.within); clear = x.clear; set = x.set }

  from_tail : (n : ℕ) → SetAt s (advance c (decode w)).chip ws n → SetAt s c (w ∷ ws) (suc n)
  from_tail n x = record { within = omega (arith, x.within); clear = x.clear; set = x.set }

  none_behind : (n : ℕ) (sort : Sort) → LastAt s (advance c (decode w)).chip ws n sort → (m : ℕ) → suc n < m → SetAt s c (w ∷ ws) m → ⊥
  none_behind n sort a zero h x = not-suc-le-zero h
  none_behind n sort a (suc m) h x = a.last m (omega arith) (into_tail m x)

  last_tail : (n : ℕ) (sort : Sort) → LastAt s (advance c (decode w)).chip ws n sort → LastAt s c (w ∷ ws) (suc n) sort
  last_tail n sort a = record { set = from_tail n a.set; last = none_behind n sort a; source = a.source; event = a.event }

  none_first : ((n : ℕ) → SetAt s (advance c (decode w)).chip ws n → ⊥) → (m : ℕ) → 0 < m → SetAt s c (w ∷ ws) m → ⊥
  none_first f zero h x = not-suc-le-zero h
  none_first f (suc m) h x = f m (into_tail m x)

  last_first : (place told : ℕ) (sort : Sort) → StepAt s c (decode w) place told sort → ((n : ℕ) → SetAt s (advance c (decode w)).chip ws n → ⊥) → LastAt s c (w ∷ ws) 0 sort
  unfolding advance
  last_first place told sort a f =
      record { set = record { within = omega arith; clear = a.clear; set = a.set }; last = none_first f; source = a.source; event = a.event }

  none_at_all : (place : ℕ) → Step s c (decode w) place Never → ((n : ℕ) → SetAt s (advance c (decode w)).chip ws n → ⊥) → (n : ℕ) → SetAt s c (w ∷ ws) n → ⊥
  unfolding advance
  none_at_all place g f zero x = g x.clear x.set
  none_at_all place g f (suc n) x = f n (into_tail n x)

  join : (base : ℕ) (l x : Last) → Found s (advance c (decode w)).chip ws (base + 1) l → Step s c (decode w) base x → Found s c (w ∷ ws) base (later l x)
  join base Never Never f g = none_at_all base g f
  join base Never (At told sort) f g = record { index = 0; place = omega (arith, g.same); last = last_first base told sort g f }
  join base (At told sort) x f g = record { index = suc f.index; place = omega (arith, f.place); last = last_tail f.index sort f.last }

-- ---- a list

pub noted_word : (s : Source) (c : Chip) (w place : ℕ) →
    Step s c (decode w) place (noted s place c.core.irqx (mode_of c.core) (advance c (decode w)).chip.core Never)
unfolding advance
noted_word s c w place = noted_step s c (decode w) (decode_in_range w) place

pub found : (s : Source) (c : Chip) (ws : List ℕ) (base : ℕ) → Found s c ws base (last_set s c ws base)
unfolding last_set
found s c [] base = λ n x. not-suc-le-zero x.within
found s c (w ∷ ws) base =
    join s c w ws base (last_set s (advance c (decode w)).chip ws (base + 1)) _ (found s (advance c (decode w)).chip ws (base + 1)) (noted_word s c w base)
