-- A run by the step: from a well formed chip it needs no test of the state, and from an ill formed one nothing happens.
-- Assumes nothing.
use Prim.Native.Nat.{ℕ}
use mathlib.Core.Path.{◌≡◌, refl, ap}
use mathlib.Core.Bool.{true, false}
use mathlib.Core.List.{List, [], ◌∷◌, map}
use Rattle.events.specs.Word.{decode}
use Rattle.chip.specs.declared.Chip.{Chip}
use Rattle.chip_well_formed.specs.WellFormed.{well_formed}
use Rattle.step.specs.Step.{step, advance}
use Rattle.chip_laws.proofs.WellFormed.{advance_well_formed, step_well_formed}
use Rattle.list_call.specs.Run.{after, answers, advanced, advanced_answers}

-- one word
pub step_advances : (c : Chip) (w : ℕ) → well_formed c ≡ true → step c w ≡ advance c (decode w)
unfolding step
step_advances c w t = rw t

pub step_refuses : (c : Chip) (w : ℕ) → well_formed c ≡ false → step c w ≡ record { chip = c; answer = 0x08000000 }
unfolding step
step_refuses c w t = rw t

-- a list of words, the chip well formed
pub after_advanced : (c : Chip) (ws : List ℕ) → well_formed c ≡ true → after c ws ≡ advanced c ws
after_advanced c [] t = refl
after_advanced c (w ∷ ws) t = rw (step_advances c w t) (after_advanced (advance c (decode w)).chip ws (advance_well_formed c w t))

pub answers_advanced : (c : Chip) (ws : List ℕ) → well_formed c ≡ true → answers c ws ≡ advanced_answers c ws
answers_advanced c [] t = refl
answers_advanced c (w ∷ ws) t =
    rw (step_advances c w t) (ap (λ (l : List ℕ). (advance c (decode w)).answer ∷ l) (answers_advanced (advance c (decode w)).chip ws (advance_well_formed c w t)))

-- and stays so
pub after_well_formed : (c : Chip) (ws : List ℕ) → well_formed c ≡ true → well_formed (after c ws) ≡ true
after_well_formed c [] t = t
after_well_formed c (w ∷ ws) t = after_well_formed (step c w).chip ws (step_well_formed c w t)

-- the chip ill formed: it stays as it is and every answer is 08000000
pub after_refused : (c : Chip) (ws : List ℕ) → well_formed c ≡ false → after c ws ≡ c
after_refused c [] t = refl
after_refused c (w ∷ ws) t = rw (step_refuses c w t) (after_refused c ws t)

pub answers_refused : (c : Chip) (ws : List ℕ) → well_formed c ≡ false → answers c ws ≡ map (λ (w : ℕ). 0x08000000) ws
answers_refused c [] t = refl
answers_refused c (w ∷ ws) t = rw (step_refuses c w t) (ap (λ (l : List ℕ). 0x08000000 ∷ l) (answers_refused c ws t))
