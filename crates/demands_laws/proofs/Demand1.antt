-- Demand 1: every event word and every offered state gets an answer; a refused word leaves the chip as it was and carries its number; a
-- refused list writes nothing. The step and the list call are total: contracts of `step::step` and `list_call::run`, without a precondition.
use Prim.Native.Nat.{ℕ}
use mathlib.Core.Path.{◌≡◌, refl, sym, ◌∙◌}
use mathlib.Core.Bool.{Bool, true, false}
use mathlib.Core.List.{List}
use lib.Dec.{ltb}
use lib.ListN.{length}
use Rattle.bits.specs.Byte.{pick}
use Rattle.answers.specs.Answer.{answer_word}
use Rattle.chip.specs.declared.Chip.{Chip}
use Rattle.chip.specs.State.{requests}
use Rattle.chip_well_formed.specs.WellFormed.{well_formed}
use Rattle.step.specs.Step.{step}
use Rattle.list_call.specs.Run.{run, run_answers}
use Rattle.chip_laws.specs.Numbers.{answer_number, number_of01}
use Rattle.chip_laws.proofs.Numbers as chip
use Rattle.list_call_laws.proofs.Calls as calls

-- the number of every answer, at every state and every word, is the first row of document 01's table that applies
pub answered : (c : Chip) (word : ℕ) → answer_number c word ≡ number_of01 c word
answered = chip.number_given_lem

-- 8: the state is left, and the answer says nothing else
pub ill_formed_kept : (c : Chip) (word : ℕ) → well_formed c ≡ false → step c word ≡ record { chip = c; answer = 0x08000000 }
ill_formed_kept = chip.ill_formed_step

-- 1 to 6: the state is left, and the answer carries the number and the request lines of that state
pub refused_kept : (c : Chip) (word : ℕ) → well_formed c ≡ true → (answer_number c word ≡ 0 → ⊥)
    → step c word ≡ record { chip = c; answer = answer_word (number_of01 c word) false (requests c) 0 }
refused_kept = chip.refused_step

-- a list call is answered 8 where the state is ill formed, then 7 where there are fewer places than words, and 0 otherwise
pub list_answered : (c : Chip) (words places : List ℕ) → (run c words places).number ≡ pick (well_formed c) (pick (ltb (length places) (length words)) 7 0) 8
list_answered = calls.number

kept_by : (c : Chip) (words places : List ℕ) (well short : Bool) → well_formed c ≡ well → ltb (length places) (length words) ≡ short
    → (◌≡◌ {A = ℕ} (pick well (pick short 7 0) 8) 0 → ⊥) → ((run c words places).chip ≡ c) × (run_answers c words places ≡ places)
kept_by c words places false short w s n = let k = calls.ill_formed_untouched c words places w in (k.chip, k.written)
kept_by c words places true true w s n = let k = calls.short_untouched c words places w s in (k.chip, k.written)
kept_by c words places true false w s n = absurd (n refl)

-- a list call that is refused leaves the chip, and every answer place, as they were
pub refused_list_kept : (c : Chip) (words places : List ℕ) → ((run c words places).number ≡ 0 → ⊥)
    → ((run c words places).chip ≡ c) × (run_answers c words places ≡ places)
refused_list_kept c words places n =
    kept_by c words places (well_formed c) (ltb (length places) (length words)) refl refl (λ e. n (calls.number c words places ∙ e))
