-- What the call gives and leaves, by the area that it has read and what was found.
-- Assumes nothing.
use mathlib.Core.Path.{◌≡◌, sym, ◌∙◌}
use mathlib.Core.List.{List}
use Rattle.std.specs.Prelude.{ℕ, Ok, Err}
use Rattle.chip.specs.declared.Chip.{Chip}
use Rattle.why_reasons.specs.declared.Reasons.{Reasons}
use Rattle.chip_well_formed.specs.declared.IllFormed as ill
use Rattle.why_reasons.specs.Explain.{Explanation, why}
use Rattle.state_area.specs.declared.AreaFault.{AreaFault}
use Rattle.state_area.specs.declared.AreaFault.TheVariants as fault
use Rattle.state_area.specs.Area.{fault_number, loaded, number_in, state_in}
use Rattle.why_capi.specs.Told.{numbers_of, why_number_in, told_in}

module _ (area words places : List ℕ) where
  pub ill_formed_lem : (c : Chip) → Ok c ≡ loaded area → (x : Explanation) → x ≡ why c words → (e' : ill.IllFormed) → x ≡ Err e'
      → (8 ≡ why_number_in area words) × (places ≡ told_in area words places)
  unfolding why_number_in told_in
  ill_formed_lem c e x w e' i = let v : why c words ≡ Err e' = sym w ∙ i in (rw (← e, v), rw (← e, v))

  pub told : (c : Chip) → Ok c ≡ loaded area → (x : Explanation) → x ≡ why c words → (reasons : Reasons) → x ≡ Ok reasons
      → (numbers : List ℕ) → numbers ≡ numbers_of reasons → (0 ≡ why_number_in area words) × (numbers ≡ told_in area words places)
  unfolding why_number_in told_in
  told c e x w reasons i numbers p = let v : why c words ≡ Ok reasons = sym w ∙ i in (rw (← e, v), rw (← e, v) p)

  pub refused : (f : AreaFault) → Err f ≡ loaded area → (fault_number f ≡ why_number_in area words) × (places ≡ told_in area words places)
  unfolding why_number_in told_in
  refused fault.WrongLength e = (rw (← e), rw (← e))
  refused fault.IllFormed e = (rw (← e), rw (← e))
