-- `plain_bus::read` meets its contract.
-- Assumes nothing.
use mathlib.Core.Path.{refl, sym, ap, ◌∙◌}
use Rattle.std.specs.Prelude.{Some}
use Rattle.plain_bus.specs.Reading.{reading, places_left}
use Rattle.plain_bus.proofs.Numbers.{read_case, good_case}
use Rattle.plain_bus.proofs.read.Goals as goal

pub returns-in-None : goal.returns-in-None
unfolding reading places_left
returns-in-None c =
    let fault = sym c.first_fault.ensures ∙ c.in-None.is in
    good_case _ _ _ _ _ fault c.listed.ensures

pub returns-in-Some-OtherLine : goal.returns-in-Some-OtherLine
unfolding reading places_left
returns-in-Some-OtherLine c =
    let fault = sym c.first_fault.ensures ∙ c.in-Some-OtherLine.is ∙ ap Some c.in-Some-OtherLine.field-0-is in
    read_case _ _ _ _ _ (rw fault (refl, refl)) (rw fault)

pub returns-in-Some-OtherLevel : goal.returns-in-Some-OtherLevel
unfolding reading places_left
returns-in-Some-OtherLevel c =
    let fault = sym c.first_fault.ensures ∙ c.in-Some-OtherLevel.is ∙ ap Some c.in-Some-OtherLevel.field-0-is in
    read_case _ _ _ _ _ (rw fault (refl, refl)) (rw fault)
