-- `event_names::field_of` meets its contract.
use mathlib.Core.Path.{◌∙◌}
use Rattle.event_names.proofs.Digits.{fitting}
use Rattle.event_names.proofs.Names.{field_named, field_digits, field_none, field_wide}
use Rattle.event_names.proofs.field_of.Goals as goal

pub returns-in-Some : goal.returns-in-Some
returns-in-Some c = field_named _ _ _ c.in-Some.ensures

pub returns-in_err-unhex-in-None : goal.returns-in_err-unhex-in-None
returns-in_err-unhex-in-None c = rw c.from_residual.ensures (field_none _ _ c.in-None.ensures c.in_err-unhex-in-None.ensures)

pub returns-in_err-ok-in-None : goal.returns-in_err-ok-in-None
returns-in_err-ok-in-None c =
    rw c.from_residual-in_err-ok-in-None.ensures
    (field_wide _ _ _ c.in-None.ensures c.in_ok-unhex-in-None.ensures (c.in_err-ok-in-None.ensures.value ∙ fitting _ _ _ c.try_from.ensures))

pub returns-in_ok-ok-in-None : goal.returns-in_ok-ok-in-None
returns-in_ok-ok-in-None c =
    field_digits _ _ _ _ _ c.in-None.ensures c.in_ok-unhex-in-None.ensures (c.in_ok-ok-in-None.ensures.value ∙ fitting _ _ _ c.try_from.ensures) c.unnamed.ensures
