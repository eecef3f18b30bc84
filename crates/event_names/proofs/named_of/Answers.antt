-- `event_names::named_of` meets its contract.
use mathlib.Core.Path.{◌∙◌}
use Rattle.event_names.specs.Names.{named}
use Rattle.event_names.proofs.Digits.{fitting}
use Rattle.event_names.proofs.Names.{placed, unplaced}
use Rattle.event_names.proofs.named_of.Goals as goal

pub returns-then-v-eq0 : goal.returns-then-v-eq0
unfolding named
returns-then-v-eq0 c = simp c.if-v-eq0.true

pub returns-in_err-place_of : goal.returns-in_err-place_of
returns-in_err-place_of c = rw (c.from_residual.ensures, ← c.names_of.ensures) (unplaced _ _ c.if-v-eq0.false c.in_err-place_of.ensures)

pub returns : goal.returns
returns c = rw (← c.names_of.ensures) (c.ok.ensures.value ∙ fitting _ _ _ c.try_from.ensures ∙ placed _ _ _ c.if-v-eq0.false c.in_ok-place_of.ensures)
