-- `state_calls::fresh` meets its contract.
-- Assumes nothing.
use mathlib.Core.Path.{◌∙◌, ap}
use Rattle.state_area.proofs.Accepted.{stored_number, stored_number_lem}
use Rattle.state_calls.proofs.fresh.Goals as goal

pub returns-in-Ok : goal.returns-in-Ok
returns-in-Ok c = rw (← c.fresh.ensures) (ap stored_number c.in-Ok.ensures.0 ∙ stored_number_lem _ _, c.in-Ok.ensures.1)

pub returns-in-Err : goal.returns-in-Err
returns-in-Err c = rw (c.from.ensures, ← c.fresh.ensures) (ap stored_number c.in-Err.ensures.0 ∙ stored_number_lem _ _, c.in-Err.ensures.1)
