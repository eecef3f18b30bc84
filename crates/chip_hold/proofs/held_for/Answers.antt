-- `chip_hold::held_for` meets its contract.
-- Assumes nothing.
use Rattle.chip_hold.specs.Hold.{hold_report}
use Rattle.chip_hold.proofs.Cases.{hold_says, told_number}
use Rattle.chip_hold.proofs.held_for.Goals as goal

pub returns-then-well_formed : goal.returns-then-well_formed
unfolding hold_report
returns-then-well_formed c = hold_says _ _ (simp (c.hold_of.ensures, ← c.well_formed-2.ensures, c.if-well_formed.true)) (simp (told_number c.hold_of.result, ← c.well_formed-2.ensures, c.if-well_formed.true))

pub returns-else-well_formed : goal.returns-else-well_formed
unfolding hold_report
returns-else-well_formed c = hold_says _ _ (simp (← c.well_formed-2.ensures, c.if-well_formed.false)) (simp (← c.well_formed-2.ensures, c.if-well_formed.false))
