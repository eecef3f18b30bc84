-- `chip_address_match::called_by` meets its contract.
-- Assumes nothing.
use Rattle.chip_address_match.specs.AddressOutcome.{outcome_report}
use Rattle.chip_address_match.proofs.Cases.{outcome_says}
use Rattle.chip_address_match.proofs.called_by.Goals as goal

pub returns-then-well_formed : goal.returns-then-well_formed
unfolding outcome_report
returns-then-well_formed c = outcome_says _ _ (simp (c.outcome_of.ensures, c.compared_in.ensures, ← c.well_formed-2.ensures, c.if-well_formed.true)) (simp (← c.well_formed-2.ensures, c.if-well_formed.true))

pub returns-else-well_formed : goal.returns-else-well_formed
unfolding outcome_report
returns-else-well_formed c = outcome_says _ _ (simp (← c.well_formed-2.ensures, c.if-well_formed.false)) (simp (← c.well_formed-2.ensures, c.if-well_formed.false))
