-- `list_call::run` meets its contract.
-- Assumes nothing.
use mathlib.Core.Path.{refl}
use borrow.Author.Rules.{rules}
use Rattle.list_call.specs.Run.{run, run_answers}
use Rattle.list_call.proofs.run.Goals as goal

pub well_formed-requires : goal.well_formed-requires
unfolding run run_answers
well_formed-requires c = search rules

pub advance_all-requires : goal.advance_all-requires
unfolding run run_answers
advance_all-requires c = search rules

pub returns-then-well_formed : goal.returns-then-well_formed
unfolding run run_answers
returns-then-well_formed c = simp (← c.well_formed-2.ensures, c.if-well_formed.true)
    c.advance_all.ensures

pub returns-else-well_formed : goal.returns-else-well_formed
unfolding run run_answers
returns-else-well_formed c = simp (← c.well_formed-2.ensures, c.if-well_formed.false) (refl, refl)
