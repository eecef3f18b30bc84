-- `state_area::load` meets its contract.
-- Assumes nothing.
use borrow.Author.Tests.{eq-eqb, ne_eqb}
use Rattle.state_area.specs.Area.{loaded}
use Rattle.state_area.proofs.load.Goals as goal

pub returns-in-Some : goal.returns-in-Some
unfolding loaded
returns-in-Some c =
    let whole = c.in-Some.ensures.cases in
    simp (c.read_as.ensures, whole.same, eq-eqb _ _ whole.long)

pub returns-in-None : goal.returns-in-None
unfolding loaded
returns-in-None c = simp (ne_eqb _ _ c.in-None.ensures.cases)
