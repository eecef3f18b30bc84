-- `state_area::read_as` meets its contract.
-- Assumes nothing.
use Rattle.state_area.specs.Area.{accepted}
use Rattle.state_area.proofs.read_as.Goals as goal
use Rattle.state_area.proofs.read_as.Goals.{else-eq-via-then-eq+else-well_formed, else-eq-via-else-eq}

pub returns-then-well_formed : goal.returns-then-well_formed
unfolding accepted
returns-then-well_formed c = simp (← c.well_formed-then-eq.ensures, c.if-well_formed.true, ← c.bytes_of.ensures, ← c.eq.ensures, c.if-eq.true, ← c.state_of-c.ensures)

pub returns-else-eq : goal.returns-else-eq
unfolding accepted
returns-else-eq c = elim c.else-eq.branch [
  | else-eq-via-then-eq+else-well_formed w ↦ simp (← w.well_formed-then-eq.ensures, w.if-well_formed.false, ← c.bytes_of.ensures, ← c.eq.ensures, w.if-eq.true, ← c.state_of-c.ensures)
  | else-eq-via-else-eq w ↦ simp (← c.bytes_of.ensures, ← c.eq.ensures, w.if-eq.false, ← c.state_of-c.ensures)
]
