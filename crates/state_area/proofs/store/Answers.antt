-- `state_area::store` meets its contract.
-- Assumes nothing.
use mathlib.Core.Path.{refl}
use borrow.Author.Tests.{eq-eqb, ne_eqb}
use Rattle.state_area.specs.Area.{put_in, store_left}
use Rattle.state_area.proofs.store.Goals as goal

pub returns-then-area-ne128 : goal.returns-then-area-ne128
unfolding store_left
returns-then-area-ne128 c = simp (ne_eqb _ _ c.if-area-ne128.true) (refl, refl)

pub returns-then-well_formed : goal.returns-then-well_formed
unfolding put_in store_left
returns-then-well_formed c = simp (c.put.ensures, ← c.well_formed-else-area-ne128.ensures, c.if-well_formed.true, eq-eqb _ _ c.if-area-ne128.false) (refl, refl)

pub returns-else-well_formed : goal.returns-else-well_formed
unfolding store_left
returns-else-well_formed c = simp (← c.well_formed-else-area-ne128.ensures, c.if-well_formed.false, eq-eqb _ _ c.if-area-ne128.false) (refl, refl)
