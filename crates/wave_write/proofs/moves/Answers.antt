-- `wave_write::moves` meets its contract.
-- Assumes nothing.
use borrow.Author.Tests.{eq-eqb, ne_eqb}
use Rattle.wave_write.specs.Lines.{moved}
use Rattle.wave_write.proofs.moves.Goals as goal

pub returns-then-word-eq67108864 : goal.returns-then-word-eq67108864
unfolding moved
returns-then-word-eq67108864 c = simp (c.at_most.ensures.0, eq-eqb _ _ c.if-word-eq67108864.true)

pub returns : goal.returns
unfolding moved
returns c = simp (c.at_most-2.ensures.0, ne_eqb _ _ c.if-word-eq67108864.false)
