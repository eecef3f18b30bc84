-- `vcd_output::clocks` meets its contract.
-- Assumes nothing.
use lib.ListN.{length-set}
use Rattle.vcd_output.proofs.Writing.{clock_more, clock_full, clock_end}
use mathlib.Core.Path.{refl, ◌∙◌}
use borrow.Author.Rules.{rules}
use Rattle.vcd_output.proofs.clocks.Goals as goal

pub loop-given-init : goal.loop-given-init
loop-given-init c = (refl, refl)

pub loop-given-preserved : goal.loop-given-preserved
loop-given-preserved c = (simp length-set c.loop-given.invariant.0, clock_more _ c.loop-given.given c.loop-given.count c.loop-given.out (search rules) (search rules) ∙ c.loop-given.invariant.1)

pub returns-else-count-out : goal.returns-else-count-out
returns-else-count-out c = clock_full _ c.loop-given.given c.loop-given.count _ (search rules) (search rules) ∙ c.loop-given.invariant.1

pub returns : goal.returns
returns c = clock_end _ c.loop-given.given c.loop-given.count _ (search rules) ∙ c.loop-given.invariant.1
