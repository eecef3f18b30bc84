-- `firmware_steps::power_up` meets its contract.
-- Assumes nothing.
use Rattle.firmware_steps.specs.Steps.{power_up}
use borrow.Author.Rules.{rules}
use Rattle.firmware_steps.proofs.power_up.Goals as goal

pub reset-requires : goal.reset-requires
unfolding power_up
reset-requires c = search rules

pub returns : goal.returns
unfolding power_up
returns c = simp c.reset.ensures
