-- `firmware_steps::push` meets its contract.
-- Assumes nothing.
use Rattle.firmware_steps.proofs.push.Goals as goal

pub returns : goal.returns
returns c = simp c.stack_place-i.ensures.0
