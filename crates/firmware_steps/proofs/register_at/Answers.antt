-- `firmware_steps::register_at` meets its contract.
-- Assumes nothing.
use Rattle.firmware_steps.proofs.register_at.Goals as goal

pub returns : goal.returns
returns c = simp (c.register_read.ensures, c.read_register.ensures)
