-- `wave_write::change` meets its contract.
-- Assumes nothing.
use Rattle.wave_write.proofs.change.Goals as goal

pub returns : goal.returns
returns c = rw (← c.level_digit.ensures) c.three_bytes.ensures
