-- `recording_parts::read_blocks` meets its contract.
-- Assumes nothing.
use Rattle.recording_parts.proofs.Room.{too_few, enough}
use Rattle.recording_parts.proofs.read_blocks.Goals as goal

pub returns-then-words-bytes : goal.returns-then-words-bytes
returns-then-words-bytes c = too_few _ _ _ c.if-words-bytes.true

pub returns : goal.returns
returns c = enough _ _ _ _ _ c.if-words-bytes.false c.read_all.ensures
