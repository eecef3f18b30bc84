-- `recording_writer::words_of` meets its contract.
-- Assumes nothing.
use Rattle.recording_writer.proofs.Room.{too_few, enough}
use Rattle.recording_writer.proofs.words_of.Goals as goal

pub returns-then-words-bytes : goal.returns-then-words-bytes
returns-then-words-bytes c = too_few _ _ c.if-words-bytes.true

pub returns : goal.returns
returns c = enough _ _ _ c.if-words-bytes.false c.read_words.ensures
