-- `state_bytes::sync_of` meets its contract.
-- Assumes nothing.
use Rattle.state_bytes.proofs.sync_of.Goals as goal

pub returns : goal.returns
returns c = simp (c.word-5.ensures, c.word-4.ensures, c.word-3.ensures, c.word-2.ensures, c.word.ensures)
