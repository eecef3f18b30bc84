-- `state_calls::stepped` meets its contract.
-- Assumes nothing.
use Rattle.state_calls.proofs.Opened.{one_word}
use Rattle.state_calls.proofs.stepped.Goals as goal

pub returns : goal.returns
returns c = simp (c.advance_all-done.ensures.0, c.advance_all-done.ensures.1) (one_word _ c.requires _)
