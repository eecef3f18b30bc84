-- `case_text::write_case` meets its contract.
-- Assumes nothing.
use Rattle.case_text.proofs.Joining.{as_tokens, as_case}
use Rattle.case_text.proofs.write_case.Goals as goal

pub returns : goal.returns
returns c = as_case _ _ _ _ _ _
    (as_tokens _ _ _ _ _ _ c.event_tokens-e.ensures c.is_read.ensures c.answer_tokens-a.ensures c.joined-tokens.ensures.0)
    c.joined-tokens.ensures.1
    c.write_line.ensures
