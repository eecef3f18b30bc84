-- `case_text::write_answer` meets its contract.
-- Assumes nothing.
use Rattle.case_text.proofs.Joining.{as_answer}
use Rattle.case_text.proofs.write_answer.Goals as goal

pub returns : goal.returns
returns c = as_answer _ _ _ _ _ _ _ c.is_read.ensures c.answer_tokens-tokens.ensures c.write_line.ensures
