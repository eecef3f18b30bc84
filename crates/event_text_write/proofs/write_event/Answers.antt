-- `event_text_write::write_event` meets its contract.
-- Assumes nothing.
use Rattle.event_text_write.proofs.Three.{as_event}
use Rattle.event_text_write.proofs.write_event.Goals as goal

pub returns : goal.returns
returns c = as_event _ _ _ _ _ c.event_tokens-tokens.ensures c.write_line.ensures
