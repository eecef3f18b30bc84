-- `events::decode` meets its contract: what the fields say of a word that is not met first.
use Rattle.events.proofs.EventWord.{decode_case}
use Rattle.events.proofs.decode.Goals as goal

pub returns-in_default : goal.returns-in_default
returns-in_default c = decode_case _ _ c.by_fields.ensures
