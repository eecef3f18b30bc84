-- What a word decodes to (document 01, "Event words" and "Numbers given back"): an event, or why the word is refused.
use Rattle.std.specs.Prelude.{Result}
use Rattle.events.specs.declared.Event.{Event}
use Rattle.events.specs.declared.Refusal.{Refusal}

abbrev pub Decoded : Type 0
Decoded = Result Event Refusal
