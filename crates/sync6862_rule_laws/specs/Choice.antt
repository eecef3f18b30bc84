-- Calls that change how HCNT is counted (document 02, Wish 6; document 001, 13.1).
use Rattle.std.specs.Prelude.{Bool, false}
use Rattle.sync6862.specs.declared.Counters.{Counters}
use Rattle.sync6862.specs.declared.Call.{Call}
use Rattle.sync6862.specs.declared.Call.TheVariants.{Hsynci, Vsynci, Clock, Enhsel, Hsel, ClearH, ClearV}
use Rattle.sync6862.specs.Unit.{differs}
use Rattle.sync6862_laws.specs.Counting.{changes_enhsel}

-- ENHSEL or HSEL is put to another value
unfoldable pub changes_choice : Counters → Call → Bool
changes_choice s (Hsynci level) = false
changes_choice s (Vsynci level) = false
changes_choice s Clock = false
changes_choice s (Enhsel new) = changes_enhsel s.part new
changes_choice s (Hsel new) = differs s.hsel new
changes_choice s ClearH = false
changes_choice s ClearV = false
