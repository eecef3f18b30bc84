-- What the loop of `firmware_event_list::check` keeps: what is left of the block comes to what the whole comes to.
use mathlib.Core.Path.{◌≡◌}
use lib.ListN.{drop}
use Rattle.std.specs.Prelude.{Ok}
use Rattle.firmware_event_list.specs.Lists.{checked_on}
use Rattle.firmware_event_list.proofs.check.Given as goal

abbrev pub invariant-loop-b : goal.invariant-loop-b
invariant-loop-b l = checked_on (Ok l.checked) (drop l.b-index l.bytes) ≡ checked_on (Ok l.initial.checked) l.bytes
