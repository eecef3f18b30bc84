-- What the loop of `firmware_event_list::next_event` keeps: what is found from here is what is found from the start.
use mathlib.Core.Path.{◌≡◌}
use lib.ListN.{length, drop}
use Prim.Native.Nat.{◌≤◌, max}
use Rattle.firmware_event_list.specs.Lists.{found_on}
use Rattle.firmware_event_list.proofs.next_event.Given as goal

abbrev pub invariant-loop-i : goal.invariant-loop-i
invariant-loop-i l = (l.i ≤ max l.from (length l.bytes)) × (found_on l.reader l.i (drop l.i l.bytes) ≡ found_on l.initial.reader l.from (drop l.from l.bytes))
