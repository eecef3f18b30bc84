-- What the loop of `plain_bus::count` keeps.
use Prim.Native.Nat.{◌+◌, ◌≤◌}
use mathlib.Core.Path.{◌≡◌}
use lib.ListN.{length}
use Rattle.plain_bus.specs.Plain.{addresses}
use Rattle.plain_bus.proofs.Places.{left}
use Rattle.plain_bus.proofs.count.Given as goal

abbrev pub invariant-loop-i : goal.invariant-loop-i
invariant-loop-i l = (l.n ≤ l.i) × (l.n + length (left l.own l.changes l.i) ≡ length (addresses l.own l.changes))
