-- What the loop of `plain_bus::list` keeps.
use Prim.Native.Nat.{◌≤◌}
use Rattle.plain_bus.specs.Plain.{addresses}
use Rattle.plain_bus.proofs.Places.{left, Listing}
use Rattle.plain_bus.proofs.list.Given as goal

abbrev pub invariant-loop-i : goal.invariant-loop-i
invariant-loop-i l = (l.n ≤ l.i) × Listing (addresses l.own l.changes) l.initial.places l.places l.n (left l.own l.changes l.i)
