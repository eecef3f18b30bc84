-- What the loop of `plain_bus::transfer_since` keeps.
use Prim.Native.Nat.{◌-◌}
use mathlib.Core.Path.{◌≡◌}
use lib.ListN.{length}
use Rattle.plain_bus.specs.Plain.{rises_since, levels_at}
use Rattle.plain_bus.specs.Reading.{transfer_of}
use Rattle.plain_bus.proofs.Transfers.{followed, levels_from}
use Rattle.plain_bus.proofs.transfer_since.Given as goal

abbrev pub invariant-loop-i : goal.invariant-loop-i
invariant-loop-i l = transfer_of (levels_at l.changes (rises_since l.changes l.start)) ≡ followed l.t (levels_from l.changes l.i (length l.changes - l.i))
