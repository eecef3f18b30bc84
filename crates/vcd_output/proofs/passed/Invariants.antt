-- What the loop of `vcd_output::passed` keeps.
use Prim.Native.Nat.{◌-◌, ◌≤◌}
use mathlib.Core.Bool.{Bool}
use lib.ListN.{drop}
use Rattle.vcd_output.specs.Room.{pin_words}
use mathlib.Core.Path.{◌≡◌}
use Rattle.vcd_output.proofs.passed.Given as goal

abbrev pub invariant-loop-i : goal.invariant-loop-i
invariant-loop-i l = (l.i ≤ l.done) × ((high : Bool) → drop (l.done - l.i) (pin_words (4 - l.i) l.rest high) ≡ drop l.done (pin_words 4 l.list high))
