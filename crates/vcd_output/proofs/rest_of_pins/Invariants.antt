-- What the loop of `vcd_output::rest_of_pins` keeps.
use Prim.Native.Nat.{◌-◌}
use lib.ListN.{length}
use Rattle.vcd_output.specs.Room.{put, pin_words}
use mathlib.Core.Path.{◌≡◌}
use Rattle.vcd_output.proofs.rest_of_pins.Given as goal

abbrev pub invariant-loop-given : goal.invariant-loop-given
invariant-loop-given l = (length l.out ≡ length l.initial.out) × (put (pin_words (4 - l.given) l.rest l.high) l.out l.count l.given ≡ put (pin_words (4 - l.done) l.list l.high) l.initial.out l.from l.done)
