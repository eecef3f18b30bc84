-- What the loop of `vcd_output::clocks` keeps.
use Prim.Native.Nat.{◌-◌}
use lib.ListN.{length, replicate}
use Rattle.vcd_output.specs.Room.{put, clock_word}
use mathlib.Core.Path.{◌≡◌}
use Rattle.vcd_output.proofs.clocks.Given as goal

abbrev pub invariant-loop-given : goal.invariant-loop-given
invariant-loop-given l = (length l.out ≡ length l.initial.out) × (put (replicate (l.due - l.given) clock_word) l.out l.count l.given ≡ put (replicate (l.due - l.done) clock_word) l.initial.out l.from l.done)
