-- What the loop of `vcd_body::Reader::read_tokens` keeps.
use Prim.Native.Nat.{◌-◌}
use mathlib.Core.Bool.{false}
use lib.ListN.{length, drop}
use Rattle.vcd_text.specs.Token.{tokens}
use Rattle.vcd_body.specs.Reader.{look}
use Rattle.vcd_body.specs.Pieces.{pieces}
use mathlib.Core.Path.{◌≡◌}
use Rattle.vcd_body.proofs.Reader.read_tokens.Given as goal

abbrev pub invariant-loop-at : goal.invariant-loop-at
invariant-loop-at l = (length l.out ≡ length l.initial.out) × (pieces (look l.self) l.self.scale l.s l.done l.count l.out (tokens false l.at (drop l.at l.self.text.now)) ≡ pieces (look l.self) l.self.scale l.initial.s l.initial.done 0 l.initial.out (tokens false l.initial.at (drop l.initial.at l.self.text.now)))

abbrev pub decreases-loop-at : goal.decreases-loop-at
decreases-loop-at l = length l.self.text.now - l.at
