-- What the loop of `vcd::read_header` keeps.
use Prim.Native.Nat.{◌-◌}
use mathlib.Core.Bool.{false}
use lib.ListN.{length, drop}
use Rattle.vcd_text.specs.Token.{tokens}
use Rattle.vcd_codes.specs.Codes.{variables}
use Rattle.vcd.specs.Header.{heading, header, header_of}
use mathlib.Core.Path.{◌≡◌}
use Rattle.vcd.proofs.read_header.Given as goal

abbrev pub invariant-loop-at : goal.invariant-loop-at
invariant-loop-at l = (length l.places ≡ 64) × (length l.pins ≡ 32) × (header l.text (heading l.h (variables l.text l.places l.pins 0 l.h.entries)) (tokens false l.at (drop l.at l.text)) ≡ header_of l.text)

abbrev pub decreases-loop-at : goal.decreases-loop-at
decreases-loop-at l = length l.text - l.at
