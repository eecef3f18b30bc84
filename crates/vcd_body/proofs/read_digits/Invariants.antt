-- What the loop of `vcd_body::read_digits` keeps.
use Rattle.std.specs.Prelude.{Ok}
use mathlib.Core.Path.{◌≡◌}
use Prim.Native.Nat.{◌+◌, ◌≤◌}
use lib.ListN.{length, take, drop}
use Rattle.vcd_text.specs.Token.{word_length, digits_from}
use Rattle.vcd_body.proofs.read_digits.Given as goal

abbrev pub invariant-loop-i : goal.invariant-loop-i
invariant-loop-i l = (l.from ≤ l.i) × (l.i ≤ length l.text) × (l.i + word_length (drop l.i l.text) ≡ l.from + word_length (drop l.from l.text)) × (digits_from (Ok l.v) (take (word_length (drop l.i l.text)) (drop l.i l.text)) ≡ digits_from (Ok 0) (take (word_length (drop l.from l.text)) (drop l.from l.text)))
