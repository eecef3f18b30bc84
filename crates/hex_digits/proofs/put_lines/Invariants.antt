-- What the loop of `hex_digits::put_lines` keeps.
use mathlib.Core.Path.{◌≡◌}
use mathlib.Core.List.{◌++◌}
use Prim.Native.Nat.{◌*◌}
use lib.ListN.{take, drop}
use Rattle.hex_digits.specs.Hex.{hex_lines}
use Rattle.hex_digits.proofs.put_lines.Given as goal

abbrev pub invariant-loop-i : goal.invariant-loop-i
invariant-loop-i l = l.text ≡ hex_lines (take l.i l.fitting) ++ drop (9 * l.i) l.initial.text
