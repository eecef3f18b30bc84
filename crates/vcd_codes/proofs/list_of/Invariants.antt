-- What the loop of `vcd_codes::list_of` keeps.
use Prim.Native.Nat.{◌-◌}
use Rattle.vcd_codes.specs.Codes.{variables, find, meant}
use mathlib.Core.Path.{◌≡◌}
use Rattle.vcd_codes.proofs.list_of.Given as goal

abbrev pub invariant-loop-k : goal.invariant-loop-k
invariant-loop-k l = meant l.list ≡ find (variables l.text l.places l.pins l.k (l.entries - l.k)) l.code
