-- What the loop of `numbers6862::clocks` keeps.
use mathlib.Core.Path.{◌≡◌}
use Prim.Native.Nat.{◌-◌}
use Rattle.sync6862_laws.specs.Counting.{run, clocks}
use Rattle.numbers6862.proofs.clocks.Given as goal

abbrev pub invariant-loop : goal.invariant-loop
invariant-loop l = run l.s (clocks (l.n - l.counter)) ≡ run l.initial.s (clocks l.n)
