-- What the loop of `case_run::repeated` keeps: what is left of the times, from here, comes to what the whole comes to.
use mathlib.Core.Path.{◌≡◌}
use Prim.Native.Nat.{◌-◌}
use Rattle.case_run.specs.Run.{repeated}
use Rattle.case_run.proofs.repeated.Given as goal

abbrev pub invariant-loop-i : goal.invariant-loop-i
invariant-loop-i l = repeated (l.times - l._i) l.p l.word l.expected ≡ repeated l.times l.initial.p l.word l.expected
