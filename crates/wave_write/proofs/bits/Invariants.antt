-- What the loop of `wave_write::bits` keeps.
use Prim.Native.Nat.{◌+◌, ◌-◌}
use Rattle.wave_write.proofs.Laws.{Bits}
use Rattle.wave_write.proofs.bits.Given as goal

abbrev pub invariant-loop-i : goal.invariant-loop-i
invariant-loop-i l = Bits l.initial.out l.from l.n l.v l.out l.i (l.from + l.n - l.i) l.x
