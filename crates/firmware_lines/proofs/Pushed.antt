-- Bit 5 of a pushed P is set.
-- Assumes nothing.
use Prim.Native.Nat.{◌≤◌}
use mathlib.Core.Bool.{false}
use native.Mathlib.Omega.{arith}
use Rattle.cpu_arithmetic.specs.declared.Flags.{Flags}
use Rattle.cpu_operations.specs.Operations.{pushed_p}

pub pushed_32 : (f : Flags) → 32 ≤ pushed_p f false
unfolding pushed_p
pushed_32 f = omega arith
