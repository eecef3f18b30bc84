-- `vcd_body::Reader::pass_run` meets its contract.
-- Assumes nothing.
use mathlib.Core.Path.{◌≡◌}
use Prim.Native.Nat.{◌<◌}
use native.Mathlib.Omega.{arith}
use Rattle.vcd_body.proofs.Reader.pass_run.Goals as goal

pub run_from-requires : goal.run_from-requires
run_from-requires c =
    let some : 0 < c.args.self.now.scale = omega (arith, c.if-self-eq0.false) in
    record { tables = c.requires; scale_nonzero = some; mode_value = c.is_plain.ensures c.if-is_plain.true }

pub returns-then-is_plain : goal.returns-then-is_plain
returns-then-is_plain c =
    let none : c.args.done ≡ 0 = omega (arith, c.if-done-gt0.false) in rw none c.run_from.ensures
