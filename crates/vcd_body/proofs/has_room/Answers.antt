-- `vcd_body::has_room` meets its contract.
-- Assumes nothing.
use Prim.Native.Nat.{◌-◌}
use native.Mathlib.Omega.{arith}
use borrow.Author.Tests.{leb-true, eqb-true}
use Rattle.vcd_body.proofs.has_room.Goals as goal

pub returns-then-count-room : goal.returns-then-count-room
returns-then-count-room c = λ e l. omega (arith, leb-true c.args.n (c.args.room - c.args.count) e)

pub returns : goal.returns
returns c = λ e l. absurd (omega (arith, eqb-true c.args.n 0 e))
