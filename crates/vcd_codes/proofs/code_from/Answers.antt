-- `vcd_codes::code_from` meets its contract.
-- Assumes nothing.
use Prim.Native.Nat.{◌*◌}
use Rattle.vcd_codes.proofs.Finding.{past_table}
use native.Mathlib.Omega.{arith}
use Rattle.vcd_codes.proofs.code_from.Goals as goal

pub returns-else-k-places : goal.returns-else-k-places
returns-else-k-places c = past_table c.args.places.now (c.args.k * 2) (omega arith)
