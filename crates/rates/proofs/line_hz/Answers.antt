-- `rates::line_hz` meets its contract.
use native.Mathlib.Omega.{arith}
use Prim.Native.Nat.{◌*◌}
use Rattle.rates.proofs.Quotient.{div_whole}
use Rattle.rates.proofs.line_hz.Goals as goal

pub returns : goal.returns
returns c = div_whole _ (c.args.h.0 * 125000) c.args.v.0 c.lines_product.ensures (omega arith) c.requires.2 (omega arith)
