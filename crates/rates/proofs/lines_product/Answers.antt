-- `rates::lines_product` meets its contract.
use native.Mathlib.Omega.{arith}
use mathlib.Core.Path.{refl}
use lib.Dec.{lit<}
use lib.Ieee.{of_bits}
use Rattle.rates.proofs.Quotient.{mul_whole_exact}
use Rattle.rates.proofs.lines_product.Goals as goal

pub returns : goal.returns
unfolding of_bits
returns c = mul_whole_exact _ 125000 0 c.args.h.0 1074 (refl, refl) (lit< tt) c.requires.0 (omega arith) refl (omega arith)
