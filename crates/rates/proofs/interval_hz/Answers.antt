-- `rates::interval_hz` meets its contract.
use native.Mathlib.Omega.{arith}
use mathlib.Core.Path.{refl}
use lib.Dec.{lit<}
use lib.Ieee.{of_bits}
use Rattle.rates.proofs.Quotient.{mul_whole}
use Rattle.rates.proofs.interval_hz.Goals as goal

pub returns : goal.returns
unfolding of_bits
returns c = mul_whole _ 15625 7 c.args.h.0 (refl, refl) (lit< tt) c.requires.0 (omega arith)
