-- `rates::field_hz` meets its contract.
use native.Mathlib.Omega.{arith}
use mathlib.Core.Path.{refl}
use lib.Dec.{lit<}
use lib.Ieee.{of_bits}
use Rattle.rates.proofs.Quotient.{div_whole}
use Rattle.rates.proofs.field_hz.Goals as goal

pub returns : goal.returns
unfolding of_bits
returns c = div_whole _ 125000 c.args.v.0 (refl, refl) (lit< tt) c.requires (omega arith)
