-- `vcd_codes::code_of` meets its contract.
-- Assumes nothing.
use Rattle.std.proofs.Common.{refl}
use Rattle.vcd_codes.proofs.Finding.{clipped}
use Rattle.vcd_codes.proofs.code_of.Goals as goal

pub returns : goal.returns
returns c = rw (c.min-from.ensures, c.code_from.ensures, c.min-to.ensures, c.code_to.ensures) (rw clipped refl)
