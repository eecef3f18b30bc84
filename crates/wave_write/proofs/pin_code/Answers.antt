-- `wave_write::pin_code` meets its contract.
-- Assumes nothing.
use native.Mathlib.Omega.{arith}
use Rattle.wave_write.proofs.Laws.{pin_range}
use Rattle.wave_write.proofs.pin_code.Goals as goal

pub overflow_sub-result : goal.overflow_sub-result
overflow_sub-result c = omega (arith, (pin_range c.args.word c.requires).low)

pub overflow_cast-result : goal.overflow_cast-result
overflow_cast-result c =
    let r = pin_range c.args.word c.requires in record { fits = omega (arith, r.low, r.high) }

pub overflow_add-result : goal.overflow_add-result
overflow_add-result c =
    let r = pin_range c.args.word c.requires in record { fits = omega (arith, r.low, r.high) }
