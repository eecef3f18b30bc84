-- `rates_capi::hertz` meets its contract.
use Rattle.rates_capi.specs.Latches.{hertz}
use Rattle.rates_capi.proofs.Zero.{or_zero}
use Rattle.rates_capi.proofs.hertz.Goals as goal

pub returns-in-Ok : goal.returns-in-Ok
unfolding hertz
returns-in-Ok c = simp (c.hertz.ensures, c.in-Ok.is)

pub returns-in-Err : goal.returns-in-Err
returns-in-Err c = rw c.in-Err.is (or_zero _)
