-- The rise that letting SCL go can make is the first of its byte: it moves neither II STS nor II DAT.
-- Assumes nothing.
use Prim.Native.Nat.{ℕ}
use mathlib.Core.Path.{◌≡◌, refl}
use mathlib.Core.Bool.{Bool, true, false}
use Rattle.bus.specs.declared.Comparison.{Comparison}
use Rattle.bus.specs.declared.Comparison.TheVariants.{None, Own}
use Rattle.bus_ddc2b.specs.Ddc2b.{data_at_rise, status_at_rise, phase_let_go}

pub status_first : (k : Comparison) (trx sda : Bool) (byte status : ℕ) → status_at_rise sda (phase_let_go k trx byte) status ≡ status
unfolding status_at_rise phase_let_go
status_first None trx sda byte status = refl
status_first (Own matched) true sda byte status = refl
status_first (Own matched) false sda byte status = refl

pub data_first : (k : Comparison) (trx sda : Bool) (byte stored : ℕ) → data_at_rise sda (phase_let_go k trx byte) stored ≡ stored
unfolding data_at_rise phase_let_go
data_first None trx sda byte stored = refl
data_first (Own matched) true sda byte stored = refl
data_first (Own matched) false sda byte stored = refl
