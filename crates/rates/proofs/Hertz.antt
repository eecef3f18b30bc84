-- The rates are within their bounds, and exact where document 01 has them exact.
use Prim.Native.Nat.{ℕ, ◌*◌, ◌≤◌, ◌<◌}
use mathlib.Core.Path.{refl}
use native.Mathlib.Omega.{arith}
use lib.Dec.{lit<}
use lib.Ieee.{binary64, round, of_int}
use lib.Ieee.Order.{round_mono}
use Rattle.sync.specs.declared.LatchedLines.{LatchedLines}
use Rattle.sync.specs.declared.LatchedPeriods.{LatchedPeriods}
use Rattle.rates.specs.Hertz.{Exactly, Between, field_hz, interval_hz}
use Rattle.rates.proofs.Quotient.{dyadic_exact}

-- rounding keeps the order: the field rate is at least any whole number that 125,000 by the latch reaches, and at most 125,000
pub field_between : (low : ℕ) (v : LatchedPeriods) → 1 ≤ v.0 → low * v.0 ≤ 125000 → Between low 125000 (field_hz v)
unfolding of_int
field_between low v least most = (
  round_mono binary64 low 1 125000 v.0 (lit< tt) least (omega arith),
  round_mono binary64 125000 v.0 125000 1 least (lit< tt) (omega arith),
)

-- the line rate at HSEL 0 loses nothing
pub interval_exact : (h : LatchedLines) → h.0 < 4096 → Exactly (interval_hz h) (h.0 * 15625) 128
interval_exact h most = dyadic_exact (h.0 * 15625) 7 1067 refl (omega arith)

-- a VCNT latch of 2000 is 62.5 Hz
pub field_at_2000 : Exactly (field_hz (record { 0 = 2000 })) 625 10
unfolding round
field_at_2000 = (refl, refl)

-- an HCNT latch of 256 over the interval is 31,250 Hz
pub interval_at_256 : Exactly (interval_hz (record { 0 = 256 })) 31250 1
unfolding round
interval_at_256 = (refl, refl)
