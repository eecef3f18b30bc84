-- 0 where a report tells no rate.
use mathlib.Core.Path.{◌≡◌, refl}
use lib.Ieee.{of_bits, round, binary64}
use Rattle.std.proofs.Common.{Err}
use Rattle.rates.specs.declared.NoRate.{NoRate}
use Rattle.rates.specs.declared.NoRate.TheVariants.{IllFormed, NothingLatched, Overflow}
use Rattle.rates_capi.specs.Latches.{hertz}

pub or_zero : (why : NoRate) → of_bits binary64 0 ≡ hertz (Err why)
unfolding hertz of_bits round
or_zero IllFormed = refl
or_zero NothingLatched = refl
or_zero Overflow = refl
