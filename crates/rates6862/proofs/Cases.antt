-- What the case of a report says holds of the state; the field rate lies between 7 and 125,000 Hz, on the NT6861 between 30 and 125,000.
-- Assumes nothing.
use Prim.Native.Nat.{ℕ, ◌*◌, ◌≤◌}
use mathlib.Core.Path.{◌≡◌, refl}
use mathlib.Core.Bool.{Bool, true, false}
use Rattle.std.specs.Prelude.{Result, Ok, Err}
use native.Mathlib.Omega.{arith}
use Rattle.bits.specs.Byte.{pick}
use Rattle.sync6862.specs.declared.Part.{Part}
use Rattle.sync6862.specs.declared.Part.TheVariants.{Nt6861, Nt6862}
use Rattle.sync6862.specs.declared.Counters.{Counters}
use Rattle.sync6862.specs.Unit.{periods_last, well_formed}
use Rattle.sync6862.proofs.WellFormed.{within}
use lib.Ieee.{Float}
use Rattle.rates.specs.Hertz.{Between, field_hz}
use Rattle.rates.specs.Report.{by_periods, rate_number}
use Rattle.rates.specs.declared.NoRate.{NoRate}
use Rattle.rates.specs.declared.NoRate.TheVariants.{IllFormed}
use Rattle.rates.specs.declared.Rate.{Rate}
use Rattle.rates.specs.declared.Rate.TheVariants.{FieldRate}
use Rattle.rates.proofs.Hertz.{field_between}
use Rattle.rates.proofs.Cases.{positive, told_case}
use Rattle.rates6862.specs.Report.{field_report, lowest, FieldValues, number_at, FieldCase}

-- the lowest rate times the largest latch is no more than 125,000
lowest_reached : (part : Part) (latch : ℕ) → latch ≤ periods_last part → lowest part * latch ≤ 125000
unfolding lowest periods_last
lowest_reached Nt6861 latch h = omega arith
lowest_reached (Nt6862 enhsel) latch h = omega arith

latch_within : (s : Counters) → well_formed s ≡ true → s.sync.periods.latch.0 ≤ periods_last s.part
unfolding well_formed
latch_within s w = (within _ _ s.sync w).periods.latch

field_told : (s : Counters) → well_formed s ≡ true → FieldValues s (by_periods s.sync.periods)
unfolding FieldValues by_periods
field_told s w =
    told_case (FieldValues s) _ _ _ (λ e. (w, e)) (λ o k. (w, o, k))
    (λ o k.
    ((w, o, k), refl, field_between (lowest s.part) s.sync.periods.latch (positive _ k) (lowest_reached s.part _ (latch_within s w))))

field_by : (s : Counters) (formed : Bool) → well_formed s ≡ formed → FieldValues s (pick formed (by_periods s.sync.periods) (Err IllFormed))
unfolding FieldValues
field_by s true e = field_told s e
field_by s false e = e

pub field_case : (s : Counters) → FieldValues s (field_report s)
unfolding field_report
field_case s = field_by s (well_formed s) refl

-- a rate that is the report, with its number and what its case says
pub field_says : (s : Counters) (r : Result Rate NoRate) → r ≡ field_report s → rate_number r ≡ number_at s → (r ≡ field_report s) × FieldCase s r
field_says s r e n = (e, record { number = n; values = rw e (field_case s) })

-- a rate that is reported is 125,000 divided by the latch, rounded once, and lies between the chip's lowest and 125,000
pub rate_between : (s : Counters) (x : Float) → field_report s ≡ Ok (FieldRate x) → (x ≡ field_hz s.sync.periods.latch) × Between (lowest s.part) 125000 x
unfolding FieldValues
rate_between s x e = let c : FieldValues s (Ok (FieldRate x)) = rw e at (field_case s) in (c.1, c.2)
