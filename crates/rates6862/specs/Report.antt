-- The field rate of either chip (document 02, Wish 6), in the form of document 01's rate report.
use Rattle.std.specs.Prelude.{ℕ, ◌≡◌, true, false, eqb, Result, Ok, Err}
use Rattle.bits.specs.Byte.{pick}
use Rattle.sync6862.specs.declared.Part.{Part}
use Rattle.sync6862.specs.declared.Part.TheVariants.{Nt6861, Nt6862}
use Rattle.sync6862.specs.declared.Counters.{Counters}
use Rattle.sync6862.specs.Unit.{well_formed}
use Rattle.rates.specs.Hertz.{Between, field_hz}
use Rattle.rates.specs.Report.{by_periods, rate_number}
use Rattle.rates.specs.declared.NoRate.{NoRate}
use Rattle.rates.specs.declared.NoRate.TheVariants.{IllFormed, NothingLatched, Overflow}
use Rattle.rates.specs.declared.Rate.{Rate}
use Rattle.rates.specs.declared.Rate.TheVariants.{FieldRate, LineRate}

-- an ill formed state, then an overflow of VCNT, then a VCNT latch of 0, else 125,000 divided once by that latch
unfoldable pub field_report : Counters → Result Rate NoRate
field_report s = pick (well_formed s) (by_periods s.sync.periods) (Err IllFormed)

-- the whole Hz that no field rate lies under: 125,000 by 4,095 is above 30, by 16,383 above 7
unfoldable pub lowest : Part → ℕ
lowest Nt6861 = 30
lowest (Nt6862 enhsel) = 7

-- what each case says: what it is told for, and that nothing told before it holds
unfoldable pub FieldValues : Counters → Result Rate NoRate → Type 0
FieldValues s (Err IllFormed) = well_formed s ≡ false
FieldValues s (Err Overflow) = (well_formed s ≡ true) × (s.sync.periods.overflow ≡ true)
FieldValues s (Err NothingLatched) = (well_formed s ≡ true) × (s.sync.periods.overflow ≡ false) × (eqb s.sync.periods.latch.0 0 ≡ true)
FieldValues s (Ok (FieldRate x)) =
    ((well_formed s ≡ true) × (s.sync.periods.overflow ≡ false) × (eqb s.sync.periods.latch.0 0 ≡ false))
    × (x ≡ field_hz s.sync.periods.latch)
    × Between (lowest s.part) 125000 x
FieldValues s (Ok (LineRate x)) = ⊥

-- the number of a report: 8 where the state is ill formed, and no other
abbrev pub number_at : Counters → ℕ
number_at s = pick (well_formed s) 0 8

-- the number and the values of a case
pub record FieldCase (s : Counters) (r : Result Rate NoRate) : Type 0 where
  pub number : rate_number r ≡ number_at s
  pub values : FieldValues s r
