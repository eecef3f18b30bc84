-- The rate report (document 01, "Counting sync"): which case is told, and what each case says.
use Rattle.std.specs.Prelude.{ℕ, ◌*◌, ◌≡◌, Bool, true, false, ◌||◌, eqb, Float, Result, Ok, Err}
use Rattle.bits.specs.Byte.{pick}
use Rattle.sync.specs.Sync.{well_sync}
use Rattle.sync.specs.declared.LineCounter.{LineCounter}
use Rattle.sync.specs.declared.PeriodCounter.{PeriodCounter}
use Rattle.sync.specs.declared.Sync.{Sync}
use Rattle.rates.specs.Hertz.{Exactly, Between, field_hz, interval_hz, line_hz}
use Rattle.rates.specs.declared.NoRate.{NoRate}
use Rattle.rates.specs.declared.NoRate.TheVariants.{IllFormed, NothingLatched, Overflow}
use Rattle.rates.specs.declared.Rate.{Rate}
use Rattle.rates.specs.declared.Rate.TheVariants.{FieldRate, LineRate}

-- a rate in Hz, of fields or of lines
abbrev pub in_hertz : Rate → Float
in_hertz (FieldRate x) = x
in_hertz (LineRate x) = x

-- an overflow is told before a latch of 0, and that before a rate
abbrev pub told : {A : Type 0} → Bool → Bool → A → Result A NoRate
told overflow unlatched rate = pick overflow (Err Overflow) (pick unlatched (Err NothingLatched) (Ok rate))

-- the field rate needs VCNT
unfoldable pub by_periods : PeriodCounter → Result Rate NoRate
by_periods v = told v.overflow (eqb v.latch.0 0) (FieldRate (field_hz v.latch))

-- the line rate at HSEL 0 needs HCNT
unfoldable pub by_interval : LineCounter → Result Rate NoRate
by_interval h = told h.overflow (eqb h.latch.0 0) (LineRate (interval_hz h.latch))

-- the line rate at HSEL 1 needs both counters
unfoldable pub by_field : LineCounter → PeriodCounter → Result Rate NoRate
by_field h v = told (h.overflow || v.overflow) (eqb h.latch.0 0 || eqb v.latch.0 0) (LineRate (line_hz h.latch v.latch))

-- an ill formed state is told before all else
unfoldable pub field_report : Sync → Result Rate NoRate
field_report s = pick (well_sync s) (by_periods s.periods) (Err IllFormed)

unfoldable pub line_report : Sync → Bool → Result Rate NoRate
line_report s hsel = pick (well_sync s) (pick hsel (by_field s.lines s.periods) (by_interval s.lines)) (Err IllFormed)

-- the number of a report (document 01, "Numbers"): an ill formed state is 8, and nothing else is refused
unfoldable pub rate_number : Result Rate NoRate → ℕ
rate_number (Err IllFormed) = 8
rate_number (Err NothingLatched) = 0
rate_number (Err Overflow) = 0
rate_number (Ok rate) = 0

-- ---- what the cases say: each what it is told for, and that nothing told before it holds; and the number that it is told with

-- of the field rate from VCNT, which is told of every counter
unfoldable pub PeriodsValues : PeriodCounter → Result Rate NoRate → Type 0
PeriodsValues v (Err IllFormed) = ⊥
PeriodsValues v (Err Overflow) = v.overflow ≡ true
PeriodsValues v (Err NothingLatched) = (v.overflow ≡ false) × (eqb v.latch.0 0 ≡ true)
PeriodsValues v (Ok (FieldRate x)) = (v.overflow ≡ false) × (eqb v.latch.0 0 ≡ false) × (x ≡ field_hz v.latch)
PeriodsValues v (Ok (LineRate x)) = ⊥

pub record PeriodsCase (v : PeriodCounter) (r : Result Rate NoRate) : Type 0 where
  pub number : rate_number r ≡ 0
  pub values : PeriodsValues v r

-- of a report on a state of the counters
abbrev pub SaysOverflow : Sync → Bool → Type 0
SaysOverflow s overflow = (well_sync s ≡ true) × (overflow ≡ true)

abbrev pub SaysNothingLatched : Sync → Bool → Bool → Type 0
SaysNothingLatched s overflow unlatched = (well_sync s ≡ true) × (overflow ≡ false) × (unlatched ≡ true)

abbrev pub SaysRate : Sync → Bool → Bool → Type 0
SaysRate s overflow unlatched = (well_sync s ≡ true) × (overflow ≡ false) × (unlatched ≡ false)

-- of a field report
unfoldable pub FieldValues : Sync → Result Rate NoRate → Type 0
FieldValues s (Err IllFormed) = well_sync s ≡ false
FieldValues s (Err Overflow) = SaysOverflow s s.periods.overflow
FieldValues s (Err NothingLatched) = SaysNothingLatched s s.periods.overflow (eqb s.periods.latch.0 0)
FieldValues s (Ok (FieldRate x)) = SaysRate s s.periods.overflow (eqb s.periods.latch.0 0) × (x ≡ field_hz s.periods.latch) × Between 30 125000 x
FieldValues s (Ok (LineRate x)) = ⊥

pub record FieldCase (s : Sync) (r : Result Rate NoRate) : Type 0 where
  pub number : rate_number r ≡ pick (well_sync s) 0 8
  pub values : FieldValues s r

-- the overflow bits and the latches that a line report needs: those of VCNT at HSEL 1 only
abbrev pub line_overflow : Sync → Bool → Bool
line_overflow s hsel = s.lines.overflow || pick hsel s.periods.overflow false

abbrev pub line_unlatched : Sync → Bool → Bool
line_unlatched s hsel = eqb s.lines.latch.0 0 || pick hsel (eqb s.periods.latch.0 0) false

-- of a line report
unfoldable pub LineValues : Sync → Bool → Result Rate NoRate → Type 0
LineValues s hsel (Err IllFormed) = well_sync s ≡ false
LineValues s hsel (Err Overflow) = SaysOverflow s (line_overflow s hsel)
LineValues s hsel (Err NothingLatched) = SaysNothingLatched s (line_overflow s hsel) (line_unlatched s hsel)
LineValues s true (Ok (LineRate x)) = SaysRate s (line_overflow s true) (line_unlatched s true) × (x ≡ line_hz s.lines.latch s.periods.latch)
LineValues s false (Ok (LineRate x)) = SaysRate s (line_overflow s false) (line_unlatched s false) × Exactly x (s.lines.latch.0 * 15625) 128
LineValues s hsel (Ok (FieldRate x)) = ⊥

pub record LineCase (s : Sync) (hsel : Bool) (r : Result Rate NoRate) : Type 0 where
  pub number : rate_number r ≡ pick (well_sync s) 0 8
  pub values : LineValues s hsel r
