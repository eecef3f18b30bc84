-- What the case of a report says holds of the state reported on.
use Prim.Native.Nat.{ℕ, ◌≤◌}
use mathlib.Core.Path.{◌≡◌, refl, ◌∙◌}
use mathlib.Core.Bool.{Bool, true, false, ◌||◌}
use Rattle.std.proofs.Common.{Result, Ok, Err}
use native.Mathlib.Omega.{arith}
use lib.Dec.{eqb}
use borrow.Author.Tests.{eqb-false}
use Rattle.bits.specs.Byte.{pick}
use Rattle.bits.proofs.Finite.{neither}
use Rattle.sync.specs.Sync.{well_sync}
use Rattle.sync.specs.declared.PeriodCounter.{PeriodCounter}
use Rattle.sync.specs.declared.Sync.{Sync}
use Rattle.sync.proofs.WellFormed.{fits}
use Rattle.rates.specs.Report.{told, by_periods, by_interval, by_field, rate_number, field_report, line_report, PeriodsValues, PeriodsCase, FieldValues, FieldCase, LineValues, LineCase}
use Rattle.rates.specs.declared.NoRate.{NoRate}
use Rattle.rates.specs.declared.NoRate.TheVariants.{IllFormed, NothingLatched, Overflow}
use Rattle.rates.specs.declared.Rate.{Rate}
use Rattle.rates.proofs.Hertz.{field_between, interval_exact}

-- a latch that is not 0
pub positive : (n : ℕ) → eqb n 0 ≡ false → 1 ≤ n
positive n e = let other = eqb-false n 0 e in omega arith

pub both_positive : (m n : ℕ) → (eqb m 0 || eqb n 0) ≡ false → (1 ≤ m) × (1 ≤ n)
both_positive m n e = let none = neither (eqb m 0) (eqb n 0) e in (positive m none.0, positive n none.1)

or_false : (a : Bool) → (a || false) ≡ a
or_false true = refl
or_false false = refl

-- what is told, by the tests in their order
pub told_case : (Says : Result Rate NoRate → Type 0) (overflow unlatched : Bool) (rate : Rate)
    → (overflow ≡ true → Says (Err Overflow)) → (overflow ≡ false → unlatched ≡ true → Says (Err NothingLatched)) → (overflow ≡ false → unlatched ≡ false → Says (Ok rate))
    → Says (told overflow unlatched rate)
told_case Says true unlatched rate over none good = over refl
told_case Says false true rate over none good = none refl refl
told_case Says false false rate over none good = good refl refl

-- a refusal is the same whatever rate it stands for; without one, neither an overflow nor a latch of 0 was told
pub told_err : {A B : Type 0} (overflow unlatched : Bool) (e : NoRate) (a : A) (b : B) → told overflow unlatched a ≡ Err e → told overflow unlatched b ≡ Err e
told_err true unlatched e a b h = grind arith
told_err false true e a b h = grind arith
told_err false false e a b h = grind arith

pub told_ok : {A : Type 0} (overflow unlatched : Bool) (a b : A) → told overflow unlatched a ≡ Ok b → (overflow ≡ false) × (unlatched ≡ false)
told_ok true unlatched a b h = grind arith
told_ok false true a b h = grind arith
told_ok false false a b h = (refl, refl)

-- no state is told ill formed by its latches
pub told_number : (overflow unlatched : Bool) (x : Rate) → rate_number (told overflow unlatched x) ≡ 0
unfolding rate_number
told_number true unlatched x = refl
told_number false true x = refl
told_number false false x = refl

-- ---- the field rate from VCNT

periods_case : (v : PeriodCounter) → PeriodsValues v (by_periods v)
unfolding by_periods PeriodsValues
periods_case v = told_case (PeriodsValues v) _ _ _ (λ o. o) (λ o k. (o, k)) (λ o k. (o, k, refl))

periods_number : (v : PeriodCounter) → rate_number (by_periods v) ≡ 0
unfolding by_periods
periods_number v = told_number _ _ _

pub periods_says : (v : PeriodCounter) (r : Result Rate NoRate) → r ≡ by_periods v → (r ≡ by_periods v) × PeriodsCase v r
periods_says v r e = (e, record { number = rw e (periods_number v); values = rw e (periods_case v) })

-- ---- the field report

field_told : (s : Sync) → well_sync s ≡ true → FieldValues s (by_periods s.periods)
unfolding FieldValues by_periods
field_told s w =
    told_case (FieldValues s) _ _ _ (λ e. (w, e)) (λ o k. (w, o, k))
    (λ o k.
    let least = positive _ k in
    let most = (fits s w).periods.latch in
    ((w, o, k), refl, field_between _ s.periods.latch least (omega arith)))

field_by : (s : Sync) (formed : Bool) → well_sync s ≡ formed → FieldValues s (pick formed (by_periods s.periods) (Err IllFormed))
unfolding FieldValues
field_by s true e = field_told s e
field_by s false e = e

pub field_case : (s : Sync) → FieldValues s (field_report s)
unfolding field_report
field_case s = field_by s (well_sync s) refl

-- ---- the line report

interval_told : (s : Sync) → well_sync s ≡ true → LineValues s false (by_interval s.lines)
unfolding LineValues by_interval
interval_told s w =
    let overflow = or_false s.lines.overflow in
    let unlatched = or_false (eqb s.lines.latch.0 0) in
    told_case (LineValues s false) s.lines.overflow (eqb s.lines.latch.0 0) _ (λ e. (w, overflow ∙ e)) (λ o k. (w, overflow ∙ o, unlatched ∙ k))
    (λ o k. ((w, overflow ∙ o, unlatched ∙ k), interval_exact s.lines.latch (fits s w).lines.latch))

line_told : (s : Sync) → well_sync s ≡ true → LineValues s true (by_field s.lines s.periods)
unfolding LineValues by_field
line_told s w = told_case (LineValues s true) _ _ _ (λ e. (w, e)) (λ o k. (w, o, k)) (λ o k. ((w, o, k), refl))

line_by : (s : Sync) (hsel formed : Bool) → well_sync s ≡ formed → LineValues s hsel (pick formed (pick hsel (by_field s.lines s.periods) (by_interval s.lines)) (Err IllFormed))
unfolding LineValues
line_by s true true e = line_told s e
line_by s false true e = interval_told s e
line_by s hsel false e = e

pub line_case : (s : Sync) (hsel : Bool) → LineValues s hsel (line_report s hsel)
unfolding line_report
line_case s hsel = line_by s hsel (well_sync s) refl

-- ---- a rate that is the report, with its number and what its case says

pub field_says : (s : Sync) (r : Result Rate NoRate) → r ≡ field_report s → rate_number r ≡ pick (well_sync s) 0 8 → (r ≡ field_report s) × FieldCase s r
field_says s r e n = (e, record { number = n; values = rw e (field_case s) })

pub line_says : (s : Sync) (hsel : Bool) (r : Result Rate NoRate) → r ≡ line_report s hsel → rate_number r ≡ pick (well_sync s) 0 8
    → (r ≡ line_report s hsel) × LineCase s hsel r
line_says s hsel r e n = (e, record { number = n; values = rw e (line_case s hsel) })
