-- Where HCNT does not count per field, every clock that completes a whole number of intervals latches and zeroes it: 1,024 periods of
-- 8 µs on the NT6861, 2,048 or 4,096 by HSEL on the NT6862. The law is that of `counters`, over the last value.
-- Assumes nothing.
use Prim.Native.Nat.{ℕ, zero, suc, ◌+◌, ◌%◌}
use mathlib.Core.Path.{◌≡◌, refl, ap, ◌∙◌}
use mathlib.Core.Bool.{Bool, true, false, ◌&&◌}
use native.Mathlib.Omega.{arith}
use native.Mathlib.Nat.{zero-add, add-zero}
use lib.Dec.{eqb}
use Rattle.counters.specs.Count.{cycle_next, cycles}
use Rattle.counters.proofs.Counting.{cycles_remainder, cycle_due}
use Rattle.sync6862.specs.declared.Counters.{Counters}
use Rattle.sync6862.specs.declared.Call.TheVariants.{Clock}
use Rattle.sync6862.specs.Unit.{interval_last, per_field, interval_next_to, on_period_to, clocked, well_formed, answered, answer, left}
use Rattle.sync6862.proofs.WellFormed.{well_kept}
use Rattle.sync6862_laws.specs.Counting.{run, clocks, zeroes_lines}
use Rattle.sync6862_laws.proofs.Effects.{done}

-- what a clock leaves of chip and HSEL, and of the interval
record Clocked (s after : Counters) : Type 0 where
  part : after.part ≡ s.part
  hsel : after.hsel ≡ s.hsel
  interval : after.sync.interval ≡ interval_next_to (per_field s.part s.hsel) (interval_last s.part s.hsel) s.sync.interval

clocked_as_lem : (s : Counters) → Clocked s (left s (answered s Clock))
unfolding answered clocked on_period_to
clocked_as_lem s = record { part = refl; hsel = refl; interval = refl }

one_clock : (s : Counters) → well_formed s ≡ true → Clocked s (left s (answer s Clock))
one_clock s w = rw (done s Clock w) (clocked_as_lem s)

runs_on : (field : Bool) (last n : ℕ) → field ≡ false → interval_next_to field last n ≡ cycle_next last n
unfolding interval_next_to
runs_on field last n h = rw h

-- chip and HSEL after n clocks, and the interval, k clocks having gone before
record After (n k : ℕ) (s after : Counters) : Type 0 where
  part : after.part ≡ s.part
  hsel : after.hsel ≡ s.hsel
  interval : after.sync.interval ≡ cycles (interval_last s.part s.hsel) (n + k)

after_clocks : (n k : ℕ) (s : Counters) → well_formed s ≡ true → per_field s.part s.hsel ≡ false
    → s.sync.interval ≡ cycles (interval_last s.part s.hsel) k → After n k s (run s (clocks n))
unfolding run cycles
after_clocks zero k s w f e = record { part = refl; hsel = refl; interval = rw (zero-add k) e }
after_clocks (suc n) k s w f e =
    let c = one_clock s w in
    let next : Counters = left s (answer s Clock) in
    let field : per_field next.part next.hsel ≡ false = rw (c.part, c.hsel) f in
    let last : interval_last s.part s.hsel ≡ interval_last next.part next.hsel = rw (c.part, c.hsel) refl in
    let count : next.sync.interval ≡ cycles (interval_last next.part next.hsel) (suc k) =
    c.interval ∙ runs_on _ _ _ f ∙ ap (cycle_next (interval_last s.part s.hsel)) e ∙ ap (λ (n : ℕ). cycle_next n (cycles n k)) last in
    let sum : n + suc k ≡ suc n + k = omega arith in
    let rest = after_clocks n (suc k) next (well_kept s Clock w) field count in
    record {
      part = rest.part ∙ c.part;
      hsel = rest.hsel ∙ c.hsel;
      interval = rest.interval ∙ rw (c.part, c.hsel) (ap (cycles (interval_last s.part s.hsel)) sum);
    }

-- n clocks from an interval of 0: the remainder by its length
pub interval_exact : (n : ℕ) (s : Counters) → well_formed s ≡ true → per_field s.part s.hsel ≡ false → s.sync.interval ≡ 0
    → (run s (clocks n)).sync.interval ≡ n % (interval_last s.part s.hsel + 1)
unfolding cycles
interval_exact n s w f z =
    (after_clocks n 0 s w f z).interval ∙ ap (cycles (interval_last s.part s.hsel)) (add-zero n)
    ∙ cycles_remainder (interval_last s.part s.hsel) n

-- the next clock latches and zeroes HCNT exactly where it completes a whole number of intervals, HCNT not being in overflow
pub interval_due : (n : ℕ) (s : Counters) → well_formed s ≡ true → per_field s.part s.hsel ≡ false → s.sync.interval ≡ 0
    → (run s (clocks n)).sync.lines.overflow ≡ false → zeroes_lines (run s (clocks n)) Clock ≡ eqb ((n + 1) % (interval_last s.part s.hsel + 1)) 0
unfolding zeroes_lines cycles
interval_due n s w f z o =
    let a = after_clocks n 0 s w f z in
    let at : (run s (clocks n)).sync.interval ≡ cycles (interval_last s.part s.hsel) n = a.interval ∙ ap (cycles (interval_last s.part s.hsel)) (add-zero n) in
    rw (a.part, a.hsel, f, o, at) (and_true _ ∙ cycle_due (interval_last s.part s.hsel) n)
  where
    and_true : (b : Bool) → (b && true) ≡ b
    and_true true = refl
    and_true false = refl
