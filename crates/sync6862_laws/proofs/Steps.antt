-- n steps of a counter, first and last; n steps since it was zeroed. The laws over the last value are those of `counters`.
-- Assumes nothing.
use Prim.Native.Nat.{ℕ, zero, suc, ◌+◌}
use mathlib.Core.Path.{◌≡◌, refl, sym, ap, ◌∙◌}
use mathlib.Core.Bool.{Bool, true, false}
use native.Mathlib.Nat.{zero-add}
use native.Mathlib.Numerals.{one-add}
use Rattle.bits.specs.Byte.{pick, num}
use Rattle.counters.specs.Count.{steps}
use Rattle.counters.proofs.Counting.{overflow_stands}
use Rattle.sync.specs.declared.LineCounter.{LineCounter}
use Rattle.sync.specs.declared.PeriodCounter.{PeriodCounter}
use Rattle.sync.specs.Sync.{step_lines, steps_lines}
use Rattle.sync.specs.Counters.{periods_at}
use Rattle.sync6862.specs.Unit.{step_periods_to}
use Rattle.sync6862_laws.specs.Counting.{steps_periods_to}

lines_first : (n : ℕ) (l : LineCounter) → steps_lines n (step_lines l) ≡ steps_lines (suc n) l
unfolding steps_lines
lines_first zero l = refl
lines_first (suc n) l = ap step_lines (lines_first n l)

pub lines_more : (t : Bool) (n : ℕ) (l : LineCounter) → steps_lines n (pick t (step_lines l) l) ≡ steps_lines (num t + n) l
lines_more true n l = rw (one-add n) (lines_first n l)
lines_more false n l = rw (zero-add n)

periods_first : (last n : ℕ) (p : PeriodCounter) → steps_periods_to last n (step_periods_to last p) ≡ steps_periods_to last (suc n) p
unfolding steps_periods_to
periods_first last zero p = refl
periods_first last (suc n) p = ap (step_periods_to last) (periods_first last n p)

pub periods_more : (last : ℕ) (t : Bool) (n : ℕ) (p : PeriodCounter) → steps_periods_to last n (pick t (step_periods_to last p) p) ≡ steps_periods_to last (num t + n) p
periods_more last true n p = rw (one-add n) (periods_first last n p)
periods_more last false n p = rw (zero-add n)

start : (count : ℕ) (overflow : Bool) → count ≡ 0 → overflow ≡ false → ◌≡◌ {A = ℕ × Bool} (count, overflow) (0, false)
start count overflow h k = cc

-- n clocks of 8 µs since VCNT was zeroed, no overflow standing
pub periods_since_zero : (last n : ℕ) (c : PeriodCounter) → c.count.0 ≡ 0 → c.overflow ≡ false → steps_periods_to last n c ≡ periods_at c (steps last n)
unfolding steps_periods_to step_periods_to steps
periods_since_zero last zero c h k = ap (periods_at c) (start _ _ h k)
periods_since_zero last (suc n) c h k = ap (step_periods_to last) (periods_since_zero last n c h k)

-- ---- in overflow a counter stands

same_lines : (c d : LineCounter) → c.overflow ≡ true → c ≡ d → step_lines c ≡ d
unfolding step_lines
same_lines c d o e =
    let stands = overflow_stands 4095 c.count.0 in
    rw (o, stands.0, stands.1) (ap (λ (b : Bool). record { count = c.count; latch = c.latch; overflow = b }) (sym o) ∙ e)

pub lines_stand : (n : ℕ) (c : LineCounter) → c.overflow ≡ true → steps_lines n c ≡ c
unfolding steps_lines
lines_stand zero c o = refl
lines_stand (suc n) c o = rw (lines_stand n c o) (same_lines c c o refl)

same_periods : (last : ℕ) (c d : PeriodCounter) → c.overflow ≡ true → c ≡ d → step_periods_to last c ≡ d
unfolding step_periods_to
same_periods last c d o e =
    let stands = overflow_stands last c.count.0 in
    rw (o, stands.0, stands.1) (ap (λ (b : Bool). record { count = c.count; latch = c.latch; overflow = b }) (sym o) ∙ e)

pub periods_stand : (last n : ℕ) (c : PeriodCounter) → c.overflow ≡ true → steps_periods_to last n c ≡ c
unfolding steps_periods_to
periods_stand last zero c o = refl
periods_stand last (suc n) c o = rw (periods_stand last n c o) (same_periods last c c o refl)
