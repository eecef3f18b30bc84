-- Over a list of words that does not zero it, HCNT has stepped once for each rise of HSYNCI and VCNT once for each 8 µs clock, so that without an overflow each has grown by their number.
-- Assumes nothing.
use mathlib.Core.Path.{◌≡◌, refl, sym, ap, ◌∙◌}
use mathlib.Core.Bool.{Bool, true, false, not, ◌&&◌}
use mathlib.Core.List.{List, [], ◌∷◌}
use Prim.Native.Nat.{ℕ, zero, suc, ◌+◌}
use native.Mathlib.Omega.{arith}
use native.Mathlib.Nat.{add-zero, zero-add}
use native.Mathlib.Numerals.{one-add}
use borrow.Author.Tests.{not-false}
use lib.Dec.{ltb}
use Rattle.bits.specs.Byte.{pick, num}
use Rattle.events.specs.Decoded.{Decoded}
use Rattle.events.specs.Word.{decode}
use Rattle.sync.specs.declared.LineCounter.{LineCounter}
use Rattle.sync.specs.declared.PeriodCounter.{PeriodCounter}
use Rattle.counters.specs.Count.{counted, overflowed}
use Rattle.sync.specs.Sync.{step_lines, steps_lines, step_periods, steps_periods}
use Rattle.chip.specs.declared.Chip.{Chip}
use Rattle.chip_events.specs.Outcome.{next}
use Rattle.chip_flag_laws.specs.Causes.{put_high, is_clock}
use Rattle.step.specs.Step.{advance}
use Rattle.list_call.specs.Run.{advanced}
use Rattle.chip_count_laws.specs.Counting.{hsync_rises, period_clocks, zeroes_lines, zeroes_periods, never}
use Rattle.chip_count_laws.proofs.Events.{effect}

both : (x y : Bool) → (not x && y) ≡ true → (x ≡ false) × (y ≡ true)
both true y h = (cc, cc)
both false y h = (refl, h)

-- ---- steps before steps

lines_first : (n : ℕ) (l : LineCounter) → steps_lines n (step_lines l) ≡ steps_lines (suc n) l
unfolding steps_lines
lines_first zero l = refl
lines_first (suc n) l = ap step_lines (lines_first n l)

lines_more : (t : Bool) (n : ℕ) (l : LineCounter) → steps_lines n (pick t (step_lines l) l) ≡ steps_lines (num t + n) l
lines_more true n l = rw (one-add n) (lines_first n l)
lines_more false n l = rw (zero-add n)

periods_first : (n : ℕ) (p : PeriodCounter) → steps_periods n (step_periods p) ≡ steps_periods (suc n) p
unfolding steps_periods
periods_first zero p = refl
periods_first (suc n) p = ap step_periods (periods_first n p)

periods_more : (t : Bool) (n : ℕ) (p : PeriodCounter) → steps_periods n (pick t (step_periods p) p) ≡ steps_periods (num t + n) p
periods_more true n p = rw (one-add n) (periods_first n p)
periods_more false n p = rw (zero-add n)

-- ---- over a list of words

-- HCNT, its latch and its overflow bit: a step for each rise of HSYNCI
pub lines_stepped : (c : Chip) (ws : List ℕ) → never zeroes_lines c ws ≡ true →
    (advanced c ws).core.sync.lines ≡ steps_lines (hsync_rises c.core.reset c.core.pins.hsynci ws) c.core.sync.lines
unfolding steps_lines advance
lines_stepped c [] q = refl
lines_stepped c (w ∷ ws) q =
    let e : Decoded = decode w in
    let h = both (zeroes_lines c e) _ q in
    let f = effect c e in
    lines_stepped (next c e) ws h.1
    ∙ rw (f.reset, f.hsynci, f.lines h.0) (lines_more (put_high 26 e && (c.core.reset && not c.core.pins.hsynci)) _ c.core.sync.lines)

-- VCNT likewise: a step for each 8 µs clock
pub periods_stepped : (c : Chip) (ws : List ℕ) → never zeroes_periods c ws ≡ true →
    (advanced c ws).core.sync.periods ≡ steps_periods (period_clocks c.core.reset ws) c.core.sync.periods
unfolding steps_periods advance
periods_stepped c [] q = refl
periods_stepped c (w ∷ ws) q =
    let e : Decoded = decode w in
    let h = both (zeroes_periods c e) _ q in
    let f = effect c e in
    periods_stepped (next c e) ws h.1
    ∙ rw (f.reset, f.periods h.0) (periods_more (is_clock 0 e && c.core.reset) _ c.core.sync.periods)

-- ---- without an overflow

-- a step that sets no overflow bit adds one
step_adds : (last : ℕ) (overflow : Bool) (count : ℕ) → overflowed last overflow count ≡ false → (overflow ≡ false) × (counted last overflow count ≡ count + 1)
unfolding overflowed counted
step_adds last true count h = (cc, cc)
step_adds last false count h = (refl, rw (not-false (ltb count last) h))

lines_add : (n : ℕ) (l : LineCounter) → (steps_lines n l).overflow ≡ false → (steps_lines n l).count.0 ≡ l.count.0 + n
unfolding steps_lines step_lines
lines_add zero l h = sym (add-zero l.count.0)
lines_add (suc n) l h =
    let s = step_adds 4095 (steps_lines n l).overflow (steps_lines n l).count.0 h in
    s.1 ∙ rw (lines_add n l s.0) (omega arith)

periods_add : (n : ℕ) (p : PeriodCounter) → (steps_periods n p).overflow ≡ false → (steps_periods n p).count.0 ≡ p.count.0 + n
unfolding steps_periods step_periods
periods_add zero p h = sym (add-zero p.count.0)
periods_add (suc n) p h =
    let s = step_adds 4095 (steps_periods n p).overflow (steps_periods n p).count.0 h in
    s.1 ∙ rw (periods_add n p s.0) (omega arith)

-- HCNT has grown by the rises of HSYNCI
pub lines_counted : (c : Chip) (ws : List ℕ) → never zeroes_lines c ws ≡ true → (advanced c ws).core.sync.lines.overflow ≡ false →
    (advanced c ws).core.sync.lines.count.0 ≡ c.core.sync.lines.count.0 + hsync_rises c.core.reset c.core.pins.hsynci ws
lines_counted c ws q o = let e = lines_stepped c ws q in ap (λ (l : LineCounter). l.count.0) e ∙ lines_add _ c.core.sync.lines (sym (ap (λ (l : LineCounter). l.overflow) e) ∙ o)

-- VCNT has grown by the 8 µs clocks
pub periods_counted : (c : Chip) (ws : List ℕ) → never zeroes_periods c ws ≡ true → (advanced c ws).core.sync.periods.overflow ≡ false →
    (advanced c ws).core.sync.periods.count.0 ≡ c.core.sync.periods.count.0 + period_clocks c.core.reset ws
periods_counted c ws q o = let e = periods_stepped c ws q in ap (λ (p : PeriodCounter). p.count.0) e ∙ periods_add _ c.core.sync.periods (sym (ap (λ (p : PeriodCounter). p.overflow) e) ∙ o)
