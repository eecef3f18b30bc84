-- On either chip a count is the pulses since the call that zeroed it: as many as its width holds, and then the overflow bit.
-- Assumes nothing.
use Prim.Native.Nat.{ℕ, ◌≤◌, ◌<◌}
use mathlib.Core.Path.{◌≡◌, refl, ap, ◌∙◌}
use mathlib.Core.Bool.{Bool, true, false, not, ◌&&◌}
use mathlib.Core.List.{List, [], ◌∷◌}
use Rattle.bits.specs.Byte.{pick}
use Rattle.bits.proofs.Finite.{both, neither}
use Rattle.counters.specs.Count.{steps}
use Rattle.counters.proofs.Counting.{steps_within, steps_past}
use borrow.Author.Tests.{not-true}
use Rattle.sync.specs.declared.LineCounter.{LineCounter}
use Rattle.sync.specs.declared.PeriodCounter.{PeriodCounter}
use Rattle.sync.specs.Sync.{step_lines, steps_lines}
use Rattle.sync.specs.Counters.{lines_at, periods_at}
use Rattle.sync.proofs.Counters.{lines_since_zero}
use Rattle.sync6862.specs.declared.Counters.{Counters}
use Rattle.sync6862.specs.declared.Refusal.{Refusal}
use Rattle.std.proofs.Common.{Result}
use Rattle.sync6862.specs.declared.Call.{Call}
use Rattle.sync6862.specs.Unit.{periods_last, step_periods_to, well_formed, answer, left}
use Rattle.sync6862.proofs.WellFormed.{well_kept}
use Rattle.sync6862_laws.specs.Counting.{run, steps_periods_to, rises_hsynci, hsynci_after, hsync_rises, is_clock, period_clocks, zeroes_lines, releases_lines, zeroes_periods, breaks_lines, never}
use Rattle.sync6862_laws.proofs.Steps.{lines_more, periods_more, periods_since_zero, lines_stand}
use Rattle.sync6862_laws.proofs.Effects.{done, lines_effect, hsynci_effect, periods_effect}
use Rattle.sync6862_laws.proofs.Chips.{last_kept}
use Rattle.sync6862_laws.proofs.Zeroed.{lines_zeroed, periods_zeroed}

none : (x y : Bool) → (not x && y) ≡ true → (x ≡ false) × (y ≡ true)
none x y h = let k = both (not x) y h in (not-true x k.0, k.1)

-- ---- over a list of calls

-- HCNT, its latch and its overflow bit: a step for each pulse of HSYNCI
pub lines_stepped : (s : Counters) (calls : List Call) → well_formed s ≡ true → never breaks_lines s calls ≡ true →
    (run s calls).sync.lines ≡ steps_lines (hsync_rises s.hsynci calls) s.sync.lines
unfolding run steps_lines never
lines_stepped s [] w q = refl
lines_stepped s (call ∷ calls) w q =
    let h = none (breaks_lines s call) _ q in
    let k = neither (zeroes_lines s call) (releases_lines s call) h.0 in
    let e : (left s (answer s call)).sync.lines ≡ pick (rises_hsynci s.hsynci call) (step_lines s.sync.lines) s.sync.lines =
    ap (λ (o : Result Counters Refusal). (left s o).sync.lines) (done s call w) ∙ lines_effect s call k.0 k.1 in
    let l : (left s (answer s call)).hsynci ≡ hsynci_after s.hsynci call = ap (λ (o : Result Counters Refusal). (left s o).hsynci) (done s call w) ∙ hsynci_effect s call in
    lines_stepped (left s (answer s call)) calls (well_kept s call w) h.1
    ∙ rw (e, l) (lines_more (rises_hsynci s.hsynci call) _ s.sync.lines)

-- VCNT likewise: a step for each 8 µs clock
pub periods_stepped : (s : Counters) (calls : List Call) → well_formed s ≡ true → never zeroes_periods s calls ≡ true →
    (run s calls).sync.periods ≡ steps_periods_to (periods_last s.part) (period_clocks calls) s.sync.periods
unfolding run steps_periods_to never
periods_stepped s [] w q = refl
periods_stepped s (call ∷ calls) w q =
    let h = none (zeroes_periods s call) _ q in
    let e : (left s (answer s call)).sync.periods ≡ pick (is_clock call) (step_periods_to (periods_last s.part) s.sync.periods) s.sync.periods =
    ap (λ (o : Result Counters Refusal). (left s o).sync.periods) (done s call w) ∙ periods_effect s call h.0 in
    let l = last_kept s call in
    periods_stepped (left s (answer s call)) calls (well_kept s call w) h.1
    ∙ rw (e, l) (periods_more (periods_last s.part) (is_clock call) _ s.sync.periods)

-- ---- since the count was 0

-- HCNT from 0, no overflow standing: the pulses, by 12 bits
pub lines_from_zero : (s : Counters) (calls : List Call) → well_formed s ≡ true → never breaks_lines s calls ≡ true
    → s.sync.lines.count.0 ≡ 0 → s.sync.lines.overflow ≡ false
    → (run s calls).sync.lines ≡ lines_at s.sync.lines (steps 4095 (hsync_rises s.hsynci calls))
lines_from_zero s calls w q z o = lines_stepped s calls w q ∙ lines_since_zero (hsync_rises s.hsynci calls) s.sync.lines z o

-- VCNT from 0: the 8 µs clocks, by 12 bits or 14
pub periods_from_zero : (s : Counters) (calls : List Call) → well_formed s ≡ true → never zeroes_periods s calls ≡ true
    → s.sync.periods.count.0 ≡ 0 → s.sync.periods.overflow ≡ false
    → (run s calls).sync.periods ≡ periods_at s.sync.periods (steps (periods_last s.part) (period_clocks calls))
periods_from_zero s calls w q z o = periods_stepped s calls w q ∙ periods_since_zero (periods_last s.part) (period_clocks calls) s.sync.periods z o

-- ---- since the last zeroing

-- the call that zeroes HCNT, and then calls that do not: the count is the pulses between, where 12 bits hold them
pub lines_since : (s : Counters) (call : Call) (calls : List Call) → well_formed s ≡ true → zeroes_lines s call ≡ true
    → (left s (answer s call)).sync.lines.overflow ≡ false → never breaks_lines (left s (answer s call)) calls ≡ true
    → hsync_rises (left s (answer s call)).hsynci calls ≤ 4095
    → ((run s (call ∷ calls)).sync.lines.count.0 ≡ hsync_rises (left s (answer s call)).hsynci calls) × ((run s (call ∷ calls)).sync.lines.overflow ≡ false)
unfolding run
lines_since s call calls w z o q most =
    let after : Counters = left s (answer s call) in
    let zeroed : after.sync.lines.count.0 ≡ 0 = ap (λ (x : Result Counters Refusal). (left s x).sync.lines.count.0) (done s call w) ∙ lines_zeroed s call z in
    let e = lines_from_zero after calls (well_kept s call w) q zeroed o in
    let n = steps_within 4095 (hsync_rises after.hsynci calls) most in
    (ap (λ (l : LineCounter). l.count.0) e ∙ ap (λ (p : ℕ × Bool). p.0) n, ap (λ (l : LineCounter). l.overflow) e ∙ ap (λ (p : ℕ × Bool). p.1) n)

-- more pulses than that: the overflow bit, and the count at its last value
pub lines_overflow : (s : Counters) (call : Call) (calls : List Call) → well_formed s ≡ true → zeroes_lines s call ≡ true
    → (left s (answer s call)).sync.lines.overflow ≡ false → never breaks_lines (left s (answer s call)) calls ≡ true
    → 4095 < hsync_rises (left s (answer s call)).hsynci calls
    → ((run s (call ∷ calls)).sync.lines.count.0 ≡ 4095) × ((run s (call ∷ calls)).sync.lines.overflow ≡ true)
unfolding run
lines_overflow s call calls w z o q past =
    let after : Counters = left s (answer s call) in
    let zeroed : after.sync.lines.count.0 ≡ 0 = ap (λ (x : Result Counters Refusal). (left s x).sync.lines.count.0) (done s call w) ∙ lines_zeroed s call z in
    let e = lines_from_zero after calls (well_kept s call w) q zeroed o in
    let n = steps_past 4095 (hsync_rises after.hsynci calls) past in
    (ap (λ (l : LineCounter). l.count.0) e ∙ ap (λ (p : ℕ × Bool). p.0) n, ap (λ (l : LineCounter). l.overflow) e ∙ ap (λ (p : ℕ × Bool). p.1) n)

-- in overflow HCNT stands whatever is counted, also at the 0 that a changed choice has left
pub lines_standing : (s : Counters) (calls : List Call) → well_formed s ≡ true → never breaks_lines s calls ≡ true → s.sync.lines.overflow ≡ true
    → (run s calls).sync.lines ≡ s.sync.lines
lines_standing s calls w q o = lines_stepped s calls w q ∙ lines_stand (hsync_rises s.hsynci calls) s.sync.lines o

-- VCNT: 8 µs clocks since the call that zeroed it, as many as its chip's width holds
pub periods_since : (s : Counters) (call : Call) (calls : List Call) → well_formed s ≡ true → zeroes_periods s call ≡ true
    → (left s (answer s call)).sync.periods.overflow ≡ false → never zeroes_periods (left s (answer s call)) calls ≡ true
    → period_clocks calls ≤ periods_last (left s (answer s call)).part
    → ((run s (call ∷ calls)).sync.periods.count.0 ≡ period_clocks calls) × ((run s (call ∷ calls)).sync.periods.overflow ≡ false)
unfolding run
periods_since s call calls w z o q most =
    let after : Counters = left s (answer s call) in
    let zeroed : after.sync.periods.count.0 ≡ 0 = ap (λ (x : Result Counters Refusal). (left s x).sync.periods.count.0) (done s call w) ∙ periods_zeroed s call z in
    let e = periods_from_zero after calls (well_kept s call w) q zeroed o in
    let n = steps_within (periods_last after.part) (period_clocks calls) most in
    (ap (λ (c : PeriodCounter). c.count.0) e ∙ ap (λ (p : ℕ × Bool). p.0) n, ap (λ (c : PeriodCounter). c.overflow) e ∙ ap (λ (p : ℕ × Bool). p.1) n)

pub periods_overflow : (s : Counters) (call : Call) (calls : List Call) → well_formed s ≡ true → zeroes_periods s call ≡ true
    → (left s (answer s call)).sync.periods.overflow ≡ false → never zeroes_periods (left s (answer s call)) calls ≡ true
    → periods_last (left s (answer s call)).part < period_clocks calls
    → ((run s (call ∷ calls)).sync.periods.count.0 ≡ periods_last (left s (answer s call)).part) × ((run s (call ∷ calls)).sync.periods.overflow ≡ true)
unfolding run
periods_overflow s call calls w z o q past =
    let after : Counters = left s (answer s call) in
    let zeroed : after.sync.periods.count.0 ≡ 0 = ap (λ (x : Result Counters Refusal). (left s x).sync.periods.count.0) (done s call w) ∙ periods_zeroed s call z in
    let e = periods_from_zero after calls (well_kept s call w) q zeroed o in
    let n = steps_past (periods_last after.part) (period_clocks calls) past in
    (ap (λ (c : PeriodCounter). c.count.0) e ∙ ap (λ (p : ℕ × Bool). p.0) n, ap (λ (c : PeriodCounter). c.overflow) e ∙ ap (λ (p : ℕ × Bool). p.1) n)
