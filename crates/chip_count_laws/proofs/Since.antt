-- A count is the number of pulses since the word that zeroed it.
-- Assumes nothing.
use mathlib.Core.Path.{◌≡◌, ◌∙◌}
use mathlib.Core.Bool.{true, false}
use mathlib.Core.List.{List, ◌∷◌}
use Prim.Native.Nat.{ℕ}
use native.Mathlib.Nat.{zero-add}
use Rattle.events.specs.Word.{decode}
use Rattle.chip.specs.declared.Chip.{Chip}
use Rattle.chip_events.specs.Outcome.{next}
use Rattle.step.specs.Step.{advance}
use Rattle.list_call.specs.Run.{advanced}
use Rattle.chip_count_laws.specs.Counting.{hsync_rises, period_clocks, zeroes_lines, zeroes_periods, never}
use Rattle.chip_count_laws.proofs.Counting.{lines_counted, periods_counted}
use Rattle.chip_count_laws.proofs.Zeroed.{lines_zeroed, periods_zeroed}

-- HCNT: rises of HSYNCI since the word that zeroed it
pub lines_since : (c : Chip) (w : ℕ) (ws : List ℕ) → zeroes_lines c (decode w) ≡ true
    → never zeroes_lines (next c (decode w)) ws ≡ true → (advanced c (w ∷ ws)).core.sync.lines.overflow ≡ false
    → (advanced c (w ∷ ws)).core.sync.lines.count.0 ≡ hsync_rises (next c (decode w)).core.reset (next c (decode w)).core.pins.hsynci ws
unfolding advance
lines_since c w ws z q n = lines_counted (next c (decode w)) ws q n ∙ rw (lines_zeroed c (decode w) z) (zero-add _)

-- VCNT: 8 µs clocks since the word that zeroed it
pub periods_since : (c : Chip) (w : ℕ) (ws : List ℕ) → zeroes_periods c (decode w) ≡ true
    → never zeroes_periods (next c (decode w)) ws ≡ true → (advanced c (w ∷ ws)).core.sync.periods.overflow ≡ false
    → (advanced c (w ∷ ws)).core.sync.periods.count.0 ≡ period_clocks (next c (decode w)).core.reset ws
unfolding advance
periods_since c w ws z q n = periods_counted (next c (decode w)) ws q n ∙ rw (periods_zeroed c (decode w) z) (zero-add _)
