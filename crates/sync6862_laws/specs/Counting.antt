-- Counting over a list of calls (document 02, Wish 6; document 001, 13.1): what is counted, and what zeroes a count.
use Rattle.std.specs.Prelude.{ℕ, zero, suc, ◌+◌, Bool, true, false, not, ◌&&◌, ◌||◌, List, [], ◌∷◌}
use Rattle.bits.specs.Byte.{num}
use Rattle.counters.specs.Count.{at_last}
use Rattle.sync.specs.declared.PeriodCounter.{PeriodCounter}
use Rattle.sync6862.specs.declared.Part.{Part}
use Rattle.sync6862.specs.declared.Part.TheVariants.{Nt6861, Nt6862}
use Rattle.sync6862.specs.declared.Counters.{Counters}
use Rattle.sync6862.specs.declared.Call.{Call}
use Rattle.sync6862.specs.declared.Call.TheVariants.{Hsynci, Vsynci, Clock, Enhsel, Hsel, ClearH, ClearV}
use Rattle.sync6862.specs.Unit.{interval_last, per_field, differs, restarts, has_enhsel, step_periods_to, answer, left}

-- the state after a list of calls
unfoldable pub run : Counters → List Call → Counters
run s [] = s
run s (call ∷ calls) = run (left s (answer s call)) calls

-- n clocks of 8 µs
abbrev pub clocks : ℕ → List Call
clocks zero = []
clocks (suc n) = Clock ∷ clocks n

-- n steps of VCNT
unfoldable pub steps_periods_to : ℕ → ℕ → PeriodCounter → PeriodCounter
steps_periods_to last zero c = c
steps_periods_to last (suc n) c = step_periods_to last (steps_periods_to last n c)

-- ---- what is counted, told by the calls and the level before them

-- HSYNCI rises by a call, and its level after one
abbrev pub rises_hsynci : Bool → Call → Bool
rises_hsynci hsynci (Hsynci level) = level && not hsynci
rises_hsynci hsynci (Vsynci level) = false
rises_hsynci hsynci Clock = false
rises_hsynci hsynci (Enhsel new) = false
rises_hsynci hsynci (Hsel new) = false
rises_hsynci hsynci ClearH = false
rises_hsynci hsynci ClearV = false

abbrev pub hsynci_after : Bool → Call → Bool
hsynci_after hsynci (Hsynci level) = level
hsynci_after hsynci (Vsynci level) = hsynci
hsynci_after hsynci Clock = hsynci
hsynci_after hsynci (Enhsel new) = hsynci
hsynci_after hsynci (Hsel new) = hsynci
hsynci_after hsynci ClearH = hsynci
hsynci_after hsynci ClearV = hsynci

-- pulses of HSYNCI
abbrev pub hsync_rises : Bool → List Call → ℕ
hsync_rises hsynci [] = 0
hsync_rises hsynci (call ∷ calls) = num (rises_hsynci hsynci call) + hsync_rises (hsynci_after hsynci call) calls

-- 8 µs clocks
abbrev pub is_clock : Call → Bool
is_clock (Hsynci level) = false
is_clock (Vsynci level) = false
is_clock Clock = true
is_clock (Enhsel new) = false
is_clock (Hsel new) = false
is_clock ClearH = false
is_clock ClearV = false

abbrev pub period_clocks : List Call → ℕ
period_clocks [] = 0
period_clocks (call ∷ calls) = num (is_clock call) + period_clocks calls

-- ---- what zeroes a count, or lets it count again

-- ENHSEL is changed
abbrev pub changes_enhsel : Part → Bool → Bool
changes_enhsel Nt6861 new = false
changes_enhsel (Nt6862 old) new = differs old new

-- HCNT: a change of HSEL or ENHSEL that starts it anew; on the NT6861 clear H; and, as latching does not in overflow, a rise of
-- VSYNCI where it counts per field, else the clock that finds the interval at its last value
unfoldable pub zeroes_lines : Counters → Call → Bool
zeroes_lines s (Hsynci level) = false
zeroes_lines s (Vsynci level) = (level && not s.vsynci) && (per_field s.part s.hsel && not s.sync.lines.overflow)
zeroes_lines s Clock = not (per_field s.part s.hsel) && (at_last (interval_last s.part s.hsel) s.sync.interval && not s.sync.lines.overflow)
zeroes_lines s (Enhsel new) = changes_enhsel s.part new
zeroes_lines s (Hsel new) = restarts s.part s.hsel new
zeroes_lines s ClearH = not (has_enhsel s.part)
zeroes_lines s ClearV = false

-- HCNT is let go on from where it stood in overflow: clear H on the NT6862
unfoldable pub releases_lines : Counters → Call → Bool
releases_lines s (Hsynci level) = false
releases_lines s (Vsynci level) = false
releases_lines s Clock = false
releases_lines s (Enhsel new) = false
releases_lines s (Hsel new) = false
releases_lines s ClearH = has_enhsel s.part && s.sync.lines.overflow
releases_lines s ClearV = false

-- VCNT: clear V; and, not in overflow, a rise of VSYNCI
unfoldable pub zeroes_periods : Counters → Call → Bool
zeroes_periods s (Hsynci level) = false
zeroes_periods s (Vsynci level) = (level && not s.vsynci) && not s.sync.periods.overflow
zeroes_periods s Clock = false
zeroes_periods s (Enhsel new) = false
zeroes_periods s (Hsel new) = false
zeroes_periods s ClearH = false
zeroes_periods s ClearV = true

-- HCNT runs on over a call: it is neither zeroed nor let go on
abbrev pub breaks_lines : Counters → Call → Bool
breaks_lines s call = zeroes_lines s call || releases_lines s call

-- no call of the list does so
unfoldable pub never : (Counters → Call → Bool) → Counters → List Call → Bool
never breaks s [] = true
never breaks s (call ∷ calls) = not (breaks s call) && never breaks (left s (answer s call)) calls
