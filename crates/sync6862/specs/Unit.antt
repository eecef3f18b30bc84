-- The counters of either chip as a unit (document 02, Wish 6, by document 001, 13.1; document 01, "Counting sync").
use Rattle.std.specs.Prelude.{ℕ, ◌+◌, Bool, true, false, not, ◌&&◌, ◌||◌, eqb, ltb, Result, Ok, Err}
use Rattle.bits.specs.Byte.{pick}
use Rattle.counters.specs.Count.{counted, overflowed, cycle_next}
use Rattle.sync.specs.declared.LineCounter.{LineCounter}
use Rattle.sync.specs.declared.PeriodCounter.{PeriodCounter}
use Rattle.sync.specs.declared.Sync.{Sync}
use Rattle.sync.specs.Sync.{latch_lines, clear_lines, on_hsync, on_vsync, hsel_cleared, clear_overflow, zero_sync}
use Rattle.sync6862.specs.declared.Part.{Part}
use Rattle.sync6862.specs.declared.Part.TheVariants.{Nt6861, Nt6862}
use Rattle.sync6862.specs.declared.Counters.{Counters}
use Rattle.sync6862.specs.declared.Call.{Call}
use Rattle.sync6862.specs.declared.Call.TheVariants.{Hsynci, Vsynci, Clock, Enhsel, Hsel, ClearH, ClearV}
use Rattle.sync6862.specs.declared.LatchReport.{LatchReport}
use Rattle.sync6862.specs.declared.Refusal.{Refusal}
use Rattle.sync6862.specs.declared.Refusal.TheVariants.{NoSuchCall, NoEnhsel, OutOfRange, IllFormed, NoSuchChip}

-- ---- what the chips differ in

-- the last value of VCNT: 12 bits on the NT6861, 14 on the NT6862. HCNT has 12 bits on both.
unfoldable pub periods_last : Part → ℕ
periods_last Nt6861 = 4095
periods_last (Nt6862 enhsel) = 16383

-- the last value of the interval: 1,024 periods of 8 µs on the NT6861; on the NT6862 4,096 or 2,048 by HSEL, whatever ENHSEL is
unfoldable pub interval_last : Part → Bool → ℕ
interval_last Nt6861 hsel = 1023
interval_last (Nt6862 enhsel) hsel = pick hsel 4095 2047

-- HCNT counts per field: chosen by HSEL on the NT6861, by ENHSEL on the NT6862
unfoldable pub per_field : Part → Bool → Bool
per_field Nt6861 hsel = hsel
per_field (Nt6862 enhsel) hsel = enhsel

abbrev pub differs : Bool → Bool → Bool
differs old new = (old && not new) || (not old && new)

-- HSEL put from one value to another starts HCNT and the interval anew: 1 to 0 on the NT6861, either change on the NT6862
unfoldable pub restarts : Part → Bool → Bool → Bool
restarts Nt6861 old new = old && not new
restarts (Nt6862 enhsel) old new = differs old new

-- ---- counting, over the last values

-- VCNT steps
unfoldable pub step_periods_to : ℕ → PeriodCounter → PeriodCounter
step_periods_to last c =
    record {
      count = record { 0 = counted last c.overflow c.count.0 };
      latch = c.latch;
      overflow = overflowed last c.overflow c.count.0;
    }

-- the interval after an 8 µs clock: it stands while HCNT counts per field
unfoldable pub interval_next_to : Bool → ℕ → ℕ → ℕ
interval_next_to field last n = pick field n (cycle_next last n)

-- HCNT at an 8 µs clock: the clock that ends the interval latches and zeroes it
unfoldable pub lines_on_period_to : Bool → ℕ → ℕ → LineCounter → LineCounter
lines_on_period_to field last n c = pick field c (pick (ltb n last) c (latch_lines c))

-- an 8 µs clock, by the last values of VCNT and of the interval
unfoldable pub on_period_to : Bool → ℕ → ℕ → Sync → Sync
on_period_to field periods interval s =
    record {
      lines = lines_on_period_to field interval s.interval s.lines;
      periods = step_periods_to periods s.periods;
      interval = interval_next_to field interval s.interval;
    }

-- within these last values
unfoldable pub well_to : ℕ → ℕ → Sync → Bool
well_to periods interval s =
    (((ltb s.lines.count.0 4096
    && ltb s.lines.latch.0 4096)
    && ltb s.periods.count.0 (periods + 1))
    && ltb s.periods.latch.0 (periods + 1))
    && ltb s.interval (interval + 1)

-- well formed: counts, latches and interval within those of the state's chip. A state of neither chip cannot be written.
unfoldable pub well_formed : Counters → Bool
well_formed s = well_to (periods_last s.part) (interval_last s.part s.hsel) s.sync

-- ---- the calls, one by one

-- the NT6862's clearing of HCNTOV leaves the count
abbrev pub release_lines : LineCounter → LineCounter
release_lines c = record { count = c.count; latch = c.latch; overflow = false }

-- clear H: on the NT6861 bit and count, on the NT6862 the bit alone
unfoldable pub clear_lines_of : Part → LineCounter → LineCounter
clear_lines_of Nt6861 c = clear_lines true c
clear_lines_of (Nt6862 enhsel) c = release_lines c

-- a changed choice zeroes HCNT and the interval, in overflow too, whose bit stays
abbrev pub restarted_if : Bool → Sync → Sync
restarted_if changed s = pick changed (hsel_cleared s) s

abbrev pub on_hsync_if : Bool → Sync → Sync
on_hsync_if rise s = pick rise (on_hsync s) s

abbrev pub on_vsync_if : Bool → Bool → Sync → Sync
on_vsync_if rise field s = pick rise (on_vsync field s) s

abbrev pub with_sync : Counters → Sync → Counters
with_sync s counts = record { part = s.part; hsynci = s.hsynci; vsynci = s.vsynci; hsel = s.hsel; sync = counts }

-- HSYNCI: its rise steps HCNT. A level given again is no rise.
unfoldable pub hsync_moved : Counters → Bool → Counters
hsync_moved s level =
    record {
      part = s.part;
      hsynci = level;
      vsynci = s.vsynci;
      hsel = s.hsel;
      sync = on_hsync_if (level && not s.hsynci) s.sync;
    }

-- VSYNCI: its rise latches and zeroes VCNT, and HCNT where it counts per field
unfoldable pub vsync_moved : Counters → Bool → Counters
vsync_moved s level =
    record {
      part = s.part;
      hsynci = s.hsynci;
      vsynci = level;
      hsel = s.hsel;
      sync = on_vsync_if (level && not s.vsynci) (per_field s.part s.hsel) s.sync;
    }

-- an 8 µs clock
unfoldable pub clocked : Counters → Counters
clocked s = with_sync s (on_period_to (per_field s.part s.hsel) (periods_last s.part) (interval_last s.part s.hsel) s.sync)

-- HSEL
unfoldable pub hsel_set : Counters → Bool → Counters
hsel_set s new =
    record {
      part = s.part;
      hsynci = s.hsynci;
      vsynci = s.vsynci;
      hsel = new;
      sync = restarted_if (restarts s.part s.hsel new) s.sync;
    }

-- ENHSEL of the NT6862
unfoldable pub enhsel_set : Counters → Bool → Bool → Counters
enhsel_set s old new =
    record {
      part = Nt6862 new;
      hsynci = s.hsynci;
      vsynci = s.vsynci;
      hsel = s.hsel;
      sync = restarted_if (differs old new) s.sync;
    }

-- clear H and clear V; the latter clears VCNTOV and VCNT on both chips
unfoldable pub cleared_h : Counters → Counters
cleared_h s =
    with_sync s (record { lines = clear_lines_of s.part s.sync.lines; periods = s.sync.periods; interval = s.sync.interval })

unfoldable pub cleared_v : Counters → Counters
cleared_v s = with_sync s (clear_overflow false true s.sync)

-- ---- answers

-- the numbers of the refusals, and 0 where nothing is refused
unfoldable pub refusal_number : Refusal → ℕ
refusal_number NoSuchCall = 1
refusal_number NoEnhsel = 2
refusal_number OutOfRange = 3
refusal_number IllFormed = 8
refusal_number NoSuchChip = 23

abbrev pub given_number : {A : Type 0} → Result A Refusal → ℕ
given_number (Ok x) = 0
given_number (Err why) = refusal_number why

-- the state that a call leaves: a refused one leaves it as it was
abbrev pub left : Counters → Result Counters Refusal → Counters
left s (Ok next) = next
left s (Err why) = s

-- the NT6861 has no ENHSEL
unfoldable pub on_enhsel : Part → Counters → Bool → Result Counters Refusal
on_enhsel Nt6861 s new = Err NoEnhsel
on_enhsel (Nt6862 old) s new = Ok (enhsel_set s old new)

unfoldable pub answered : Counters → Call → Result Counters Refusal
answered s (Hsynci level) = Ok (hsync_moved s level)
answered s (Vsynci level) = Ok (vsync_moved s level)
answered s Clock = Ok (clocked s)
answered s (Enhsel new) = on_enhsel s.part s new
answered s (Hsel new) = Ok (hsel_set s new)
answered s ClearH = Ok (cleared_h s)
answered s ClearV = Ok (cleared_v s)

-- an ill formed state before all else
unfoldable pub answer : Counters → Call → Result Counters Refusal
answer s call = pick (well_formed s) (answered s call) (Err IllFormed)

-- ---- a fresh state, and what is shown of one

-- all zero, HSEL 1, both levels 1
unfoldable pub fresh_as : Part → Counters
fresh_as part = record { part = part; hsynci = true; vsynci = true; hsel = true; sync = zero_sync }

-- by the chip's number; ENHSEL of the NT6862 is 1
unfoldable pub fresh : ℕ → Result Counters Refusal
fresh number = pick (eqb number 6861) (Ok (fresh_as Nt6861)) (pick (eqb number 6862) (Ok (fresh_as (Nt6862 true))) (Err NoSuchChip))

-- the numbers of a fresh state and of the latches
abbrev pub fresh_number : Result Counters Refusal → ℕ
fresh_number start = given_number start

abbrev pub latches_number : Result LatchReport Refusal → ℕ
latches_number shown = given_number shown

-- the latches with the overflow bits
unfoldable pub latches : Counters → Result LatchReport Refusal
latches s =
    pick (well_formed s)
    (Ok (record { lines = s.sync.lines.latch; lines_overflow = s.sync.lines.overflow; periods = s.sync.periods.latch; periods_overflow = s.sync.periods.overflow }))
    (Err IllFormed)

-- ---- the numbers, exactly when each is given

-- ENHSEL is given to a chip that has none
unfoldable pub has_enhsel : Part → Bool
has_enhsel Nt6861 = false
has_enhsel (Nt6862 enhsel) = true

unfoldable pub lacks_enhsel : Part → Call → Bool
lacks_enhsel part (Hsynci level) = false
lacks_enhsel part (Vsynci level) = false
lacks_enhsel part Clock = false
lacks_enhsel part (Enhsel new) = not (has_enhsel part)
lacks_enhsel part (Hsel new) = false
lacks_enhsel part ClearH = false
lacks_enhsel part ClearV = false

-- 8 for an ill formed state, then 2 for such an ENHSEL, else 0
unfoldable pub number_of : Counters → Call → ℕ
number_of s call = pick (well_formed s) (pick (lacks_enhsel s.part call) 2 0) 8

-- the number of a state's chip
unfoldable pub chip_number : Part → ℕ
chip_number Nt6861 = 6861
chip_number (Nt6862 enhsel) = 6862
