-- Calls of the sync counters of either chip (document 02, Wish 6, by document 001, 13.1), each from a state at a bound, with the number and the whole
-- state that come of it, written by hand.
use Rattle.std.specs.Prelude.{ℕ, Bool, true, false, List, [], ◌∷◌}
use Rattle.sync6862.specs.declared.Part.{Part}
use Rattle.sync6862.specs.declared.Part.TheVariants.{Nt6861, Nt6862}
use Rattle.sync6862.specs.declared.Counters.{Counters}
use Rattle.sync6862.specs.declared.Call.{Call}
use Rattle.sync6862.specs.declared.Call.TheVariants.{Hsynci, Vsynci, Clock, Enhsel, Hsel, ClearH, ClearV}
use Rattle.sync6862.specs.Unit.{answer, given_number, left}

-- ---- states

-- a count with its latch and its overflow bit
pub record Counter : Type 0 where
  pub count : ℕ
  pub latch : ℕ
  pub overflow : Bool

abbrev pub at : ℕ → ℕ → Counter
at count latch = record { count = count; latch = latch; overflow = false }

abbrev pub over : ℕ → ℕ → Counter
over count latch = record { count = count; latch = latch; overflow = true }

-- chip, HSEL, HCNT, VCNT, the interval, HSYNCI and VSYNCI
abbrev pub unit : Part → Bool → Counter → Counter → ℕ → Bool → Bool → Counters
unit part hsel h v interval hsynci vsynci =
    record {
      part = part;
      hsynci = hsynci;
      vsynci = vsynci;
      hsel = hsel;
      sync = record {
        lines = record { count = record { 0 = h.count }; latch = record { 0 = h.latch }; overflow = h.overflow };
        periods = record { count = record { 0 = v.count }; latch = record { 0 = v.latch }; overflow = v.overflow };
        interval = interval;
      };
    }

-- both pins low
abbrev pub low : Part → Bool → Counter → Counter → ℕ → Counters
low part hsel h v interval = unit part hsel h v interval false false

-- VSYNCI risen
abbrev pub risen : Part → Bool → Counter → Counter → ℕ → Counters
risen part hsel h v interval = unit part hsel h v interval false true

-- the NT6862 with ENHSEL 1, HCNT counting per field, and with ENHSEL 0, per interval
abbrev pub field : Part
field = Nt6862 true

abbrev pub timed : Part
timed = Nt6862 false

-- ---- a call, with what it gives

pub record Row : Type 0 where
  pub state : Counters
  pub call : Call
  pub number : ℕ
  pub next : Counters

abbrev pub row : Counters → Call → ℕ → Counters → Row
row state call number next = record { state = state; call = call; number = number; next = next }

-- the number given back and the state left
abbrev pub expected : List Row → List (ℕ × Counters)
expected [] = []
expected (r ∷ rs) = (r.number, r.next) ∷ expected rs

abbrev pub given : List Row → List (ℕ × Counters)
given [] = []
given (r ∷ rs) = (given_number (answer r.state r.call), left r.state (answer r.state r.call)) ∷ given rs

-- an ill formed state, unmoved; and one at the last value that is not
abbrev pub ill : Counters → Row
ill s = row s Clock 8 s

abbrev pub well : Counters → Row
well s = row s (Hsynci false) 0 s

unfoldable pub rows : List Row
rows =
    -- VCNT: 14 bits on the NT6862, 12 on the NT6861; a step due at the last value sets the overflow bit instead
    row (low field true (at 5 6) (at 16382 7) 0) Clock 0 (low field true (at 5 6) (at 16383 7) 0)
    ∷ row (low field true (at 5 6) (at 16383 7) 0) Clock 0 (low field true (at 5 6) (over 16383 7) 0)
    ∷ row (low field true (at 5 6) (over 16383 7) 0) Clock 0 (low field true (at 5 6) (over 16383 7) 0)
    ∷ row (low Nt6861 true (at 5 6) (at 4094 7) 0) Clock 0 (low Nt6861 true (at 5 6) (at 4095 7) 0)
    ∷ row (low Nt6861 true (at 5 6) (at 4095 7) 0) Clock 0 (low Nt6861 true (at 5 6) (over 4095 7) 0)
    ∷  -- HCNT: 12 bits on both; a level given again and a fall step nothing
    row (low field true (at 4094 6) (at 3 4) 0) (Hsynci true) 0 (unit field true (at 4095 6) (at 3 4) 0 true false)
    ∷ row (low field true (at 4095 6) (at 3 4) 0) (Hsynci true) 0 (unit field true (over 4095 6) (at 3 4) 0 true false)
    ∷ row (low Nt6861 true (at 4095 6) (at 3 4) 0) (Hsynci true) 0 (unit Nt6861 true (over 4095 6) (at 3 4) 0 true false)
    ∷ row (unit field true (at 8 6) (at 3 4) 0 true false) (Hsynci true) 0 (unit field true (at 8 6) (at 3 4) 0 true false)
    ∷ row (unit field true (at 8 6) (at 3 4) 0 true false) (Hsynci false) 0 (low field true (at 8 6) (at 3 4) 0)
    ∷  -- a rise of VSYNCI latches and zeroes VCNT, and HCNT by ENHSEL on the NT6862, by HSEL on the NT6861; not in overflow
    row (low field true (at 9 1) (at 8 2) 0) (Vsynci true) 0 (risen field true (at 0 9) (at 0 8) 0)
    ∷ row (low field false (at 9 1) (at 8 2) 0) (Vsynci true) 0 (risen field false (at 0 9) (at 0 8) 0)
    ∷ row (low timed true (at 9 1) (at 8 2) 77) (Vsynci true) 0 (risen timed true (at 9 1) (at 0 8) 77)
    ∷ row (low timed false (at 9 1) (at 8 2) 77) (Vsynci true) 0 (risen timed false (at 9 1) (at 0 8) 77)
    ∷ row (low Nt6861 true (at 9 1) (at 8 2) 77) (Vsynci true) 0 (risen Nt6861 true (at 0 9) (at 0 8) 77)
    ∷ row (low Nt6861 false (at 9 1) (at 8 2) 77) (Vsynci true) 0 (risen Nt6861 false (at 9 1) (at 0 8) 77)
    ∷ row (low field true (over 4095 1) (over 16383 2) 0) (Vsynci true) 0 (risen field true (over 4095 1) (over 16383 2) 0)
    ∷ row (risen field true (at 9 1) (at 8 2) 0) (Vsynci true) 0 (risen field true (at 9 1) (at 8 2) 0)
    ∷ row (risen field true (at 9 1) (at 8 2) 0) (Vsynci false) 0 (low field true (at 9 1) (at 8 2) 0)
    ∷  -- the interval: 2,048 periods at HSEL 0, 4,096 at HSEL 1, 1,024 on the NT6861; its end latches and zeroes HCNT, not in overflow; it stands while ENHSEL is 1
    row (low timed false (at 9 1) (at 8 2) 2046) Clock 0 (low timed false (at 9 1) (at 9 2) 2047)
    ∷ row (low timed false (at 9 1) (at 8 2) 2047) Clock 0 (low timed false (at 0 9) (at 9 2) 0)
    ∷ row (low timed true (at 9 1) (at 8 2) 2047) Clock 0 (low timed true (at 9 1) (at 9 2) 2048)
    ∷ row (low timed true (at 9 1) (at 8 2) 4095) Clock 0 (low timed true (at 0 9) (at 9 2) 0)
    ∷ row (low timed true (over 9 1) (at 8 2) 4095) Clock 0 (low timed true (over 9 1) (at 9 2) 0)
    ∷ row (low field true (at 9 1) (at 8 2) 4095) Clock 0 (low field true (at 9 1) (at 9 2) 4095)
    ∷ row (low field false (at 9 1) (at 8 2) 2047) Clock 0 (low field false (at 9 1) (at 9 2) 2047)
    ∷ row (low Nt6861 false (at 9 1) (at 8 2) 1022) Clock 0 (low Nt6861 false (at 9 1) (at 9 2) 1023)
    ∷ row (low Nt6861 false (at 9 1) (at 8 2) 1023) Clock 0 (low Nt6861 false (at 0 9) (at 9 2) 0)
    ∷ row (low Nt6861 true (at 9 1) (at 8 2) 1023) Clock 0 (low Nt6861 true (at 9 1) (at 9 2) 1023)
    ∷  -- on the NT6862 a change of ENHSEL or HSEL zeroes HCNT and the interval, in overflow too; the same value again does not
    row (low timed false (at 9 1) (at 8 2) 77) (Hsel true) 0 (low timed true (at 0 1) (at 8 2) 0)
    ∷ row (low timed true (over 9 1) (at 8 2) 77) (Hsel false) 0 (low timed false (over 0 1) (at 8 2) 0)
    ∷ row (low field true (at 9 1) (at 8 2) 77) (Hsel false) 0 (low field false (at 0 1) (at 8 2) 0)
    ∷ row (low timed true (at 9 1) (at 8 2) 77) (Hsel true) 0 (low timed true (at 9 1) (at 8 2) 77)
    ∷ row (low timed false (at 9 1) (at 8 2) 77) (Hsel false) 0 (low timed false (at 9 1) (at 8 2) 77)
    ∷ row (low timed true (at 9 1) (at 8 2) 77) (Enhsel true) 0 (low field true (at 0 1) (at 8 2) 0)
    ∷ row (low field true (over 9 1) (at 8 2) 77) (Enhsel false) 0 (low timed true (over 0 1) (at 8 2) 0)
    ∷ row (low field true (at 9 1) (at 8 2) 77) (Enhsel true) 0 (low field true (at 9 1) (at 8 2) 77)
    ∷  -- on the NT6861 HSEL from 1 to 0 alone; it has no ENHSEL
    row (low Nt6861 true (at 9 1) (at 8 2) 77) (Hsel false) 0 (low Nt6861 false (at 0 1) (at 8 2) 0)
    ∷ row (low Nt6861 false (at 9 1) (at 8 2) 77) (Hsel true) 0 (low Nt6861 true (at 9 1) (at 8 2) 77)
    ∷ row (low Nt6861 true (at 9 1) (at 8 2) 77) (Enhsel true) 2 (low Nt6861 true (at 9 1) (at 8 2) 77)
    ∷ row (low Nt6861 true (at 9 1) (at 8 2) 77) (Enhsel false) 2 (low Nt6861 true (at 9 1) (at 8 2) 77)
    ∷  -- clear H leaves the count on the NT6862; all other clearing zeroes it; latches and interval stay
    row (low field true (over 9 1) (over 8 2) 77) ClearH 0 (low field true (at 9 1) (over 8 2) 77)
    ∷ row (low Nt6861 true (over 9 1) (over 8 2) 77) ClearH 0 (low Nt6861 true (at 0 1) (over 8 2) 77)
    ∷ row (low field true (over 9 1) (over 8 2) 77) ClearV 0 (low field true (over 9 1) (at 0 2) 77)
    ∷ row (low Nt6861 true (over 9 1) (over 8 2) 77) ClearV 0 (low Nt6861 true (over 9 1) (at 0 2) 77)
    ∷  -- the last values that are well formed, and the first beyond them; 8 comes before 2
    well (low field true (over 4095 4095) (over 16383 16383) 4095)
    ∷ well (low timed false (at 4095 4095) (at 16383 16383) 2047)
    ∷ well (low Nt6861 true (over 4095 4095) (over 4095 4095) 1023)
    ∷ ill (low field true (at 4096 1) (at 8 2) 0)
    ∷ ill (low field true (at 9 4096) (at 8 2) 0)
    ∷ ill (low field true (at 9 1) (at 16384 2) 0)
    ∷ ill (low field true (at 9 1) (at 8 16384) 0)
    ∷ ill (low field true (at 9 1) (at 8 2) 4096)
    ∷ ill (low field false (at 9 1) (at 8 2) 2048)
    ∷ ill (low Nt6861 true (at 4096 1) (at 8 2) 0)
    ∷ ill (low Nt6861 true (at 9 4096) (at 8 2) 0)
    ∷ ill (low Nt6861 true (at 9 1) (at 4096 2) 0)
    ∷ ill (low Nt6861 true (at 9 1) (at 8 4096) 0)
    ∷ ill (low Nt6861 true (at 9 1) (at 8 2) 1024)
    ∷ row (low Nt6861 true (at 9 1) (at 8 2) 1024) (Enhsel true) 8 (low Nt6861 true (at 9 1) (at 8 2) 1024)
    ∷ []
