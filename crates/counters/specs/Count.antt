-- Counting and latching by plain numbers, over the last value of a counter: 4095 for 12 bits; base timer and watchdog
-- (document 01, "Counting sync" and "Flags, timer, watchdog, reset").
use Rattle.std.specs.Prelude.{ℕ, zero, suc, ◌+◌, Bool, false, not, ◌||◌, ltb}
use Rattle.bits.specs.Byte.{pick}

-- the count has reached its last value
abbrev pub at_last : ℕ → ℕ → Bool
at_last last n = not (ltb n last)

-- the count after a step that is due: one more below the last value; in overflow it stands
unfoldable pub counted : ℕ → Bool → ℕ → ℕ
counted last overflow count = pick overflow count (pick (ltb count last) (count + 1) count)

-- the overflow bit after a step that is due: one at the last value sets it, and steps never clear it
unfoldable pub overflowed : ℕ → Bool → ℕ → Bool
overflowed last overflow count = overflow || at_last last count

-- the latch and the count after latching, which takes the count and then zeroes it; in overflow neither moves
unfoldable pub latched : Bool → ℕ → ℕ → ℕ
latched overflow count latch = pick overflow latch count

unfoldable pub zeroed : Bool → ℕ → ℕ
zeroed overflow count = pick overflow count 0

-- the next value of a count that runs on from 0 after its last value: interval, base timer, watchdog
unfoldable pub cycle_next : ℕ → ℕ → ℕ
cycle_next last n = pick (ltb n last) (n + 1) 0

-- count and overflow bit after n steps from 0
unfoldable pub steps : ℕ → ℕ → ℕ × Bool
steps last zero = (0, false)
steps last (suc n) = (counted last (steps last n).1 (steps last n).0, overflowed last (steps last n).1 (steps last n).0)

-- a count that runs on, after n steps from 0
unfoldable pub cycles : ℕ → ℕ → ℕ
cycles last zero = 0
cycles last (suc n) = cycle_next last (cycles last n)

-- ---- base timer and watchdog

-- the base timer steps by one and runs on from 00
unfoldable pub timer_next : ℕ → ℕ
timer_next n = cycle_next 255 n

-- its step FF to 00 is the one that sets flag R
unfoldable pub timer_overflows : ℕ → Bool
timer_overflows n = at_last 255 n

-- watchdog clocks since reset or the last clearing
unfoldable pub watchdog_next : ℕ → ℕ
watchdog_next n = cycle_next 63 n

-- the 64th of them resets the chip
unfoldable pub watchdog_fires : ℕ → Bool
watchdog_fires n = at_last 63 n
