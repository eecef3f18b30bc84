-- The overflow bits and the latches after an event (document 01, "Counting sync").
use Rattle.std.specs.Prelude.{ℕ, ◌-◌, Bool, true, not, ◌&&◌, ◌||◌, ltb, ◌≡◌}
use Rattle.bits.specs.Byte.{pick}
use Rattle.registers.specs.Names.{CLRFLG, CLRHOV, CLRVOV}
use Rattle.events.specs.Pins as pin
use Rattle.events.specs.Clocks as clock
use Rattle.events.specs.Decoded.{Decoded}
use Rattle.sync.specs.Sync.{count_last, interval_last}
use Rattle.chip.specs.declared.Chip.{Chip}
use Rattle.chip.specs.State.{hsel_of}
use Rattle.chip_flag_laws.specs.Causes.{put_high, is_clock, rises_vsynci}
use Rattle.chip_count_laws.specs.Counting.{resets, writes}
use Rattle.sync.specs.declared.Sync.{Sync}

-- ---- overflow: a step due at 4095 sets the bit

-- HCNT: a rise of HSYNCI while RESET is high
unfoldable pub overflows_lines : Chip → Decoded → Bool
overflows_lines c e = (put_high pin.HSYNCI e && (c.core.reset && not c.core.pins.hsynci)) && ltb (count_last - 1) c.core.sync.lines.count.0

-- VCNT: an 8 µs clock while RESET is high
unfoldable pub overflows_periods : Chip → Decoded → Bool
overflows_periods c e = (is_clock clock.period e && c.core.reset) && ltb (count_last - 1) c.core.sync.periods.count.0

-- cleared by a 1 in its bit of CLRFLG and by a reset
unfoldable pub clears_lines : Chip → Decoded → Bool
clears_lines c e = resets c e || writes CLRFLG CLRHOV true c e

unfoldable pub clears_periods : Chip → Decoded → Bool
clears_periods c e = resets c e || writes CLRFLG CLRVOV true c e

abbrev pub set_or_kept : Bool → Bool → Bool → Bool
set_or_kept sets clears before = sets || (before && not clears)

-- ---- latches: each takes its count as it was before the event; not in overflow

-- HCNT: a rise of VSYNCI with HSEL 1; with HSEL 0 the 8 µs clock that finds the interval at its last value
unfoldable pub latches_lines : Chip → Decoded → Bool
latches_lines c e =
    ((rises_vsynci c e && hsel_of c.core) || ((is_clock clock.period e && c.core.reset) && (not (hsel_of c.core) && ltb (interval_last - 1) c.core.sync.interval)))
    && not c.core.sync.lines.overflow

-- VCNT: a rise of VSYNCI
unfoldable pub latches_periods : Chip → Decoded → Bool
latches_periods c e = rises_vsynci c e && not c.core.sync.periods.overflow

-- 0 at a reset
abbrev pub latch_after : Bool → Bool → ℕ → ℕ → ℕ
latch_after reset latches count latch = pick reset 0 (pick latches count latch)

-- the counters after an event
pub record After (c : Chip) (e : Decoded) (s : Sync) : Type 0 where
  pub hcntov : s.lines.overflow ≡ set_or_kept (overflows_lines c e) (clears_lines c e) c.core.sync.lines.overflow
  pub vcntov : s.periods.overflow ≡ set_or_kept (overflows_periods c e) (clears_periods c e) c.core.sync.periods.overflow
  pub hlatch : s.lines.latch.0 ≡ latch_after (resets c e) (latches_lines c e) c.core.sync.lines.count.0 c.core.sync.lines.latch.0
  pub vlatch : s.periods.latch.0 ≡ latch_after (resets c e) (latches_periods c e) c.core.sync.periods.count.0 c.core.sync.periods.latch.0
