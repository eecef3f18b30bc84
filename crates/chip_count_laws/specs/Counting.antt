-- Counting over a list of event words (document 01, "Counting sync"): what is counted, and what zeroes a count.
use Rattle.std.specs.Prelude.{ℕ, ◌+◌, ◌-◌, Bool, true, false, not, ◌&&◌, ◌||◌, List, [], ◌∷◌, eqb, ltb, Ok, Err}
use Rattle.bits.specs.Byte.{pick, num, bit}
use Rattle.registers.specs.Names.{MDCON, CLRFLG, HSEL, CLRHOV, CLRVOV}
use Rattle.events.specs.Pins as pin
use Rattle.events.specs.Clocks as clock
use Rattle.events.specs.Decoded.{Decoded}
use Rattle.events.specs.Kinds.{on_pin, on_write}
use Rattle.events.specs.declared.Event.TheVariants.{Read, Write, Pin, Clock, Polarity}
use Rattle.events.specs.Word.{decode}
use Rattle.sync.specs.Sync.{interval_last}
use Rattle.chip.specs.declared.Chip.{Chip}
use Rattle.chip.specs.State.{hsel_of}
use Rattle.chip_events.specs.Outcome.{next}
use Rattle.chip_flag_laws.specs.Causes.{put_high, is_clock, rises_vsynci}

-- ---- what is counted, told by the words and the levels before them

-- the level of a pin after an event
abbrev pub level_after : ℕ → Decoded → Bool → Bool
level_after p e old = on_pin old (λ q level. pick (eqb q p) level old) e

-- rises of HSYNCI while RESET is high
abbrev pub hsync_rises : Bool → Bool → List ℕ → ℕ
hsync_rises reset hsynci [] = 0
hsync_rises reset hsynci (w ∷ ws) =
    num (put_high pin.HSYNCI (decode w) && (reset && not hsynci))
    + hsync_rises (level_after pin.RESET (decode w) reset) (level_after pin.HSYNCI (decode w) hsynci) ws

-- 8 µs clocks while RESET is high
abbrev pub period_clocks : Bool → List ℕ → ℕ
period_clocks reset [] = 0
period_clocks reset (w ∷ ws) = num (is_clock clock.period (decode w) && reset) + period_clocks (level_after pin.RESET (decode w) reset) ws

-- ---- what zeroes a count

-- the chip is reset: RESET goes low, or the 64th watchdog clock comes
abbrev pub resets : Chip → Decoded → Bool
resets c (Ok (Read a)) = false
resets c (Ok (Write a b)) = false
resets c (Ok (Pin p level)) = eqb p pin.RESET && (c.core.reset && not level)
resets c (Ok (Clock k)) = eqb k clock.watchdog && (c.core.reset && ltb 62 c.core.watchdog)
resets c (Ok (Polarity vertical level)) = false
resets c (Err r) = false

-- a register is written while RESET is high, with this byte's bit as given
abbrev pub writes : ℕ → ℕ → Bool → Chip → Decoded → Bool
writes register k value c = on_write false (λ a b. eqb a register && (c.core.reset && pick value (bit k b) (not (bit k b))))

-- HCNT: a reset, a 1 in CLRHOV of CLRFLG, HSEL written from 1 to 0; and, as latching does not in overflow, a rise of VSYNCI with
-- HSEL 1, and with HSEL 0 the 1,024th 8 µs clock, which finds the interval at its last value
unfoldable pub zeroes_lines : Chip → Decoded → Bool
zeroes_lines c e =
    resets c e
    || (writes CLRFLG CLRHOV true c e
    || ((writes MDCON HSEL false c e && hsel_of c.core)
    || ((rises_vsynci c e && (hsel_of c.core && not c.core.sync.lines.overflow))
    || (is_clock clock.period e && (c.core.reset && (not (hsel_of c.core) && (ltb (interval_last - 1) c.core.sync.interval && not c.core.sync.lines.overflow)))))))

-- VCNT: a reset, a 1 in CLRVOV of CLRFLG, and, not in overflow, a rise of VSYNCI
unfoldable pub zeroes_periods : Chip → Decoded → Bool
zeroes_periods c e = resets c e || (writes CLRFLG CLRVOV true c e || (rises_vsynci c e && not c.core.sync.periods.overflow))

-- no word of the list zeroes the count
abbrev pub never : (Chip → Decoded → Bool) → Chip → List ℕ → Bool
never zeroes c [] = true
never zeroes c (w ∷ ws) = not (zeroes c (decode w)) && never zeroes (next c (decode w)) ws
