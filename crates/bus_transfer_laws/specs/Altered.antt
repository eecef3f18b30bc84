-- The parts of the state that a write may alter, by the register, the byte and the state before it (document 01, "Flags, timer, watchdog, reset",
-- "Counting sync" and "The bus"); `chip_write_laws` tells them by the register alone.
use Rattle.std.specs.Prelude.{ℕ, Bool, not, ◌&&◌, ◌||◌, eqb}
use Rattle.std.specs.Bool.{beq}
use Rattle.bits.specs.Byte.{bit}
use Rattle.registers.specs.Names.{MDCON, CLRFLG, CLRWDT, IIDAT, IISTS, HSEL, MD12, ENDDC, CLRHOV, CLRVOV}
use Rattle.bus.specs.Bus.{pulls_scl}
use Rattle.chip.specs.declared.Chip.{Chip}
use Rattle.chip_write_laws.specs.Frame.{Part, alters}
use Rattle.chip_write_laws.specs.Frame.Part.{Place, Irqx, Mdcon, Polarity, Bt, Watchdog, LineCount, LineLatch, LineOverflow, PeriodCount, PeriodLatch, PeriodOverflow, Interval, Iists, Iiadr, Iidat, BusPhase, ShiftRegister, PinLevels, SdaLevel, SclLevel, ResetLevel}

-- a written bit differs from the one that is there
abbrev pub turns : ℕ → ℕ → ℕ → Bool
turns k old b = not (beq (bit k b) (bit k old))

-- HSEL goes from 1 to 0
abbrev pub clears_hsel : Chip → ℕ → ℕ → Bool
clears_hsel c a b = eqb a MDCON && (bit HSEL c.core.mdcon && not (bit HSEL b))

-- the mode changes: MD1/2 while DDC is on, or DDC is turned on or off
abbrev pub turns_mode : Chip → ℕ → ℕ → Bool
turns_mode c a b =
    (eqb a MDCON && (not (bit ENDDC c.core.bus.iists) && turns MD12 c.core.mdcon b))
    || (eqb a IISTS && turns ENDDC c.core.bus.iists b)

-- CLRWDT alters the watchdog by 55H alone, CLRFLG a counter and its overflow bit by the bit for it, MDCON the count of lines and the interval by clearing HSEL; the phase and the shift
-- register change with the mode, and the phase by II DAT where SCL is held
unfoldable pub alters_by : Chip → ℕ → ℕ → Part → Bool
alters_by c a b (Place n) = alters a (Place n)
alters_by c a b Irqx = alters a Irqx
alters_by c a b Mdcon = alters a Mdcon
alters_by c a b Polarity = alters a Polarity
alters_by c a b Bt = alters a Bt
alters_by c a b Watchdog = eqb a CLRWDT && eqb b 0x55
alters_by c a b LineCount = clears_hsel c a b || (eqb a CLRFLG && bit CLRHOV b)
alters_by c a b LineLatch = alters a LineLatch
alters_by c a b LineOverflow = eqb a CLRFLG && bit CLRHOV b
alters_by c a b PeriodCount = eqb a CLRFLG && bit CLRVOV b
alters_by c a b PeriodLatch = alters a PeriodLatch
alters_by c a b PeriodOverflow = eqb a CLRFLG && bit CLRVOV b
alters_by c a b Interval = clears_hsel c a b
alters_by c a b Iists = alters a Iists
alters_by c a b Iiadr = alters a Iiadr
alters_by c a b Iidat = alters a Iidat
alters_by c a b BusPhase = turns_mode c a b || (eqb a IIDAT && pulls_scl c.core.bus.phase)
alters_by c a b ShiftRegister = turns_mode c a b
alters_by c a b PinLevels = alters a PinLevels
alters_by c a b SdaLevel = alters a SdaLevel
alters_by c a b SclLevel = alters a SclLevel
alters_by c a b ResetLevel = alters a ResetLevel
