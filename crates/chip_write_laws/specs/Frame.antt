-- The parts of the state, and the registers whose write alters each (document 01, "Registers", "Flags, timer, watchdog, reset",
-- "Counting sync" and "The bus").
use Rattle.std.specs.Prelude.{ℕ, Bool, false, not, ◌&&◌, ◌||◌, ◌≡◌, eqb}
use Rattle.bits.specs.Byte.{pick}
use Rattle.registers.specs.Names.{MDCON, HVCON, IRQX, CLRFLG, CLRWDT, IIADR, IIDAT, IISTS, BT}
use Rattle.registers.specs.Table.{write_mask}
use Rattle.chip.specs.declared.Chip.{Chip}
use Rattle.chip.specs.State.{register_at}

-- the parts: a place of the register array; the bytes apart; the counters; the bus; the outside levels
pub data Part : Type 0 where
  Place : ℕ → Part
  Irqx Mdcon Polarity Bt Watchdog : Part
  LineCount LineLatch LineOverflow : Part
  PeriodCount PeriodLatch PeriodOverflow : Part
  Interval : Part
  Iists Iiadr Iidat BusPhase ShiftRegister : Part
  PinLevels SdaLevel SclLevel ResetLevel : Part

-- two states have the same part
abbrev pub SameAt : Part → Chip → Chip → Type 0
SameAt (Place n) x y = register_at x.registers n ≡ register_at y.registers n
SameAt Irqx x y = x.core.irqx ≡ y.core.irqx
SameAt Mdcon x y = x.core.mdcon ≡ y.core.mdcon
SameAt Polarity x y = x.core.polarity ≡ y.core.polarity
SameAt Bt x y = x.core.bt ≡ y.core.bt
SameAt Watchdog x y = x.core.watchdog ≡ y.core.watchdog
SameAt LineCount x y = x.core.sync.lines.count ≡ y.core.sync.lines.count
SameAt LineLatch x y = x.core.sync.lines.latch ≡ y.core.sync.lines.latch
SameAt LineOverflow x y = x.core.sync.lines.overflow ≡ y.core.sync.lines.overflow
SameAt PeriodCount x y = x.core.sync.periods.count ≡ y.core.sync.periods.count
SameAt PeriodLatch x y = x.core.sync.periods.latch ≡ y.core.sync.periods.latch
SameAt PeriodOverflow x y = x.core.sync.periods.overflow ≡ y.core.sync.periods.overflow
SameAt Interval x y = x.core.sync.interval ≡ y.core.sync.interval
SameAt Iists x y = x.core.bus.iists ≡ y.core.bus.iists
SameAt Iiadr x y = x.core.bus.iiadr ≡ y.core.bus.iiadr
SameAt Iidat x y = x.core.bus.iidat ≡ y.core.bus.iidat
SameAt BusPhase x y = x.core.bus.phase ≡ y.core.bus.phase
SameAt ShiftRegister x y = x.core.bus.shifter ≡ y.core.bus.shifter
SameAt PinLevels x y = x.core.pins ≡ y.core.pins
SameAt SdaLevel x y = x.core.sda ≡ y.core.sda
SameAt SclLevel x y = x.core.scl ≡ y.core.scl
SameAt ResetLevel x y = x.core.reset ≡ y.core.reset

-- registers whose write acts elsewhere than at their place in the array
abbrev pub acts_elsewhere : ℕ → Bool
acts_elsewhere a =
    eqb a MDCON || (eqb a HVCON || (eqb a CLRFLG || (eqb a CLRWDT || (eqb a IIADR || (eqb a IIDAT || (eqb a IISTS || eqb a BT))))))

-- a write to the register may alter the part. A plain register alters its own place.
-- MDCON alters HCNT and the interval by HSEL, and the bus by MD1/2; ENDDC of II STS alters the bus likewise.
-- CLRFLG alters the flags, both counts and both overflow bits. II DAT alters the phase by letting SCL go
unfoldable pub alters : ℕ → Part → Bool
alters a (Place n) = eqb n a && not (acts_elsewhere a)
alters a Irqx = eqb a CLRFLG
alters a Mdcon = eqb a MDCON
alters a Polarity = eqb a HVCON
alters a Bt = eqb a BT
alters a Watchdog = eqb a CLRWDT
alters a LineCount = eqb a MDCON || eqb a CLRFLG
alters a LineLatch = false
alters a LineOverflow = eqb a CLRFLG
alters a PeriodCount = eqb a CLRFLG
alters a PeriodLatch = false
alters a PeriodOverflow = eqb a CLRFLG
alters a Interval = eqb a MDCON
alters a Iists = eqb a IISTS
alters a Iiadr = eqb a IIADR
alters a Iidat = eqb a IIDAT
alters a BusPhase = eqb a MDCON || (eqb a IIDAT || eqb a IISTS)
alters a ShiftRegister = eqb a MDCON || eqb a IISTS
alters a PinLevels = false
alters a SdaLevel = false
alters a SclLevel = false
alters a ResetLevel = false

-- ---- the bits of a register

-- the byte that the state keeps for a register
unfoldable pub kept_byte : Chip → ℕ → ℕ
kept_byte c a =
    pick (eqb a MDCON) c.core.mdcon
    (pick (eqb a HVCON) c.core.polarity
    (pick (eqb a IRQX) c.core.irqx
    (pick (eqb a IIADR) c.core.bus.iiadr
    (pick (eqb a IIDAT) c.core.bus.iidat
    (pick (eqb a IISTS) c.core.bus.iists
    (pick (eqb a BT) c.core.bt
    (register_at c.registers a)))))))

-- the bits of it that a write to the register may change: those of its write mask, and in II STS also START and STOP
unfoldable pub changeable : ℕ → ℕ
changeable a = pick (eqb a IISTS) 0x3d (write_mask a)
