-- A register write alters only the parts of the state that the register, the byte and the state before it name.
-- Assumes nothing.
use mathlib.Core.Path.{◌≡◌, refl, ap}
use mathlib.Core.Bool.{Bool, true, false, not, ◌&&◌, ◌||◌, beq}
use Prim.Native.Nat.{ℕ}
use native.Mathlib.Omega.{arith}
use lib.Dec.{eqb}
use lib.Bits.{bit_or}
use Rattle.bits.specs.Byte.{pick, bit}
use Rattle.bits.proofs.Bitwise.{bit_and_lem, bit_or_lem, bit_merge}
use Rattle.bits.proofs.Finite.{neither}
use Rattle.bits.proofs.Level.{pick_by}
use Rattle.registers.specs.Names.{MDCON, CLRFLG, CLRWDT, IIADR, IIDAT, IISTS, HSEL, MD12, ENDDC, CLRHOV, CLRVOV}
use Rattle.registers.specs.Table.{row_of, write_mask, updated}
use Rattle.std.specs.Prelude.{Ok}
use Rattle.events.specs.declared.Event.TheVariants.{Write}
use Rattle.sync.specs.declared.Sync.{Sync}
use Rattle.sync.specs.declared.PeriodCounter.{PeriodCounter}
use Rattle.sync.specs.Sync.{clear_lines, clear_periods, zero_lines, hsel_cleared, clear_overflow}
use Rattle.bus.specs.declared.Mode.{Mode}
use Rattle.bus.specs.Bus.{mode, mode_by, changes_mode, pulls_scl}
use Rattle.chip.specs.declared.Bus.{Bus}
use Rattle.chip.specs.declared.Chip.{Chip}
use Rattle.chip_edges.specs.Edges.{bus_at_mode, bus_at_rise}
use Rattle.chip_ddc_writes.specs.DdcWrites.{sync_at_hsel, status_written, bus_risen, bus_at_iidat}
use Rattle.chip_events.specs.Outcome.{next}
use Rattle.chip_write_laws.specs.Frame.{Part, SameAt}
use Rattle.chip_write_laws.specs.Frame.Part.{Place, Irqx, Mdcon, Polarity, Bt, Watchdog, LineCount, LineLatch, LineOverflow, PeriodCount, PeriodLatch, PeriodOverflow, Interval, Iists, Iiadr, Iidat, BusPhase, ShiftRegister, PinLevels, SdaLevel, SclLevel, ResetLevel}
use Rattle.chip_write_laws.proofs.Fields.{fields, by_write}
use Rattle.chip_write_laws.proofs.Frame.{frame}
use Rattle.bus_transfer_laws.specs.Altered.{turns, clears_hsel, turns_mode, alters_by}

-- ---- sync

-- HSEL not cleared: nothing of the counters and the interval
hsel_kept : (old new : Bool) (s : Sync) → (old && not new) ≡ false → sync_at_hsel old new s ≡ s
unfolding sync_at_hsel
hsel_kept true true s h = refl
hsel_kept true false s h = let z : ◌≡◌ {A = Bool} true false = h in cc
hsel_kept false new s h = refl

-- HSEL cleared: all of VCNT, and HCNT's overflow bit
record HselKeeps (s after : Sync) : Type 0 where
  pub overflow : after.lines.overflow ≡ s.lines.overflow
  pub periods : after.periods ≡ s.periods

hsel_keeps : (old new : Bool) (s : Sync) → HselKeeps s (sync_at_hsel old new s)
unfolding sync_at_hsel hsel_cleared zero_lines
hsel_keeps true true s = record { overflow = refl; periods = refl }
hsel_keeps true false s = record { overflow = refl; periods = refl }
hsel_keeps false new s = record { overflow = refl; periods = refl }

lines_kept : (h v : Bool) (s : Sync) → h ≡ false → (clear_overflow h v s).lines ≡ s.lines
unfolding clear_overflow clear_lines
lines_kept h v s e = rw e

periods_kept : (h v : Bool) (s : Sync) → v ≡ false → (clear_overflow h v s).periods ≡ s.periods
unfolding clear_overflow clear_periods
periods_kept h v s e = rw e

interval_kept : (h v : Bool) (s : Sync) → (clear_overflow h v s).interval ≡ s.interval
unfolding clear_overflow
interval_kept h v s = refl

-- ---- bits that a write takes

hsel_taken : (old b : ℕ) → bit HSEL (updated MDCON old b) ≡ bit HSEL b
unfolding write_mask row_of bit
hsel_taken old b = bit_merge HSEL 0x0f old b (omega arith) (omega arith)

md_taken : (old b : ℕ) → bit MD12 (updated MDCON old b) ≡ bit MD12 b
unfolding write_mask row_of bit
md_taken old b = bit_merge MD12 0x0f old b (omega arith) (omega arith)

absorbed : (x other : Bool) → (pick (bit ENDDC 0x0d) x other && (x || bit ENDDC 0xcf)) ≡ x
unfolding bit
absorbed true other = refl
absorbed false other = refl

enddc_taken : (old b : ℕ) → bit ENDDC (status_written old b) ≡ bit ENDDC b
unfolding status_written write_mask row_of
enddc_taken old b = rw (bit_and_lem ENDDC (updated IISTS old b) (bit_or b 0xcf), bit_or_lem ENDDC b 0xcf, bit_merge ENDDC 0x0d old b (omega arith) (omega arith)) (absorbed (bit ENDDC b) (bit ENDDC old))

-- ---- the mode

md_kept : (enddc old new : Bool) → (not enddc && not (beq new old)) ≡ false → changes_mode (mode_by enddc old) (mode_by enddc new) ≡ false
unfolding changes_mode
md_kept true old new h = refl
md_kept false true true h = refl
md_kept false true false h = let z : ◌≡◌ {A = Bool} true false = h in cc
md_kept false false true h = let z : ◌≡◌ {A = Bool} true false = h in cc
md_kept false false false h = refl

enddc_kept : (old new md : Bool) → not (beq new old) ≡ false → changes_mode (mode_by old md) (mode_by new md) ≡ false
unfolding changes_mode
enddc_kept true true md h = refl
enddc_kept true false md h = let z : ◌≡◌ {A = Bool} true false = h in cc
enddc_kept false true md h = let z : ◌≡◌ {A = Bool} true false = h in cc
enddc_kept false false true h = refl
enddc_kept false false false h = refl

mode_kept : (old new : Mode) (x : Bus) → changes_mode old new ≡ false → bus_at_mode old new x ≡ x
unfolding bus_at_mode
mode_kept old new x e = rw e

-- ---- a write that is taken

module _ (c : Chip) (a b : ℕ) where
  -- what a test of the register and a second test leaves once the first is known
  second : (x y : Bool) → x ≡ true → (x && y) ≡ false → y ≡ false
  second x y e h = rw e at h

  hsel_fields : clears_hsel c a b ≡ false → eqb a MDCON ≡ true → sync_at_hsel (bit HSEL c.core.mdcon) (bit HSEL (updated MDCON c.core.mdcon b)) c.core.sync ≡ c.core.sync
  hsel_fields h m = rw (hsel_taken c.core.mdcon b) (hsel_kept (bit HSEL c.core.mdcon) (bit HSEL b) c.core.sync (second (eqb a MDCON) _ m h))

  mdcon_fields : turns_mode c a b ≡ false → eqb a MDCON ≡ true → bus_at_mode (mode c.core.bus.iists c.core.mdcon) (mode c.core.bus.iists (updated MDCON c.core.mdcon b)) c.core.bus ≡ c.core.bus
  unfolding mode
  mdcon_fields h m =
      let k = neither (eqb a MDCON && (not (bit ENDDC c.core.bus.iists) && turns MD12 c.core.mdcon b)) _ h in
      rw (md_taken c.core.mdcon b)
      (mode_kept _ _ c.core.bus (md_kept (bit ENDDC c.core.bus.iists) (bit MD12 c.core.mdcon) (bit MD12 b) (second (eqb a MDCON) _ m k.0)))

  iists_fields : (x : Bus) → turns_mode c a b ≡ false → eqb a IISTS ≡ true → bus_at_mode (mode c.core.bus.iists c.core.mdcon) (mode (status_written c.core.bus.iists b) c.core.mdcon) x ≡ x
  unfolding mode
  iists_fields x h m =
      let k = neither (eqb a MDCON && (not (bit ENDDC c.core.bus.iists) && turns MD12 c.core.mdcon b)) _ h in
      rw (enddc_taken c.core.bus.iists b)
      (mode_kept _ _ x (enddc_kept (bit ENDDC c.core.bus.iists) (bit ENDDC b) (bit MD12 c.core.mdcon) (second (eqb a IISTS) _ m k.1)))

  data_fields : (scl sda : Bool) → pulls_scl c.core.bus.phase ≡ false → (bus_at_iidat scl sda b c.core.bus).phase ≡ c.core.bus.phase
  unfolding bus_at_iidat
  data_fields scl sda h = rw h

  at_watchdog : (eqb a CLRWDT && eqb b 0x55) ≡ false → SameAt Watchdog (fields c a b) c
  at_watchdog h = pick_by (λ (n : ℕ). n ≡ c.core.watchdog) (eqb a CLRWDT) (λ m. rw (second (eqb a CLRWDT) (eqb b 0x55) m h)) (λ _. refl)

  at_lines : (clears_hsel c a b || (eqb a CLRFLG && bit CLRHOV b)) ≡ false → SameAt LineCount (fields c a b) c
  at_lines h =
      let k = neither (clears_hsel c a b) _ h in
      let P : Sync → Type 0 = λ (s : Sync). s.lines.count ≡ c.core.sync.lines.count in
      pick_by P (eqb a MDCON) (λ m. rw (hsel_fields k.0 m))
      (λ _. pick_by P (eqb a CLRFLG) (λ m. rw (lines_kept (bit 7 b) (bit 6 b) c.core.sync (second (eqb a CLRFLG) (bit CLRHOV b) m k.1))) (λ _. refl))

  at_lines_overflow : (eqb a CLRFLG && bit CLRHOV b) ≡ false → SameAt LineOverflow (fields c a b) c
  at_lines_overflow h =
      let P : Sync → Type 0 = λ (s : Sync). s.lines.overflow ≡ c.core.sync.lines.overflow in
      pick_by P (eqb a MDCON) (λ _. (hsel_keeps _ _ c.core.sync).overflow)
      (λ _. pick_by P (eqb a CLRFLG) (λ m. rw (lines_kept (bit 7 b) (bit 6 b) c.core.sync (second (eqb a CLRFLG) (bit CLRHOV b) m h))) (λ _. refl))

  at_periods : (eqb a CLRFLG && bit CLRVOV b) ≡ false → (fields c a b).core.sync.periods ≡ c.core.sync.periods
  at_periods h =
      let P : Sync → Type 0 = λ (s : Sync). s.periods ≡ c.core.sync.periods in
      pick_by P (eqb a MDCON) (λ _. (hsel_keeps _ _ c.core.sync).periods)
      (λ _. pick_by P (eqb a CLRFLG) (λ m. periods_kept (bit 7 b) (bit 6 b) c.core.sync (second (eqb a CLRFLG) (bit CLRVOV b) m h)) (λ _. refl))

  at_interval : clears_hsel c a b ≡ false → SameAt Interval (fields c a b) c
  at_interval h =
      let P : Sync → Type 0 = λ (s : Sync). s.interval ≡ c.core.sync.interval in
      pick_by P (eqb a MDCON) (λ m. rw (hsel_fields h m)) (λ _. pick_by P (eqb a CLRFLG) (λ _. interval_kept (bit 7 b) (bit 6 b) c.core.sync) (λ _. refl))

  at_phase_lem : (turns_mode c a b || (eqb a IIDAT && pulls_scl c.core.bus.phase)) ≡ false → SameAt BusPhase (fields c a b) c
  at_phase_lem h =
      let k = neither (turns_mode c a b) _ h in
      let P : Bus → Type 0 = λ (x : Bus). x.phase ≡ c.core.bus.phase in
      pick_by P (eqb a MDCON) (λ m. rw (mdcon_fields k.0 m))
      (λ _. pick_by P (eqb a IIADR) (λ _. refl)
      (λ _. pick_by P (eqb a IIDAT) (λ m. data_fields c.core.scl c.core.sda (second (eqb a IIDAT) _ m k.1))
      (λ _. pick_by P (eqb a IISTS) (λ m. rw (iists_fields _ k.0 m)) (λ _. refl))))

  data_shifter : (scl sda : Bool) → (bus_at_iidat scl sda b c.core.bus).shifter ≡ c.core.bus.shifter
  unfolding bus_at_iidat bus_risen bus_at_rise
  data_shifter scl sda =
      let P : Bus → Type 0 = λ (x : Bus). x.shifter ≡ c.core.bus.shifter in
      pick_by P (pulls_scl c.core.bus.phase) (λ _. pick_by P scl (λ _. refl) (λ _. refl)) (λ _. refl)

  at_shifter : turns_mode c a b ≡ false → SameAt ShiftRegister (fields c a b) c
  at_shifter h =
      let P : Bus → Type 0 = λ (x : Bus). x.shifter ≡ c.core.bus.shifter in
      pick_by P (eqb a MDCON) (λ m. rw (mdcon_fields h m))
      (λ _. pick_by P (eqb a IIADR) (λ _. refl)
      (λ _. pick_by P (eqb a IIDAT) (λ _. data_shifter c.core.scl c.core.sda)
      (λ _. pick_by P (eqb a IISTS) (λ m. rw (iists_fields _ h m)) (λ _. refl))))

-- ---- the theorem

-- a write to any register, taken or refused, leaves each part that it does not alter by its byte at this state
pub altered : (c : Chip) (a b : ℕ) (p : Part) → alters_by c a b p ≡ false → SameAt p (next c (Ok (Write a b))) c
unfolding alters_by
altered c a b (Place n) h = frame c a b (Place n) h
altered c a b Irqx h = frame c a b Irqx h
altered c a b Mdcon h = frame c a b Mdcon h
altered c a b Polarity h = frame c a b Polarity h
altered c a b Bt h = frame c a b Bt h
altered c a b Watchdog h = by_write (λ (x : Chip). SameAt Watchdog x c) c a b (λ _ _. at_watchdog c a b h) (λ _. refl)
altered c a b LineCount h = by_write (λ (x : Chip). SameAt LineCount x c) c a b (λ _ _. at_lines c a b h) (λ _. refl)
altered c a b LineLatch h = frame c a b LineLatch h
altered c a b LineOverflow h = by_write (λ (x : Chip). SameAt LineOverflow x c) c a b (λ _ _. at_lines_overflow c a b h) (λ _. refl)
altered c a b PeriodCount h = by_write (λ (x : Chip). SameAt PeriodCount x c) c a b (λ _ _. ap (λ (p : PeriodCounter). p.count) (at_periods c a b h)) (λ _. refl)
altered c a b PeriodLatch h = frame c a b PeriodLatch h
altered c a b PeriodOverflow h = by_write (λ (x : Chip). SameAt PeriodOverflow x c) c a b (λ _ _. ap (λ (p : PeriodCounter). p.overflow) (at_periods c a b h)) (λ _. refl)
altered c a b Interval h = by_write (λ (x : Chip). SameAt Interval x c) c a b (λ _ _. at_interval c a b h) (λ _. refl)
altered c a b Iists h = frame c a b Iists h
altered c a b Iiadr h = frame c a b Iiadr h
altered c a b Iidat h = frame c a b Iidat h
altered c a b BusPhase h = by_write (λ (x : Chip). SameAt BusPhase x c) c a b (λ _ _. at_phase_lem c a b h) (λ _. refl)
altered c a b ShiftRegister h = by_write (λ (x : Chip). SameAt ShiftRegister x c) c a b (λ _ _. at_shifter c a b h) (λ _. refl)
altered c a b PinLevels h = frame c a b PinLevels h
altered c a b SdaLevel h = frame c a b SdaLevel h
altered c a b SclLevel h = frame c a b SclLevel h
altered c a b ResetLevel h = frame c a b ResetLevel h
