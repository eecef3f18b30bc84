-- A register write alters only the parts of the state that the table names for the register, and a read alters none.
-- Assumes nothing.
use mathlib.Core.Path.{◌≡◌, refl}
use mathlib.Core.Bool.{Bool, true, false, not, ◌&&◌, ◌||◌}
use mathlib.Core.List.{List}
use Prim.Native.Nat.{ℕ}
use native.Mathlib.Omega.{arith}
use borrow.Author.Tests.{eq-eqb}
use lib.Dec.{eqb}
use lib.ListN.{length, get_or}
use lib.Seq.{get_or-set_other, ext_get_or}
use Rattle.bits.specs.Byte.{pick, bit}
use Rattle.bits.proofs.Finite.{neither}
use Rattle.registers.specs.Names.{MDCON, CLRFLG, IIADR, IIDAT, IISTS}
use Rattle.std.specs.Prelude.{Ok}
use Rattle.events.specs.declared.Event.TheVariants.{Read, Write}
use Rattle.bits.proofs.Level.{pick_by}
use Rattle.sync.specs.declared.Sync.{Sync}
use Rattle.sync.specs.Sync.{clear_lines, clear_periods, zero_lines, hsel_cleared, clear_overflow}
use Rattle.bus.specs.declared.Mode.{Mode}
use Rattle.bus.specs.Bus.{changes_mode, pulls_scl, compared_in}
use Rattle.bus_ddc2b.proofs.First.{status_first}
use Rattle.chip.specs.declared.Bus.{Bus}
use Rattle.chip.specs.declared.Chip.{Chip}
use Rattle.chip.specs.State.{released, register_at}
use Rattle.chip_edges.specs.Edges.{bus_at_mode, bus_at_rise}
use Rattle.chip_ddc_writes.specs.DdcWrites.{sync_at_hsel, bus_let_go, bus_risen, bus_at_iidat, with_iidat}
use Rattle.chip_events.specs.Outcome.{core_after, kept_after, next}
use Rattle.chip_write_laws.specs.Frame.{Part, SameAt, acts_elsewhere, alters}
use Rattle.chip_write_laws.specs.Frame.Part.{Place, Irqx, Mdcon, Polarity, Bt, Watchdog, LineCount, LineLatch, LineOverflow, PeriodCount, PeriodLatch, PeriodOverflow, Interval, Iists, Iiadr, Iidat, BusPhase, ShiftRegister, PinLevels, SdaLevel, SclLevel, ResetLevel}
use Rattle.chip_write_laws.specs.ModeKeeps.{ModeKeeps}
use Rattle.chip_write_laws.proofs.Fields.{fields, by_write}

-- ---- what the operations of a write keep

-- HSEL changed from 1 to 0: latch and overflow bit of HCNT, and all of VCNT
record HselKeeps (s after : Sync) : Type 0 where
  pub latch : after.lines.latch ≡ s.lines.latch
  pub overflow : after.lines.overflow ≡ s.lines.overflow
  pub periods : after.periods ≡ s.periods

hsel_keeps : (old new : Bool) (s : Sync) → HselKeeps s (sync_at_hsel old new s)
unfolding sync_at_hsel hsel_cleared zero_lines
hsel_keeps true true s = record { latch = refl; overflow = refl; periods = refl }
hsel_keeps true false s = record { latch = refl; overflow = refl; periods = refl }
hsel_keeps false new s = record { latch = refl; overflow = refl; periods = refl }

-- CLRFLG: both latches and the interval
record ClearKeeps (s after : Sync) : Type 0 where
  pub lines : after.lines.latch ≡ s.lines.latch
  pub periods : after.periods.latch ≡ s.periods.latch
  pub interval : after.interval ≡ s.interval

clear_keeps : (h v : Bool) (s : Sync) → ClearKeeps s (clear_overflow h v s)
unfolding clear_overflow clear_lines clear_periods
clear_keeps true true s = record { lines = refl; periods = refl; interval = refl }
clear_keeps true false s = record { lines = refl; periods = refl; interval = refl }
clear_keeps false true s = record { lines = refl; periods = refl; interval = refl }
clear_keeps false false s = record { lines = refl; periods = refl; interval = refl }

mode_by_lem : (changes : Bool) (b : Bus) → ModeKeeps b (pick changes (released b) b)
unfolding released
mode_by_lem true b = record { iists = refl; iiadr = refl; iidat = refl }
mode_by_lem false b = record { iists = refl; iiadr = refl; iidat = refl }

pub mode_keeps : (old new : Mode) (b : Bus) → ModeKeeps b (bus_at_mode old new b)
unfolding bus_at_mode
mode_keeps old new b = mode_by_lem (changes_mode old new) b

-- a write to II DAT: II STS, since RXAK is put by a later rise than the one that letting SCL go can make; II ADR; the shift register
record DataKeeps (b after : Bus) : Type 0 where
  pub iists : after.iists ≡ b.iists
  pub iiadr : after.iiadr ≡ b.iiadr
  pub shifter : after.shifter ≡ b.shifter

data_by : (held scl sda : Bool) (byte : ℕ) (b : Bus) → DataKeeps b (pick held (bus_risen scl sda (bus_let_go byte b)) (with_iidat byte b))
unfolding bus_risen bus_at_rise
data_by true true sda byte b = record { iists = status_first (compared_in b.phase) (bit 2 b.iists) _ byte b.iists; iiadr = refl; shifter = refl }
data_by true false sda byte b = record { iists = refl; iiadr = refl; shifter = refl }
data_by false scl sda byte b = record { iists = refl; iiadr = refl; shifter = refl }

data_keeps : (scl sda : Bool) (byte : ℕ) (b : Bus) → DataKeeps b (bus_at_iidat scl sda byte b)
unfolding bus_at_iidat
data_keeps scl sda byte b = data_by (pulls_scl b.phase) scl sda byte b

-- ---- a write that is taken

-- an address that is not the place's
other : (n a : ℕ) (elsewhere : Bool) → elsewhere ≡ false → (eqb n a && not elsewhere) ≡ false → n ≡ a → ⊥
other n a elsewhere e h same = let z : ◌≡◌ {A = Bool} true false = rw (eq-eqb n a same, e) at h in let k : ◌≡◌ {A = ℕ} 0 1 = cc in omega arith

module _ (c : Chip) (a b : ℕ) where
  place_kept : (n : ℕ) → alters a (Place n) ≡ false → SameAt (Place n) (fields c a b) c
  unfolding alters
  place_kept n h =
      pick_by (λ (l : List ℕ). get_or l n 0 ≡ register_at c.registers n) (acts_elsewhere a)
      (λ _. refl)
      (λ e. get_or-set_other c.registers a n _ 0 (other n a (acts_elsewhere a) e h))

  line_count_kept : alters a LineCount ≡ false → SameAt LineCount (fields c a b) c
  unfolding alters
  line_count_kept h = let k = neither (eqb a MDCON) (eqb a CLRFLG) h in rw (k.0, k.1)

  phase_kept : alters a BusPhase ≡ false → SameAt BusPhase (fields c a b) c
  unfolding alters
  phase_kept h =
      let j = neither (eqb a MDCON) (eqb a IIDAT || eqb a IISTS) h in
      let k = neither (eqb a IIDAT) (eqb a IISTS) j.1 in
      rw (j.0, k.0, k.1) (pick_by (λ (x : Bus). x.phase ≡ c.core.bus.phase) (eqb a IIADR) (λ _. refl) (λ _. refl))

  shifter_kept : alters a ShiftRegister ≡ false → SameAt ShiftRegister (fields c a b) c
  unfolding alters
  shifter_kept h =
      let k = neither (eqb a MDCON) (eqb a IISTS) h in
      let P : Bus → Type 0 = λ (x : Bus). x.shifter ≡ c.core.bus.shifter in
      rw (k.0, k.1) (pick_by P (eqb a IIADR) (λ _. refl) (λ _. pick_by P (eqb a IIDAT) (λ _. (data_keeps c.core.scl c.core.sda b c.core.bus).shifter) (λ _. refl)))

  at_fields : (p : Part) → alters a p ≡ false → SameAt p (fields c a b) c
  unfolding alters
  at_fields (Place n) h = place_kept n h
  at_fields Irqx h = rw h
  at_fields Mdcon h = rw h
  at_fields Polarity h = rw h
  at_fields Bt h = rw h
  at_fields Watchdog h = rw h
  at_fields LineCount h = line_count_kept h
  at_fields LineLatch h =
      pick_by (λ (s : Sync). s.lines.latch ≡ c.core.sync.lines.latch) (eqb a MDCON) (λ _. (hsel_keeps _ _ c.core.sync).latch)
      (λ _. pick_by (λ (s : Sync). s.lines.latch ≡ c.core.sync.lines.latch) (eqb a CLRFLG) (λ _. (clear_keeps _ _ c.core.sync).lines) (λ _. refl))
  at_fields LineOverflow h = rw h (pick_by (λ (s : Sync). s.lines.overflow ≡ c.core.sync.lines.overflow) (eqb a MDCON) (λ _. (hsel_keeps _ _ c.core.sync).overflow) (λ _. refl))
  at_fields PeriodCount h = rw h (pick_by (λ (s : Sync). s.periods.count ≡ c.core.sync.periods.count) (eqb a MDCON) (λ _. rw (hsel_keeps _ _ c.core.sync).periods) (λ _. refl))
  at_fields PeriodLatch h =
      pick_by (λ (s : Sync). s.periods.latch ≡ c.core.sync.periods.latch) (eqb a MDCON) (λ _. rw (hsel_keeps _ _ c.core.sync).periods)
      (λ _. pick_by (λ (s : Sync). s.periods.latch ≡ c.core.sync.periods.latch) (eqb a CLRFLG) (λ _. (clear_keeps _ _ c.core.sync).periods) (λ _. refl))
  at_fields PeriodOverflow h = rw h (pick_by (λ (s : Sync). s.periods.overflow ≡ c.core.sync.periods.overflow) (eqb a MDCON) (λ _. rw (hsel_keeps _ _ c.core.sync).periods) (λ _. refl))
  at_fields Interval h = rw h (pick_by (λ (s : Sync). s.interval ≡ c.core.sync.interval) (eqb a CLRFLG) (λ _. (clear_keeps _ _ c.core.sync).interval) (λ _. refl))
  at_fields Iists h =
      let P : Bus → Type 0 = λ (x : Bus). x.iists ≡ c.core.bus.iists in
      rw h (pick_by P (eqb a MDCON) (λ _. (mode_keeps _ _ c.core.bus).iists)
      (λ _. pick_by P (eqb a IIADR) (λ _. refl)
      (λ _. pick_by P (eqb a IIDAT) (λ _. (data_keeps c.core.scl c.core.sda b c.core.bus).iists) (λ _. refl))))
  at_fields Iiadr h =
      let P : Bus → Type 0 = λ (x : Bus). x.iiadr ≡ c.core.bus.iiadr in
      rw h (pick_by P (eqb a MDCON) (λ _. (mode_keeps _ _ c.core.bus).iiadr)
      (λ _. pick_by P (eqb a IIDAT) (λ _. (data_keeps c.core.scl c.core.sda b c.core.bus).iiadr)
      (λ _. pick_by P (eqb a IISTS) (λ _. (mode_keeps _ _ _).iiadr) (λ _. refl))))
  at_fields Iidat h =
      let P : Bus → Type 0 = λ (x : Bus). x.iidat ≡ c.core.bus.iidat in
      rw h (pick_by P (eqb a MDCON) (λ _. (mode_keeps _ _ c.core.bus).iidat)
      (λ _. pick_by P (eqb a IIADR) (λ _. refl)
      (λ _. pick_by P (eqb a IISTS) (λ _. (mode_keeps _ _ _).iidat) (λ _. refl))))
  at_fields BusPhase h = phase_kept h
  at_fields ShiftRegister h = shifter_kept h
  at_fields PinLevels h = refl
  at_fields SdaLevel h = refl
  at_fields SclLevel h = refl
  at_fields ResetLevel h = refl

-- ---- the theorem

same : (p : Part) (c : Chip) → SameAt p c c
same (Place n) c = refl
same Irqx c = refl
same Mdcon c = refl
same Polarity c = refl
same Bt c = refl
same Watchdog c = refl
same LineCount c = refl
same LineLatch c = refl
same LineOverflow c = refl
same PeriodCount c = refl
same PeriodLatch c = refl
same PeriodOverflow c = refl
same Interval c = refl
same Iists c = refl
same Iiadr c = refl
same Iidat c = refl
same BusPhase c = refl
same ShiftRegister c = refl
same PinLevels c = refl
same SdaLevel c = refl
same SclLevel c = refl
same ResetLevel c = refl

-- a write to any register, taken or refused, leaves each part that the table does not name for it
pub frame : (c : Chip) (a b : ℕ) (p : Part) → alters a p ≡ false → SameAt p (next c (Ok (Write a b))) c
frame c a b p k = by_write (λ (x : Chip). SameAt p x c) c a b (λ _ _. at_fields c a b p k) (λ _. same p c)

-- a read leaves the state as it was
pub read_frame : (c : Chip) (a : ℕ) → next c (Ok (Read a)) ≡ c
unfolding next core_after kept_after
read_frame c a = refl

-- ---- the parts are the whole state

same_sync : (x y : Sync) → x.lines.count ≡ y.lines.count → x.lines.latch ≡ y.lines.latch → x.lines.overflow ≡ y.lines.overflow →
    x.periods.count ≡ y.periods.count → x.periods.latch ≡ y.periods.latch → x.periods.overflow ≡ y.periods.overflow → x.interval ≡ y.interval → x ≡ y
same_sync x y lc ll lo pc pl po i =
    λ k. record {
      lines = record { count = lc k; latch = ll k; overflow = lo k };
      periods = record { count = pc k; latch = pl k; overflow = po k };
      interval = i k;
    }

same_bus : (x y : Bus) → x.iists ≡ y.iists → x.iiadr ≡ y.iiadr → x.iidat ≡ y.iidat → x.phase ≡ y.phase → x.shifter ≡ y.shifter → x ≡ y
same_bus x y s a d p r = λ k. record { iists = s k; iiadr = a k; iidat = d k; phase = p k; shifter = r k }

-- states with the same parts are the same, where their arrays are of one length, as all of the code's are
pub whole : (x y : Chip) → length x.registers ≡ length y.registers → ((p : Part) → SameAt p x y) → x ≡ y
whole x y l h =
    let registers = ext_get_or 0 x.registers y.registers l (λ i _. h (Place i)) in
    let sync = same_sync x.core.sync y.core.sync (h LineCount) (h LineLatch) (h LineOverflow) (h PeriodCount) (h PeriodLatch) (h PeriodOverflow) (h Interval) in
    let bus = same_bus x.core.bus y.core.bus (h Iists) (h Iiadr) (h Iidat) (h BusPhase) (h ShiftRegister) in
    λ k. record {
      registers = registers k;
      core =
          record {
            irqx = h Irqx k;
            mdcon = h Mdcon k;
            polarity = h Polarity k;
            bt = h Bt k;
            watchdog = h Watchdog k;
            sync = sync k;
            bus = bus k;
            pins = h PinLevels k;
            sda = h SdaLevel k;
            scl = h SclLevel k;
            reset = h ResetLevel k;
          };
    }
