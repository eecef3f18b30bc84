-- A write that is taken, field by field of the state.
-- Assumes nothing.
use mathlib.Core.Path.{◌≡◌, refl}
use mathlib.Core.Bool.{Bool, true, false, ◌&&◌}
use Prim.Native.Nat.{ℕ, ◌-◌}
use lib.Dec.{eqb}
use lib.Bits.{bit_and}
use lib.ListN.{set}
use Rattle.bits.specs.Byte.{pick, bit}
use Rattle.registers.specs.Names.{MDCON, HVCON, CLRFLG, CLRWDT, IIADR, IIDAT, IISTS, BT}
use Rattle.registers.specs.Table.{is_writable}
use Rattle.std.specs.Prelude.{Ok}
use Rattle.events.specs.declared.Event.TheVariants.{Write}
use Rattle.sync.specs.Sync.{clear_overflow}
use Rattle.bus.specs.Bus.{mode}
use Rattle.chip.specs.declared.Core.{Core}
use Rattle.chip.specs.declared.Chip.{Chip}
use Rattle.chip.specs.declared.Kept.{Kept}
use Rattle.chip.specs.declared.Kept.TheVariants.{Same}
use Rattle.chip.specs.State.{bus_of, chip_of, register_at, keep}
use Rattle.chip_edges.specs.Edges.{bus_at_mode}
use Rattle.chip_writes.specs.declared.Target.{Target}
use Rattle.chip_writes.specs.Writes.{clrflg_written, clrwdt_written, written_to, kept_by, written, stored_by, write_register, write_kept}
use Rattle.chip_ddc_writes.specs.DdcWrites.{sync_at_hsel, mdcon_written, iiadr_written, status_written, iists_written, bus_at_iidat, iidat_written}
use Rattle.registers.specs.Table.{updated}
use Rattle.chip_writes.proofs.Addresses.{Addressed, at_mdcon, at_hvcon, at_clrflg, at_clrwdt, at_iiadr, at_iidat, at_iists, at_bt, at_plain, addressed}
use Rattle.chip_events.specs.Outcome.{core_after, kept_after, next}
use Rattle.chip_write_laws.specs.Frame.{acts_elsewhere}

-- each field of the core after a write to register a
abbrev pub core_fields : Core → ℕ → ℕ → Core
core_fields c a b =
    record {
      irqx = pick (eqb a CLRFLG) (bit_and c.irqx (255 - b)) c.irqx;
      mdcon = pick (eqb a MDCON) (updated MDCON c.mdcon b) c.mdcon;
      polarity = pick (eqb a HVCON) (updated HVCON c.polarity b) c.polarity;
      bt = pick (eqb a BT) (updated BT c.bt b) c.bt;
      watchdog = pick (eqb a CLRWDT) (pick (eqb b 0x55) 0 c.watchdog) c.watchdog;
      sync =
          pick (eqb a MDCON) (sync_at_hsel (bit 2 c.mdcon) (bit 2 (updated MDCON c.mdcon b)) c.sync)
          (pick (eqb a CLRFLG) (clear_overflow (bit 7 b) (bit 6 b) c.sync) c.sync);
      bus =
          pick (eqb a MDCON) (bus_at_mode (mode c.bus.iists c.mdcon) (mode c.bus.iists (updated MDCON c.mdcon b)) c.bus)
          (pick (eqb a IIADR) (bus_of c.bus.iists (updated IIADR c.bus.iiadr b) c.bus.iidat c.bus.phase c.bus.shifter)
          (pick (eqb a IIDAT) (bus_at_iidat c.scl c.sda b c.bus)
          (pick (eqb a IISTS)
          (bus_at_mode (mode c.bus.iists c.mdcon) (mode (status_written c.bus.iists b) c.mdcon)
          (bus_of (status_written c.bus.iists b) c.bus.iiadr c.bus.iidat c.bus.phase c.bus.shifter))
          c.bus)));
      pins = c.pins;
      sda = c.sda;
      scl = c.scl;
      reset = c.reset;
    }

-- each field of the state
abbrev pub fields : Chip → ℕ → ℕ → Chip
fields c a b = chip_of (pick (acts_elsewhere a) c.registers (set c.registers a (updated a (register_at c.registers a) b))) (core_fields c.core a b)

module _ (c : Core) (b : ℕ) where
  core_to : {t : Target} {a : ℕ} → Addressed t a → written_to t c b ≡ core_fields c a b
  unfolding written_to mdcon_written clrflg_written clrwdt_written iiadr_written iidat_written iists_written
  core_to at_mdcon = refl
  core_to at_hvcon = refl
  core_to at_clrflg = refl
  core_to at_clrwdt = refl
  core_to at_iiadr = refl
  core_to at_iidat = refl
  core_to at_iists = refl
  core_to at_bt = refl
  core_to (at_plain p) = rw (p.mdcon, p.hvcon, p.clrflg, p.clrwdt, p.iiadr, p.iidat, p.iists, p.bt)

module _ (c : Chip) (b : ℕ) where
  kept_to : {t : Target} {a : ℕ} → Addressed t a → keep (kept_by t c.registers a b) c.registers ≡ (fields c a b).registers
  unfolding kept_by
  kept_to at_mdcon = refl
  kept_to at_hvcon = refl
  kept_to at_clrflg = refl
  kept_to at_clrwdt = refl
  kept_to at_iiadr = refl
  kept_to at_iidat = refl
  kept_to at_iists = refl
  kept_to at_bt = refl
  kept_to (at_plain p) = rw (p.mdcon, p.hvcon, p.clrflg, p.clrwdt, p.iiadr, p.iidat, p.iists, p.bt)

pub written_fields : (c : Chip) (a b : ℕ) → chip_of (keep (stored_by c.registers a b) c.registers) (written c.core a b) ≡ fields c a b
unfolding written stored_by
written_fields c a b = rw (kept_to c b (addressed a), core_to c.core b (addressed a))

-- a write over its two tests: array and core are put together where both hold, and stay together else
tested : (P : Chip → Type 0) (c : Chip) (reset writable : Bool) (k : Kept) (new : Core) →
    (reset ≡ true → writable ≡ true → P (chip_of (keep k c.registers) new)) → ((reset && writable) ≡ false → P c) →
    P (chip_of (keep (pick reset (pick writable k Same) Same) c.registers) (pick reset (pick writable new c.core) c.core))
tested P c true true k new taken refused = taken refl refl
tested P c true false k new taken refused = refused refl
tested P c false writable k new taken refused = refused refl

-- what holds of these fields where the write is taken, and of the state where it is refused, holds after the write
pub by_write : (P : Chip → Type 0) (c : Chip) (a b : ℕ) → (c.core.reset ≡ true → is_writable a ≡ true → P (fields c a b)) → ((c.core.reset && is_writable a) ≡ false → P c) → P (next c (Ok (Write a b)))
unfolding next core_after kept_after write_register write_kept
by_write P c a b taken refused =
    tested P c c.core.reset (is_writable a) (stored_by c.registers a b) (written c.core a b)
    (λ r w. rw (written_fields c a b) (taken r w)) refused
