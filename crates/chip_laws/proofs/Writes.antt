-- A well formed core stays well formed under every write, taken or refused.
-- Assumes nothing.
use mathlib.Core.Path.{◌≡◌, ◌∙◌}
use mathlib.Core.Bool.{Bool, true, false}
use Prim.Native.Nat.{ℕ, ◌-◌, ◌<◌}
use native.Mathlib.Omega.{arith}
use lib.Bits.{bit_or}
use lib.Dec.{eqb}
use Rattle.bits.specs.Byte.{bit, merge}
use Rattle.bits.proofs.Bitwise.{bit_merge}
use Rattle.registers.specs.Names.{HVCON}
use Rattle.registers.specs.Table.{write_mask, is_writable, row_of}
use Rattle.bits.proofs.Level.{pick_by}
use Rattle.sync.specs.declared.Sync.{Sync}
use Rattle.sync.specs.Sync.{well_sync}
use Rattle.sync.proofs.WellFormed.{hsel_cleared_well, clear_overflow_well}
use Rattle.bus.specs.Bus.{mode, pulls_scl, compared_in}
use Rattle.chip.specs.declared.Bus.{Bus}
use Rattle.chip.specs.declared.Core.{Core}
use Rattle.chip.specs.State.{bus_of, mode_of}
use Rattle.chip_writes.specs.declared.Target.{Target}
use Rattle.chip_writes.specs.declared.Target.TheVariants.{Stored, Mdcon, Hvcon, Clrflg, Clrwdt, Iiadr, Iidat, Iists, Bt}
use Rattle.chip_writes.specs.Writes.{target, clrflg_written, clrwdt_written, written_to, written, write_register}
use Rattle.chip_ddc_writes.specs.DdcWrites.{sync_at_hsel, mdcon_written, iiadr_written, status_written, iists_written, bus_let_go, bus_risen, bus_at_iidat, iidat_written}
use Rattle.registers.specs.Table.{updated}
use Rattle.chip_laws.specs.Formed.{BusFormed}
use Rattle.chip_laws.proofs.Formed.{Formed, with_irqx_lem, with_mode, with_polarity_lem, with_bt_lem, with_watchdog_lem, with_sync_lem, with_bus_lem}
use Rattle.chip_laws.proofs.Ranges.{and_below, merge_below, pick_below}
use Rattle.chip_laws.proofs.Bus.{mode_formed, rise_formed, let_go_formed, held_in_ddc2b}

hsel_well : (old new : Bool) (s : Sync) → well_sync s ≡ true → well_sync (sync_at_hsel old new s) ≡ true
unfolding sync_at_hsel
hsel_well true true s h = h
hsel_well true false s h = hsel_cleared_well s h
hsel_well false new s h = h

mdcon_formed : (c : Core) (b : ℕ) → Formed c → Formed (mdcon_written c b)
unfolding mdcon_written write_mask row_of
mdcon_formed c b f =
    with_sync_lem
    (with_mode f _ _ (merge_below 4 0x0f c.mdcon b (omega arith) f.mdcon)
    (mode_formed (mode_of c) _ c.bus f.bus.iists f.bus.iiadr f.bus.fits))
    _ (hsel_well (bit 2 c.mdcon) _ c.sync f.sync)

clrflg_formed : (c : Core) (b : ℕ) → Formed c → Formed (clrflg_written c b)
unfolding clrflg_written
clrflg_formed c b f =
    with_sync_lem (with_irqx_lem f _ (and_below 6 c.irqx (255 - b) f.irqx)) _ (clear_overflow_well (bit 7 b) (bit 6 b) c.sync f.sync)

clrwdt_formed : (c : Core) (b : ℕ) → Formed c → Formed (clrwdt_written c b)
unfolding clrwdt_written
clrwdt_formed c b f = with_watchdog_lem f _ (pick_below (eqb b 0x55) 0 c.watchdog 64 (omega arith) f.watchdog)

iiadr_bit : (old b : ℕ) → bit 0 old ≡ true → bit 0 (merge 0xfe old b) ≡ true
unfolding bit
iiadr_bit old b h = bit_merge 0 0xfe old b (omega arith) (omega arith) ∙ h

iiadr_formed : (c : Core) (b : ℕ) → Formed c → Formed (iiadr_written c b)
unfolding iiadr_written write_mask row_of
iiadr_formed c b f =
    with_bus_lem f _ (record { iists = f.bus.iists; iiadr = iiadr_bit c.bus.iiadr b f.bus.iiadr; fits = f.bus.fits })

status_formed : (old b : ℕ) → old < 64 → status_written old b < 64
unfolding status_written write_mask row_of
status_formed old b h = and_below 6 _ (bit_or b 0xcf) (merge_below 6 0x0d old b (omega arith) h)

iists_formed : (c : Core) (b : ℕ) → Formed c → Formed (iists_written c b)
unfolding iists_written
iists_formed c b f =
    with_bus_lem f _
    (mode_formed (mode_of c) c.mdcon
    (bus_of (status_written c.bus.iists b) c.bus.iiadr c.bus.iidat c.bus.phase c.bus.shifter)
    (status_formed c.bus.iists b f.bus.iists) f.bus.iiadr f.bus.fits)

-- SCL let go, and the rise that follows where SCL's outside level is 1
iidat_bus : (mdcon : ℕ) (scl sda : Bool) (b : ℕ) (bus : Bus) → BusFormed mdcon bus → BusFormed mdcon (bus_at_iidat scl sda b bus)
unfolding bus_at_iidat bus_risen
iidat_bus mdcon scl sda b bus f =
    pick_by (BusFormed mdcon) (pulls_scl bus.phase)
    (λ h.
    let e = held_in_ddc2b (mode bus.iists mdcon) bus.phase bus.shifter f.fits h in
    let gone : BusFormed mdcon (bus_let_go b bus) = let_go_formed mdcon bus f e (compared_in bus.phase) (bit 2 bus.iists) b _ in
    pick_by (BusFormed mdcon) scl (λ _. rise_formed mdcon (bus_let_go b bus) gone e _) (λ _. gone))
    (λ _. record { iists = f.iists; iiadr = f.iiadr; fits = f.fits })

iidat_formed : (c : Core) (b : ℕ) → Formed c → Formed (iidat_written c b)
unfolding iidat_written
iidat_formed c b f = with_bus_lem f _ (iidat_bus c.mdcon c.scl c.sda b c.bus f.bus)

hvcon_lt : (old b : ℕ) → old < 16 → updated HVCON old b < 16
unfolding write_mask row_of
hvcon_lt old b h = merge_below 4 0x03 old b (omega arith) h

written_to_formed : (t : Target) (c : Core) (b : ℕ) → Formed c → Formed (written_to t c b)
unfolding written_to
written_to_formed Stored c b f = f
written_to_formed Mdcon c b f = mdcon_formed c b f
written_to_formed Hvcon c b f = with_polarity_lem f _ (hvcon_lt c.polarity b f.polarity)
written_to_formed Clrflg c b f = clrflg_formed c b f
written_to_formed Clrwdt c b f = clrwdt_formed c b f
written_to_formed Iiadr c b f = iiadr_formed c b f
written_to_formed Iidat c b f = iidat_formed c b f
written_to_formed Iists c b f = iists_formed c b f
written_to_formed Bt c b f = with_bt_lem f _

pub write_formed : (c : Core) (a b : ℕ) → Formed c → Formed (write_register c a b)
unfolding write_register written
write_formed c a b f =
    pick_by Formed c.reset
    (λ _. pick_by Formed (is_writable a) (λ _. written_to_formed (target a) c b f) (λ _. f))
    (λ _. f)
