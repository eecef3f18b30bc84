-- What a write does (document 01, "Registers" and "Flags, timer, watchdog, reset").
use Rattle.std.specs.Prelude.{ℕ, ◌-◌, Bool, List, eqb}
use Rattle.std.specs.Int.Bits.{bit_and}
use Rattle.bits.specs.Byte.{pick, bit}
use Rattle.registers.specs.Names.{MDCON, HVCON, CLRFLG, CLRWDT, IIADR, IIDAT, IISTS, BT, CLRHOV, CLRVOV}
use Rattle.registers.specs.Table.{updated, is_writable}
use Rattle.sync.specs.Sync.{clear_overflow}
use Rattle.chip.specs.declared.Core.{Core}
use Rattle.chip.specs.declared.Kept.{Kept}
use Rattle.chip.specs.declared.Kept.TheVariants.{Same, Stored as StoredAt}
use Rattle.chip.specs.State.{register_at, with_irqx, with_polarity, with_bt, with_watchdog, with_sync}
use Rattle.chip_writes.specs.declared.Target.{Target}
use Rattle.chip_writes.specs.declared.Target.TheVariants.{Stored, Mdcon, Hvcon, Clrflg, Clrwdt, Iiadr, Iidat, Iists, Bt}
use Rattle.chip_ddc_writes.specs.DdcWrites.{mdcon_written, iiadr_written, iists_written, iidat_written}

-- the registers whose write does more than store under the mask, or whose byte stands apart
unfoldable pub target : ℕ → Target
target a =
    pick (eqb a MDCON) Mdcon
    (pick (eqb a HVCON) Hvcon
    (pick (eqb a CLRFLG) Clrflg
    (pick (eqb a CLRWDT) Clrwdt
    (pick (eqb a IIADR) Iiadr
    (pick (eqb a IIDAT) Iidat
    (pick (eqb a IISTS) Iists
    (pick (eqb a BT) Bt
    Stored)))))))

-- CLRFLG: a 1 in bits 5..0 clears the flag; CLRHOV and CLRVOV clear HCNTOV and VCNTOV and zero their counter
unfoldable pub clrflg_written : Core → ℕ → Core
clrflg_written c b = with_sync (with_irqx c (bit_and c.irqx (255 - b))) (clear_overflow (bit CLRHOV b) (bit CLRVOV b) c.sync)

-- CLRWDT: 55H clears the watchdog, any other byte does nothing
unfoldable pub clrwdt_written : Core → ℕ → Core
clrwdt_written c b = with_watchdog c (pick (eqb b 0x55) 0 c.watchdog)

-- the core after a write that is taken, by the register's effect; a register of the array moves nothing in it
unfoldable pub written_to : Target → Core → ℕ → Core
written_to Stored c b = c
written_to Mdcon c b = mdcon_written c b
written_to Hvcon c b = with_polarity c (updated HVCON c.polarity b)
written_to Clrflg c b = clrflg_written c b
written_to Clrwdt c b = clrwdt_written c b
written_to Iiadr c b = iiadr_written c b
written_to Iidat c b = iidat_written c b
written_to Iists c b = iists_written c b
written_to Bt c b = with_bt c (updated BT c.bt b)

-- what such a write stores in the array: the byte under the write mask, or nothing where the register stands in the core
unfoldable pub kept_by : Target → List ℕ → ℕ → ℕ → Kept
kept_by Stored registers a b = StoredAt a (updated a (register_at registers a) b)
kept_by Mdcon registers a b = Same
kept_by Hvcon registers a b = Same
kept_by Clrflg registers a b = Same
kept_by Clrwdt registers a b = Same
kept_by Iiadr registers a b = Same
kept_by Iidat registers a b = Same
kept_by Iists registers a b = Same
kept_by Bt registers a b = Same

-- a write that is taken: the core, and the array
unfoldable pub written : Core → ℕ → ℕ → Core
written c a b = written_to (target a) c b

unfoldable pub stored_by : List ℕ → ℕ → ℕ → Kept
stored_by registers a b = kept_by (target a) registers a b

-- "Numbers given back", 4 and 6: a write while RESET is low, or to a read-only register, is refused
unfoldable pub write_number : Bool → ℕ → ℕ
write_number reset a = pick reset (pick (is_writable a) 0 6) 4

-- the core after a write, taken or refused
unfoldable pub write_register : Core → ℕ → ℕ → Core
write_register c a b = pick c.reset (pick (is_writable a) (written c a b) c) c

-- what a write, taken or refused, leaves in the array
unfoldable pub write_kept : Bool → List ℕ → ℕ → ℕ → Kept
write_kept reset registers a b = pick reset (pick (is_writable a) (stored_by registers a b) Same) Same
