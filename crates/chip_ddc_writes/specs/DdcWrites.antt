-- What a write to II ADR, II DAT, II STS or MDCON does (document 01, "Registers", "Counting sync" and "The bus").
use Rattle.std.specs.Prelude.{ℕ, Bool}
use Rattle.std.specs.Int.Bits.{bit_and, bit_or}
use Rattle.bits.specs.Byte.{pick, bit}
use Rattle.registers.specs.Names.{MDCON, IIADR, IIDAT, IISTS, HSEL, TRX}
use Rattle.registers.specs.Table.{updated}
use Rattle.sync.specs.declared.Sync.{Sync}
use Rattle.sync.specs.Sync.{hsel_cleared}
use Rattle.bus.specs.Bus.{mode, pulls_scl, compared_in}
use Rattle.bus_ddc2b.specs.Ddc2b.{phase_let_go}
use Rattle.chip.specs.declared.Bus.{Bus}
use Rattle.chip.specs.declared.Core.{Core}
use Rattle.chip.specs.State.{bus_of, with_mdcon, with_sync, with_bus}
use Rattle.chip_edges.specs.Edges.{bus_at_mode, bus_at_rise, sda_line}

-- a cleared HSEL starts the count of lines and the interval anew
unfoldable pub sync_at_hsel : Bool → Bool → Sync → Sync
sync_at_hsel old new s = pick old (pick new s (hsel_cleared s)) s

-- MDCON: HSEL and MD1/2 have effects of their own
unfoldable pub mdcon_written : Core → ℕ → Core
mdcon_written c b =
    let new : ℕ = updated MDCON c.mdcon b in
    with_bus (with_sync (with_mdcon c new) (sync_at_hsel (bit HSEL c.mdcon) (bit HSEL new) c.sync))
    (bus_at_mode (mode c.bus.iists c.mdcon) (mode c.bus.iists new) c.bus)

unfoldable pub iiadr_written : Core → ℕ → Core
iiadr_written c b = with_bus c (bus_of c.bus.iists (updated IIADR c.bus.iiadr b) c.bus.iidat c.bus.phase c.bus.shifter)

-- II STS: ENDDC, TRX and TXAK are stored; a 0 in bit 5 or 4 clears START or STOP, a 1 keeps it; RXAK stays
unfoldable pub status_written : ℕ → ℕ → ℕ
status_written old b = bit_and (updated IISTS old b) (bit_or b 0xcf)

unfoldable pub iists_written : Core → ℕ → Core
iists_written c b =
    let new : ℕ = status_written c.bus.iists b in
    with_bus c
    (bus_at_mode (mode c.bus.iists c.mdcon) (mode new c.mdcon)
    (bus_of new c.bus.iiadr c.bus.iidat c.bus.phase c.bus.shifter))

-- II DAT stored, all else kept
abbrev pub with_iidat : ℕ → Bus → Bus
with_iidat b bus = bus_of bus.iists bus.iiadr (updated IIDAT bus.iidat b) bus.phase bus.shifter

-- SCL let go: TRX says which way the next byte goes
abbrev pub bus_let_go : ℕ → Bus → Bus
bus_let_go b bus = bus_of bus.iists bus.iiadr (updated IIDAT bus.iidat b) (phase_let_go (compared_in bus.phase) (bit TRX bus.iists) b) bus.shifter

-- with SCL's outside level already 1 the line rises as it is let go
unfoldable pub bus_risen : Bool → Bool → Bus → Bus
bus_risen scl sda bus = pick scl (bus_at_rise (sda_line bus sda) bus) bus

-- a write to II DAT is stored; held, it also lets SCL go
unfoldable pub bus_at_iidat : Bool → Bool → ℕ → Bus → Bus
bus_at_iidat scl sda b bus = pick (pulls_scl bus.phase) (bus_risen scl sda (bus_let_go b bus)) (with_iidat b bus)

unfoldable pub iidat_written : Core → ℕ → Core
iidat_written c b = with_bus c (bus_at_iidat c.scl c.sda b c.bus)
