-- What a read shows (document 01, "Registers" and "Ports").
use Rattle.std.specs.Prelude.{ℕ, ◌+◌, ◌-◌, ◌*◌, ◌/◌, ◌%◌, eqb}
use Rattle.std.specs.Int.Bits.{bit_and, bit_or}
use Rattle.bits.specs.Byte.{pick, weight_if, bit, merge}
use Rattle.registers.specs.Names.{PT0, PT1, PT2DIR, PT2, PT3, MDCON, HVCON, HCNTL, HCNTH, VCNTL, VCNTH, SYNCON, ENDAC, IRQX, IIDAT, IISTS, HCNTOV, VCNTOV, HSYNCI, VSYNCI, ENDDC}
use Rattle.registers.specs.Table.{read_mask, is_readable}
use Rattle.chip.specs.declared.Core.{Core}
use Rattle.chip.specs.declared.Chip.{Chip}
use Rattle.chip_reads.specs.declared.Reading.{Reading}
use Rattle.chip.specs.State.{register_at}

-- "Ports": a pin reads 1 where neither its latch nor the outside is 0; one that is given away does not look outside
abbrev pub port_read : ℕ → ℕ → ℕ → ℕ
port_read latch level given = bit_and latch (bit_or level given)

-- "Ports": a 0 in ENDAC bits 5..0 gives P05..P00 to the DACs, one in SYNCON bits 0 and 1 P06 and P07 to the sync outputs
abbrev pub given0 : ℕ → ℕ → ℕ
given0 endac syncon = (255 - endac) % 64 + (255 - syncon) % 4 * 64

-- "Ports": a 0 in ENDAC bits 6 and 7 gives P10 and P11 to the A/D inputs, one in SYNCON bit 6 P12 and P13 to the half signals
abbrev pub given1 : ℕ → ℕ → ℕ
given1 endac syncon = (255 - endac) / 64 + (255 - syncon) / 64 % 2 * 12

unfoldable pub port0 : Chip → ℕ
port0 c = port_read (register_at c.registers PT0) c.core.pins.port0 (given0 (register_at c.registers ENDAC) (register_at c.registers SYNCON))

-- the latch bit of P16 is 1 in every well formed state, so that P16 reads its level
unfoldable pub port1 : Chip → ℕ
port1 c = port_read (register_at c.registers PT1) c.core.pins.port1 (given1 (register_at c.registers ENDAC) (register_at c.registers SYNCON))

-- "Ports": PT2DIR selects, pin by pin, the latch where it is 1 and the outside where it is 0
unfoldable pub port2 : Chip → ℕ
port2 c = merge (register_at c.registers PT2DIR) c.core.pins.port2 (register_at c.registers PT2)

-- "Ports": with DDC on both pins of port 3 belong to the bus; SCL is P31 and SDA P30
unfoldable pub port3 : Chip → ℕ
port3 c = pick (bit ENDDC c.core.bus.iists) (bit_and (register_at c.registers PT3) (bit_or (weight_if c.core.scl 1) (weight_if c.core.sda 0))) (register_at c.registers PT3)

-- HVCON: the overflow bits, the outside sync pins, the polarities
unfoldable pub hvcon : Core → ℕ
hvcon c =
    bit_or
    (bit_or (weight_if c.sync.lines.overflow HCNTOV) (weight_if c.sync.periods.overflow VCNTOV))
    (bit_or (bit_or (weight_if c.pins.hsynci HSYNCI) (weight_if c.pins.vsynci VSYNCI)) c.polarity)

-- what a register shows before its read mask
unfoldable pub shown : Chip → ℕ → ℕ
shown c a =
    pick (eqb a PT0) (port0 c)
    (pick (eqb a PT1) (port1 c)
    (pick (eqb a PT2) (port2 c)
    (pick (eqb a PT3) (port3 c)
    (pick (eqb a MDCON) c.core.mdcon
    (pick (eqb a HVCON) (hvcon c.core)
    (pick (eqb a HCNTL) (c.core.sync.lines.latch.0 % 256)
    (pick (eqb a HCNTH) (c.core.sync.lines.latch.0 / 256)
    (pick (eqb a VCNTL) (c.core.sync.periods.latch.0 % 256)
    (pick (eqb a VCNTH) (c.core.sync.periods.latch.0 / 256)
    (pick (eqb a IRQX) c.core.irqx
    (pick (eqb a IIDAT) c.core.bus.iidat
    (pick (eqb a IISTS) c.core.bus.iists
    (register_at c.registers a)))))))))))))

abbrev pub reading_of : ℕ → ℕ → Reading
reading_of number byte = record { number = number; byte = byte }

-- "Numbers given back", 4 and 5: a read while RESET is low, or of a write-only register, is refused; it never moves the chip
unfoldable pub reading : Chip → ℕ → Reading
reading c a =
    pick c.core.reset
    (pick (is_readable a) (reading_of 0 (bit_and (shown c a) (read_mask a))) (reading_of 5 0))
    (reading_of 4 0)
