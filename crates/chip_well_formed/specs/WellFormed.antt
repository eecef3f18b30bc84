-- Well formed states (document 01, "Numbers given back", the paragraph on well formed): its clauses and no more, but that unused
-- places of the state are fixed at their reset value.
use Rattle.std.specs.Prelude.{ℕ, ◌-◌, ◌^◌, Bool, true, false, ◌&&◌, ◌||◌, List, eqb, ltb, get_or}
use Rattle.std.specs.Int.Bits.{bit_and}
use Rattle.bits.specs.Byte.{pick, bit}
use Rattle.bits.specs.Finite.{all_below}
use Rattle.registers.specs.Names.{MDCON, HVCON, CLRWDT, BTCON}
use Rattle.registers.specs.Table.{reset_value, write_mask}
use Rattle.sync.specs.Sync.{well_sync}
use Rattle.bus.specs.declared.Mode.{Mode}
use Rattle.bus.specs.declared.Mode.TheVariants.{Off, Ddc1, Ddc2b}
use Rattle.bus.specs.declared.Phase.{Phase}
use Rattle.bus.specs.declared.Phase.TheVariants.{Idle, Address, Addressed, Ignoring, Receive, Transmit, Held}
use Rattle.bus.specs.declared.Shifter.{Shifter}
use Rattle.chip.specs.declared.Core.{Core}
use Rattle.chip.specs.declared.Chip.{Chip}
use Rattle.chip.specs.State.{mode_of}

-- ---- reserved bits: what no event changes equals its reset value

-- registers with a place of their own in the state: MDCON, HVCON, and II ADR to BT. The array's places for them stand still,
-- and IRQX's by its write mask of 00
abbrev pub kept_apart : ℕ → Bool
kept_apart a = (eqb a MDCON || eqb a HVCON) || (ltb CLRWDT a && ltb a BTCON)

-- the reserved bits of a place of the array: all of one that is not used, else those that no write changes
unfoldable pub reserved_mask : ℕ → ℕ
reserved_mask a = pick (kept_apart a) 255 (255 - write_mask a)

unfoldable pub reserved_at : List ℕ → ℕ → Bool
reserved_at registers a = eqb (bit_and (get_or registers a 0) (reserved_mask a)) (bit_and (reset_value a) (reserved_mask a))

-- the registers apart: IRQX, II STS 7, 6 at 0; bits 7..4 of MDCON and of the polarity byte at 0; II ADR bit 0 at 1; no bit 7 at port 1
unfoldable pub reserved_apart : Core → Bool
reserved_apart c =
    ((((ltb c.irqx 64
    && ltb c.bus.iists 64)
    && ltb c.mdcon 16)
    && ltb c.polarity 16)
    && bit 0 c.bus.iiadr)
    && ltb c.pins.port1 128

-- ---- the phase of the bus and the shift register fit the mode

-- the bits gathered are a number of as many bits, at most eight
unfoldable pub gathered_fits : ℕ → ℕ → Bool
gathered_fits count bits = ltb bits (2 ^ pick (ltb count 9) count 8)

-- the phases of DDC2B: an address has at most seven bits, with the eighth it is matched or ignored; a receive has at most eight, or is in
-- its ninth clock with SDA pulled (9) or released (10); a transmit has put out one to eight bits, or awaits (9) or has taken (10)
-- the acknowledge
unfoldable pub phase_fits : Phase → Bool
phase_fits Idle = true
phase_fits (Address count bits) = ltb count 8 && gathered_fits count bits
phase_fits (Addressed matched bits ninth) = gathered_fits 8 bits
phase_fits Ignoring = true
phase_fits (Receive matched count bits) = ltb count 11 && gathered_fits count bits
phase_fits (Transmit matched count byte) = ltb 0 count && ltb count 11
phase_fits (Held matched clocks) = true

unfoldable pub is_idle : Phase → Bool
is_idle Idle = true
is_idle (Address count bits) = false
is_idle (Addressed matched bits ninth) = false
is_idle Ignoring = false
is_idle (Receive matched count bits) = false
is_idle (Transmit matched count byte) = false
is_idle (Held matched clocks) = false

-- the shift register unused since the last release
unfoldable pub is_unused : Shifter → Bool
is_unused s = eqb s.edges 9 && eqb s.register 255

-- off: no transfer, and the shift register unused; DDC1: no transfer; DDC2B: the shift register unused. What the lines are
-- pulled by is computed from these, so that no state can disagree with it
unfoldable pub bus_fits : Mode → Phase → Shifter → Bool
bus_fits Off phase s = is_idle phase && is_unused s
bus_fits Ddc1 phase s = is_idle phase && (ltb s.edges 9 || is_unused s)
bus_fits Ddc2b phase s = phase_fits phase && is_unused s

-- ---- all of it: ranges, reserved bits, the bus
unfoldable pub well_formed : Chip → Bool
well_formed c =
    ((well_sync c.core.sync && ltb c.core.watchdog 64)
    && (reserved_apart c.core && all_below (reserved_at c.registers) 38))
    && bus_fits (mode_of c.core) c.core.bus.phase c.core.bus.shifter
