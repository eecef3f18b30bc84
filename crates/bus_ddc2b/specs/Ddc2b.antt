-- DDC2B: the phases of a transfer (document 01, "The bus"). A definition for each thing that an edge of SCL moves.
use Rattle.std.specs.Prelude.{ℕ, ◌+◌, ◌*◌, ◌/◌, ◌%◌, Bool, true, false, not, ◌||◌, eqb, ltb}
use Rattle.std.specs.Int.Bits.{bit_or}
use Rattle.bits.specs.Byte.{pick, num, weight, weight_if, bit, with_bit}
use Rattle.registers.specs.Names.{START, STOP, RXAK, TXAK, INTA, INTD, INTS}
use Rattle.bus.specs.declared.OwnAddress.TheVariants.{A0, IiAdr, Both}
use Rattle.bus.specs.declared.Comparison.{Comparison}
use Rattle.bus.specs.declared.Comparison.TheVariants.{None, Own}
use Rattle.bus.specs.declared.Phase.{Phase}
use Rattle.bus_ddc2b.specs.declared.Risen.{Risen}
use Rattle.bus_ddc2b.specs.declared.Fallen.{Fallen}
use Rattle.bus.specs.declared.Phase.TheVariants.{Idle, Address, Addressed, Ignoring, Receive, Transmit, Held}
use Rattle.bus.specs.Bus.{on_address, on_held}

-- bits 7..1 of a byte: the address without its direction bit
abbrev pub address_bits : ℕ → ℕ
address_bits byte = byte / 2 % 128

-- the chip answers to A0H and to II ADR, the direction bit left aside
unfoldable pub matches : ℕ → ℕ → Bool
matches own byte = eqb (address_bits byte) 80 || eqb (address_bits byte) (address_bits own)

-- none, A0H, II ADR or both, by which of the two the address is equal to (document 02, Wish 12)
abbrev pub comparison : Bool → Bool → Comparison
comparison false false = None
comparison true false = Own A0
comparison false true = Own IiAdr
comparison true true = Own Both

unfoldable pub compared : ℕ → ℕ → Comparison
compared own byte = comparison (eqb (address_bits byte) 80) (eqb (address_bits byte) (address_bits own))

-- the bits gathered so far with SDA entering lowest, so that the first bit ends on top
unfoldable pub gathered : ℕ → Bool → ℕ
gathered bits sda = bits % 128 * 2 + num sda

-- ---- START and STOP
-- START is set in II STS, and the address follows; nothing is gathered yet
abbrev pub start_status : ℕ → ℕ
start_status status = bit_or status (weight START)

abbrev pub start_phase : Phase
start_phase = Address 0 0

-- STOP is set in II STS, and the bus is idle
abbrev pub stop_status : ℕ → ℕ
stop_status status = bit_or status (weight STOP)

-- ---- a rise of the SCL line
-- the phase once the eighth address bit is gathered: the chip's own, or another device's
abbrev pub addressed : Comparison → ℕ → Phase
addressed None byte = Ignoring
addressed (Own matched) byte = Addressed matched byte false

-- address and receive gather SDA up to eight bits; transmit takes the acknowledge once
unfoldable pub phase_at_rise : ℕ → Bool → Phase → Phase
phase_at_rise own sda Idle = Idle
phase_at_rise own sda (Address count bits) = pick (ltb count 7) (Address (count + 1) (gathered bits sda)) (addressed (compared own (gathered bits sda)) (gathered bits sda))
phase_at_rise own sda (Addressed matched bits ninth) = Addressed matched bits ninth
phase_at_rise own sda Ignoring = Ignoring
phase_at_rise own sda (Receive matched count bits) = pick (ltb count 8) (Receive matched (count + 1) (gathered bits sda)) (Receive matched count bits)
phase_at_rise own sda (Transmit matched count byte) = pick (eqb count 9) (Transmit matched 10 byte) (Transmit matched count byte)
phase_at_rise own sda (Held matched clocks) = Held matched clocks

-- with the eighth bit gathered II DAT holds the byte, a foreign address too
unfoldable pub data_at_rise : Bool → Phase → ℕ → ℕ
data_at_rise sda Idle byte = byte
data_at_rise sda (Address count bits) byte = pick (ltb count 7) byte (gathered bits sda)
data_at_rise sda (Addressed matched bits ninth) byte = byte
data_at_rise sda Ignoring byte = byte
data_at_rise sda (Receive matched count bits) byte = pick (eqb count 7) (gathered bits sda) byte
data_at_rise sda (Transmit matched count sent) byte = byte
data_at_rise sda (Held matched clocks) byte = byte

-- flag A is set where the eighth address bit completes an address that matches
unfoldable pub matches_at_rise : ℕ → Bool → Phase → Bool
matches_at_rise own sda = on_address false (λ count bits. pick (ltb count 7) false (matches own (gathered bits sda)))

-- the first rise after the eighth fall of a transmit puts SDA in RXAK of II STS
unfoldable pub status_at_rise : Bool → Phase → ℕ → ℕ
status_at_rise sda Idle status = status
status_at_rise sda (Address count bits) status = status
status_at_rise sda (Addressed matched bits ninth) status = status
status_at_rise sda Ignoring status = status
status_at_rise sda (Receive matched count bits) status = status
status_at_rise sda (Transmit matched count byte) status = pick (eqb count 9) (with_bit status RXAK sda) status
status_at_rise sda (Held matched clocks) status = status

-- all that a rise moves: the phase, II STS, II DAT, and the flags: A where an address that matches is completed
abbrev pub risen : Phase → ℕ → ℕ → ℕ → Risen
risen phase iists iidat flags = record { phase = phase; iists = iists; iidat = iidat; flags = flags }

unfoldable pub at_rise : ℕ → Bool → ℕ → ℕ → Phase → Risen
at_rise own sda iists iidat phase =
    risen (phase_at_rise own sda phase) (status_at_rise sda phase iists) (data_at_rise sda phase iidat) (weight_if (matches_at_rise own sda phase) INTA)

-- ---- a fall of the SCL line
-- the fall that ends the ninth clock of a byte, acknowledged or not: flag D is set and the chip holds SCL low
unfoldable pub holds_at_fall : Phase → Bool
holds_at_fall Idle = false
holds_at_fall (Address count bits) = false
holds_at_fall (Addressed matched bits ninth) = ninth
holds_at_fall Ignoring = false
holds_at_fall (Receive matched count bits) = ltb 8 count
holds_at_fall (Transmit matched count byte) = eqb count 10
holds_at_fall (Held matched clocks) = false

-- a received byte is acknowledged where TXAK of II STS is 0 (document 02, Wish 2)
unfoldable pub acknowledges : ℕ → Bool
acknowledges status = not (bit TXAK status)

-- the eighth fall of a received byte begins the ninth clock, with SDA pulled (9) or released (10)
abbrev pub ninth_clock : ℕ → ℕ
ninth_clock status = pick (acknowledges status) 9 10

-- after eight bits a fall begins the ninth clock and the next one holds, for no clock of 8 µs yet; a matched address is always acknowledged. A transmit puts
-- the next bit, releases SDA at the eighth fall, waits there for the acknowledge, and holds once it was taken
unfoldable pub phase_at_fall : ℕ → Phase → Phase
phase_at_fall status Idle = Idle
phase_at_fall status (Address count bits) = Address count bits
phase_at_fall status (Addressed matched bits ninth) = pick ninth (Held matched 0) (Addressed matched bits true)
phase_at_fall status Ignoring = Ignoring
phase_at_fall status (Receive matched count bits) = pick (ltb 8 count) (Held matched 0) (pick (eqb count 8) (Receive matched (ninth_clock status) bits) (Receive matched count bits))
phase_at_fall status (Transmit matched count byte) = pick (ltb count 9) (Transmit matched (count + 1) byte) (pick (eqb count 10) (Held matched 0) (Transmit matched count byte))
phase_at_fall status (Held matched clocks) = Held matched clocks

-- all that a fall moves: the phase, and the flags: S, and D where the chip takes hold of SCL
abbrev pub fallen : Phase → Bool → Fallen
fallen phase held = record { phase = phase; flags = bit_or (weight INTS) (weight_if held INTD) }

unfoldable pub at_fall : ℕ → Phase → Fallen
at_fall status phase = fallen (phase_at_fall status phase) (holds_at_fall phase)

-- ---- a clock of 8 µs
-- the clocks of 8 µs since the chip took SCL low, up to 65,535 (document 02, Wish 9)
unfoldable pub held_longer : ℕ → ℕ
held_longer clocks = pick (ltb clocks 65535) (clocks + 1) clocks

unfoldable pub phase_at_period : Phase → Phase
phase_at_period phase = on_held phase (λ matched clocks. Held matched (held_longer clocks)) phase

-- ---- letting SCL go
-- a write to II DAT while held: TRX of II STS at 1 puts bit 7 of the byte on SDA; at 0 a receive begins
-- the transfer goes on as it was called, so the outcome is handed on; with none there is no transfer that could
unfoldable pub phase_let_go : Comparison → Bool → ℕ → Phase
phase_let_go None trx byte = Idle
phase_let_go (Own matched) trx byte = pick trx (Transmit matched 1 byte) (Receive matched 0 0)
