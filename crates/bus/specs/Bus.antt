-- The two lines of the bus, and what the chip does to them (document 01, "The bus").
use Rattle.std.specs.Prelude.{ℕ, ◌-◌, ◌%◌, Bool, true, false, not, eqb, ltb}
use Rattle.bits.specs.Byte.{pick, bit}
use Rattle.registers.specs.Names.{MD12, ENDDC}
use Rattle.bus.specs.declared.Mode.{Mode}
use Rattle.bus.specs.declared.Mode.TheVariants.{Off, Ddc1, Ddc2b}
use Rattle.bus.specs.declared.Edge.{Edge}
use Rattle.bus.specs.declared.Edge.TheVariants.{Flat, Rise, Fall}
use Rattle.bus.specs.declared.Shifter.{Shifter}
use Rattle.bus.specs.declared.OwnAddress.{OwnAddress}
use Rattle.bus.specs.declared.Comparison.{Comparison}
use Rattle.bus.specs.declared.Comparison.TheVariants.{None, Own}
use Rattle.bus.specs.declared.Phase.{Phase}
use Rattle.bus.specs.declared.Phase.TheVariants.{Idle, Address, Addressed, Ignoring, Receive, Transmit, Held}

-- from one level to the next: no change, a rise or a fall
abbrev pub edge : Bool → Bool → Edge
edge true true = Flat
edge true false = Fall
edge false true = Rise
edge false false = Flat

abbrev pub mode_by : Bool → Bool → Mode
mode_by true md = Off
mode_by false true = Ddc1
mode_by false false = Ddc2b

-- ENDDC of II STS at 0 turns DDC on; then MD1/2 of MDCON at 1 is DDC1 and at 0 DDC2B
unfoldable pub mode : ℕ → ℕ → Mode
mode status mdcon = mode_by (bit ENDDC status) (bit MD12 mdcon)

-- each mode by a number, to tell two apart
abbrev pub mode_number : Mode → ℕ
mode_number Off = 0
mode_number Ddc1 = 1
mode_number Ddc2b = 2

-- DDC is turned on or off, or MD1/2 changes while it is on
unfoldable pub changes_mode : Mode → Mode → Bool
changes_mode old new = not (eqb (mode_number old) (mode_number new))

-- wired-AND of the outside and the chip
abbrev pub line : Bool → Bool → Bool
line true level = false
line false level = level

-- what is asked of an address that is being gathered, and of a hold of SCL: an answer for that phase, and one for every other
abbrev pub on_address : {A : Type 0} → A → (ℕ → ℕ → A) → Phase → A
on_address other asked Idle = other
on_address other asked (Address count bits) = asked count bits
on_address other asked (Addressed matched bits ninth) = other
on_address other asked Ignoring = other
on_address other asked (Receive matched count bits) = other
on_address other asked (Transmit matched count byte) = other
on_address other asked (Held matched clocks) = other

abbrev pub on_held : {A : Type 0} → A → (OwnAddress → ℕ → A) → Phase → A
on_held other asked Idle = other
on_held other asked (Address count bits) = other
on_held other asked (Addressed matched bits ninth) = other
on_held other asked Ignoring = other
on_held other asked (Receive matched count bits) = other
on_held other asked (Transmit matched count byte) = other
on_held other asked (Held matched clocks) = asked matched clocks

-- transmitting, the chip pulls SDA while the bit that is out is 0: bit 7 of the byte is out at a count of 1, bit 0 at 8
unfoldable pub pulls_at_bit : ℕ → ℕ → Bool
pulls_at_bit count byte = pick (ltb count 9) (not (bit ((8 - count) % 8) byte)) false

-- the SDA line pulled by the phase: an acknowledge (ACK), or a 0 bit that is out
unfoldable pub pulls_sda : Phase → Bool
pulls_sda Idle = false
pulls_sda (Address count bits) = false
pulls_sda (Addressed matched bits ninth) = ninth
pulls_sda Ignoring = false
pulls_sda (Receive matched count bits) = eqb count 9
pulls_sda (Transmit matched count byte) = pulls_at_bit count byte
pulls_sda (Held matched clocks) = false

-- the SCL line pulled by the phase: the chip holds the clock
unfoldable pub pulls_scl : Phase → Bool
pulls_scl Idle = false
pulls_scl (Address count bits) = false
pulls_scl (Addressed matched bits ninth) = false
pulls_scl Ignoring = false
pulls_scl (Receive matched count bits) = false
pulls_scl (Transmit matched count byte) = false
pulls_scl (Held matched clocks) = true

-- SDA pulled: with DDC off never; in DDC1 while the shift register's top bit is 0; in DDC2B as the phase says
unfoldable pub sda_pulled : Mode → Phase → Shifter → Bool
sda_pulled Off phase s = false
sda_pulled Ddc1 phase s = not (bit 7 s.register)
sda_pulled Ddc2b phase s = pulls_sda phase

-- SCL pulled: in DDC2B alone, as the phase says
unfoldable pub scl_pulled : Mode → Phase → Bool
scl_pulled Off phase = false
scl_pulled Ddc1 phase = false
scl_pulled Ddc2b phase = pulls_scl phase

-- the address was one of the chip's
abbrev pub is_own : Comparison → Bool
is_own None = false
is_own (Own matched) = true

-- the outcome of the transfer that is going on, as its phase keeps it (document 02, Wish 12): one of the three from the eighth bit of
-- an address of the chip's on, and none in every other phase. No state can be written that keeps another
unfoldable pub compared_in : Phase → Comparison
compared_in Idle = None
compared_in (Address count bits) = None
compared_in (Addressed matched bits ninth) = Own matched
compared_in Ignoring = None
compared_in (Receive matched count bits) = Own matched
compared_in (Transmit matched count byte) = Own matched
compared_in (Held matched clocks) = Own matched
