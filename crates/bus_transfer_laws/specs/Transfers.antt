-- A byte on the bus, told by the words given, the levels on SDA and the bytes read (document 01, "Registers" and "The bus").
use Rattle.std.specs.Prelude.{ℕ, zero, suc, ◌≡◌, Bool, true, false, ◌&&◌, List, [], ◌∷◌, Ok}
use Rattle.bits.specs.Byte.{bit}
use Rattle.registers.specs.Names.{IIDAT, IISTS, TRX}
use Rattle.events.specs.Pins.{SDA, SCL}
use Rattle.events.specs.declared.Event.TheVariants.{Write, Pin}
use Rattle.events.specs.Word.{encode}
use Rattle.bus.specs.declared.Mode.TheVariants.{Ddc2b}
use Rattle.bus.specs.Bus.{line, pulls_scl, sda_pulled}
use Rattle.chip.specs.declared.Chip.{Chip}
use Rattle.chip.specs.State.{mode_of}
use Rattle.chip_reads.specs.Reads.{reading}
use Rattle.list_call.specs.Run.{advanced}

-- ---- what is seen

-- bit k of what a read of register a gives
abbrev pub shows : ℕ → ℕ → Chip → Bool
shows a k c = bit k (reading c a).byte

-- the bits of a byte, top bit first
abbrev pub bits_of : ℕ → List Bool
bits_of byte = bit 7 byte ∷ bit 6 byte ∷ bit 5 byte ∷ bit 4 byte ∷ bit 3 byte ∷ bit 2 byte ∷ bit 1 byte ∷ bit 0 byte ∷ []

-- the level that the chip puts on SDA: that of the line while nothing outside pulls it
abbrev pub puts : Chip → Bool
puts c = line (sda_pulled (mode_of c.core) c.core.bus.phase c.core.bus.shifter) true

-- START and STOP after a write to II STS, by the bit before and the bit written: a 1 keeps the flag, a 0 clears it
abbrev pub kept_flag : Bool → Bool → Bool
kept_flag old written = old && written

-- ---- where a byte begins

-- in DDC2B with RESET high the chip holds SCL low, the outside has left it low, and a read of II STS shows this TRX
pub record Holding (trx : Bool) (c : Chip) : Type 0 where
  pub reset : c.core.reset ≡ true
  pub ddc2b : mode_of c.core ≡ Ddc2b
  pub held : pulls_scl c.core.bus.phase ≡ true
  pub low : c.core.scl ≡ false
  pub direction : shows IISTS TRX c ≡ trx

-- ---- words

-- the byte is written to II DAT, which lets SCL go
abbrev pub write_data : ℕ → ℕ
write_data byte = encode (Ok (Write IIDAT byte))

abbrev pub put_sda : Bool → ℕ
put_sda level = encode (Ok (Pin SDA level))

abbrev pub raise_scl : ℕ
raise_scl = encode (Ok (Pin SCL true))

abbrev pub lower_scl : ℕ
lower_scl = encode (Ok (Pin SCL false))

-- a clock for each level: SDA is put while SCL is low, SCL rises and falls; the words that follow are given last
abbrev pub clock_in : List Bool → List ℕ → List ℕ
clock_in [] rest = rest
clock_in (level ∷ levels) rest = put_sda level ∷ raise_scl ∷ lower_scl ∷ clock_in levels rest

-- n clocks with SDA left alone: SCL rises and falls; the words that follow are given last
abbrev pub clocks : ℕ → List ℕ → List ℕ
clocks zero rest = rest
clocks (suc n) rest = raise_scl ∷ lower_scl ∷ clocks n rest

-- what is seen of a chip before each of n such clocks, the first first
abbrev pub over_clocks : (Chip → Bool) → ℕ → Chip → List Bool
over_clocks seen zero c = []
over_clocks seen (suc n) c = seen c ∷ over_clocks seen n (advanced c (raise_scl ∷ lower_scl ∷ []))

-- the level that the chip puts on SDA once SCL has risen, when the outside takes the bit
abbrev pub puts_at_rise : Chip → Bool
puts_at_rise c = puts (advanced c (raise_scl ∷ []))
