-- The acknowledge of a byte, told by the words given, the levels that the chip puts on the lines and II STS before the eighth fall (document 02, Wish 2,
-- and document 01, "The bus").
use Rattle.std.specs.Prelude.{◌≡◌, Bool, true, false, not, ◌&&◌, ◌||◌, ℕ, List, [], ◌∷◌, eqb, ltb, Ok, Err}
use Rattle.bits.specs.Byte.{bit}
use Rattle.registers.specs.Names.{MDCON, IISTS, MD12, ENDDC, TXAK}
use Rattle.events.specs.Pins.{SDA, SCL, RESET}
use Rattle.events.specs.Clocks.{watchdog}
use Rattle.events.specs.Word.{decode}
use Rattle.events.specs.Decoded.{Decoded}
use Rattle.events.specs.declared.Event.TheVariants.{Read, Write, Pin, Clock, Polarity}
use Rattle.bus.specs.Bus.{line, scl_pulled}
use Rattle.chip.specs.declared.Chip.{Chip}
use Rattle.chip.specs.State.{mode_of}
use Rattle.chip_events.specs.Outcome.{next}
use Rattle.list_call.specs.Run.{advanced}
use Rattle.chip_flag_laws.specs.Causes.{flag}
use Rattle.chip_flag_laws.specs.Causes.Source.{DataByte}
use Rattle.bus_transfer_laws.specs.Transfers.{puts, lower_scl}

-- the level that the chip puts on SCL: 0 where it holds the line
abbrev pub puts_scl : Chip → Bool
puts_scl c = line (scl_pulled (mode_of c.core) c.core.bus.phase) true

-- TXAK as II STS holds it
abbrev pub txak : Chip → Bool
txak c = bit TXAK c.core.bus.iists

-- ---- a clock of the bus lasts

abbrev pub differ : Bool → Bool → Bool
differ true new = not new
differ false new = new

-- what ends it: a fall of SCL, a START or a STOP (the SDA line moves while SCL is high), a reset, DDC turned off or DDC1 asked for
unfoldable pub ends : Chip → Decoded → Bool
ends c (Ok (Read a)) = false
ends c (Ok (Write a b)) = (eqb a MDCON && bit MD12 b) || (eqb a IISTS && bit ENDDC b)
ends c (Ok (Pin p level)) =
    (eqb p SCL && (c.core.scl && not level))
    || ((eqb p SDA && (c.core.scl && (puts c && differ c.core.sda level))) || (eqb p RESET && not level))
ends c (Ok (Clock k)) = eqb k watchdog && ltb 62 c.core.watchdog
ends c (Ok (Polarity vertical level)) = false
ends c (Err r) = false

-- no word of the list ends it
abbrev pub lasts : Chip → List ℕ → Bool
lasts c [] = true
lasts c (w ∷ ws) = not (ends c (decode w)) && lasts (next c (decode w)) ws

-- ---- the ninth clock

-- the fall that ends a byte has set D, the chip holds SCL and leaves SDA free
pub record Ended (c : Chip) : Type 0 where
  pub flag_d : flag DataByte c ≡ true
  pub sda : puts c ≡ true
  pub scl : puts_scl c ≡ false

-- within the ninth clock the chip puts this level on SDA and leaves SCL alone; the fall of SCL that ends the clock ends the byte
pub record InNinth (level : Bool) (c : Chip) : Type 0 where
  pub sda : puts c ≡ level
  pub scl : puts_scl c ≡ true
  pub fall : c.core.scl ≡ true → Ended (advanced c (lower_scl ∷ []))
