-- What the chip puts on SDA in DDC1 (document 01, "The bus"), over rises of VSYNCI.
use Rattle.std.specs.Prelude.{ℕ, ◌+◌, ◌-◌, Bool, true, false, ◌&&◌, ◌||◌, List, [], ◌∷◌, eqb, ltb}
use Rattle.bits.specs.Byte.{pick, num, bit}
use Rattle.registers.specs.Names.{MDCON, IISTS, MD12, ENDDC}
use Rattle.events.specs.Decoded.{Decoded}
use Rattle.events.specs.Word.{decode}
use Rattle.bus.specs.Bus.{line, sda_pulled}
use Rattle.chip.specs.declared.Chip.{Chip}
use Rattle.chip.specs.State.{mode_of}
use Rattle.chip_events.specs.Outcome.{next}
use Rattle.list_call.specs.Run.{advanced}
use Rattle.chip_flag_laws.specs.Causes.{in_ddc1, rises_vsynci, falls_scl}
use Rattle.chip_count_laws.specs.Counting.{resets, writes}

-- what the chip puts on SDA: the level of the line while nothing else pulls it
unfoldable pub puts_sda : Chip → Bool
puts_sda c = line (sda_pulled (mode_of c.core) c.core.bus.phase c.core.bus.shifter) true

-- DDC1 is left: a reset, ENDDC of II STS written 1, MD1/2 of MDCON written 0, a fall of SCL
unfoldable pub leaves_ddc1 : Chip → Decoded → Bool
leaves_ddc1 c e = resets c e || (writes IISTS ENDDC true c e || (writes MDCON MD12 false c e || falls_scl c e))

-- rises of VSYNCI that the chip acts on
abbrev pub vsync_rises : Chip → List ℕ → ℕ
vsync_rises c [] = 0
vsync_rises c (w ∷ ws) = num (rises_vsynci c (decode w)) + vsync_rises (next c (decode w)) ws

-- a load: in DDC1, a rise of VSYNCI with no edges left
unfoldable pub loads : Chip → Decoded → Bool
loads c e = rises_vsynci c e && (in_ddc1 c && eqb c.core.bus.shifter.edges 0)

-- what is on SDA n rises after a load: the bits of the byte, the top bit first, then the null bit, a 1
unfoldable pub sent_bit : ℕ → ℕ → Bool
sent_bit byte n = pick (ltb n 8) (bit (7 - n) byte) true

-- what is on SDA after each list of a run of lists, as a number
abbrev pub puts_after_each : Chip → List (List ℕ) → List ℕ
puts_after_each c [] = []
puts_after_each c (ws ∷ rest) = num (puts_sda (advanced c ws)) ∷ puts_after_each (advanced c ws) rest
