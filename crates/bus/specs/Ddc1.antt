-- DDC1: bytes of II DAT shifted out on SDA, a bit at each rise of VSYNCI (document 01, "The bus").
use Rattle.std.specs.Prelude.{ℕ, ◌+◌, ◌-◌, ◌*◌, ◌%◌, Bool, eqb}
use Rattle.bits.specs.Byte.{pick}
use Rattle.bus.specs.declared.Shifter.{Shifter}

abbrev pub shifter : ℕ → ℕ → Shifter
shifter register edges = record { register = register; edges = edges }

-- after a reset or a change of mode: ones, and nine edges before the first load
abbrev pub unused_shifter : Shifter
unused_shifter = shifter 255 9

-- with no edge left a rise loads II DAT, and flag D is set
unfoldable pub loads_at_rise : Shifter → Bool
loads_at_rise s = eqb s.edges 0

-- a rise of VSYNCI: with no edge left the byte is loaded and eight edges are left; else one is counted off and a one shifted in
unfoldable pub shifter_at_rise : ℕ → Shifter → Shifter
shifter_at_rise byte s = pick (eqb s.edges 0) (shifter byte 8) (shifter (s.register % 128 * 2 + 1) (s.edges - 1))
