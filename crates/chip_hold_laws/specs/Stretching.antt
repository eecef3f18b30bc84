-- Clock stretching over a list of event words (document 02, Wish 9): how a hold of SCL begins, what ends it, and how long it lasts.
use Rattle.std.specs.Prelude.{ℕ, ◌≡◌, Bool, true, false, not, ◌&&◌, ◌||◌, List, eqb, ltb}
use Rattle.bits.specs.Byte.{pick, bit}
use Rattle.registers.specs.Names.{MDCON, IIDAT, IISTS, MD12, ENDDC}
use Rattle.events.specs.Decoded.{Decoded}
use Rattle.events.specs.Kinds.{on_write}
use Rattle.bus.specs.declared.OwnAddress.{OwnAddress}
use Rattle.bus.specs.declared.Phase.TheVariants.{Held}
use Rattle.bus.specs.Bus.{pulls_scl}
use Rattle.chip.specs.declared.Chip.{Chip}
use Rattle.chip_flag_laws.specs.Causes.{in_ddc2b, falls_scl, in_ninth_clock}
use Rattle.chip_count_laws.specs.Counting.{resets, writes, period_clocks, never}

-- ---- a hold

-- the chip holds SCL low
abbrev pub holds_scl : Chip → Bool
holds_scl c = pulls_scl c.core.bus.phase

-- it does so in DDC2B, by whichever address it was called, and has for n clocks of 8 µs
pub record HeldFor (n : ℕ) (c : Chip) : Type 0 where
  pub ddc2b : in_ddc2b c ≡ true
  pub matched : OwnAddress
  pub held : c.core.bus.phase ≡ Held matched n

-- the chip takes SCL low: in DDC2B, at the fall of the SCL line that ends the ninth clock of a byte
unfoldable pub takes_scl : Chip → Decoded → Bool
takes_scl c e = falls_scl c e && (in_ddc2b c && in_ninth_clock c.core.bus.phase)

-- a byte is written to II DAT while RESET is high
abbrev pub writes_data : Chip → Decoded → Bool
writes_data c = on_write false (λ a b. eqb a IIDAT && c.core.reset)

-- what lets SCL go: a reset, by RESET going low or by the watchdog; a write to II DAT; ENDDC of II STS or MD1/2 of MDCON written
-- other than it is
unfoldable pub lets_go : Chip → Decoded → Bool
lets_go c e =
    resets c e
    || (writes_data c e
    || (writes IISTS ENDDC (not (bit ENDDC c.core.bus.iists)) c e
    || writes MDCON MD12 (not (bit MD12 c.core.mdcon)) c e))

-- no word of the list lets SCL go
abbrev pub lasts : Chip → List ℕ → Bool
lasts c ws = never lets_go c ws

-- ---- how long

-- the 8 µs clocks of the list, those while RESET is low left out
abbrev pub periods_given : Chip → List ℕ → ℕ
periods_given c ws = period_clocks c.core.reset ws

-- the count stops at 65,535
unfoldable pub bounded : ℕ → ℕ
bounded n = pick (ltb n 65535) n 65535
