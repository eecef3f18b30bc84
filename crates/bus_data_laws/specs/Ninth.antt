-- The clocks of a byte on the bus, counted from where the byte begins (document 01, "The bus"): a START, or the write to II DAT that lets SCL go.
use Rattle.std.specs.Prelude.{ℕ, ◌+◌, ◌≡◌, Bool, true, false, ◌&&◌, ◌||◌, List, ◌∷◌, eqb, length}
use Rattle.bits.specs.Byte.{num}
use Rattle.registers.specs.Names.{IIDAT}
use Rattle.events.specs.Decoded.{Decoded}
use Rattle.events.specs.Kinds.{on_write}
use Rattle.events.specs.Word.{decode}
use Rattle.bus.specs.Bus.{pulls_scl, is_own}
use Rattle.chip.specs.declared.Chip.{Chip}
use Rattle.chip_events.specs.Outcome.{next}
use Rattle.list_call.specs.Run.{advanced}
use Rattle.chip_flag_laws.specs.Causes.{raises, in_ddc2b, falls_scl}
use Rattle.chip_flag_laws.specs.Causes.Source.{DataByte}
use Rattle.chip_count_laws.specs.Counting.{never}
use Rattle.bus_address_laws.specs.Addressed.{outcome_in, starts, ends, levels_taken}

-- the rises of the SCL line over a list of words, at each of which the chip takes a level
abbrev pub rises_over : Chip → List ℕ → ℕ
rises_over c ws = length (levels_taken c ws)

-- a write to II DAT lets SCL go, which the chip holds low in DDC2B
abbrev pub lets_go : Chip → Decoded → Bool
lets_go c = on_write false (λ a b. eqb a IIDAT && (c.core.reset && (in_ddc2b c && pulls_scl c.core.bus.phase)))

-- the byte is over: START, STOP, a change of mode, a reset, or the next byte begins
abbrev pub ends_byte : Chip → Decoded → Bool
ends_byte c e = ends c e || lets_go c e

-- from a START on: flag D is set by the fall of the SCL line behind its ninth rise, where the address was one of the chip's, and by no other event
abbrev pub NinthSinceStart : Chip → ℕ → List ℕ → Type 0
NinthSinceStart c w us =
    starts c (decode w) ≡ true → never ends_byte (next c (decode w)) us ≡ true → (e : Decoded) →
    let x : Chip = advanced c (w ∷ us) in
    raises DataByte x e ≡ (falls_scl x e && (eqb (rises_over (next c (decode w)) us) 9 && is_own (outcome_in x)))

-- from letting go on: the same, whatever the direction; where outside SCL is 1 already, letting go is the first rise
abbrev pub NinthSinceLetGo : Chip → ℕ → List ℕ → Type 0
NinthSinceLetGo c w us =
    lets_go c (decode w) ≡ true → never ends_byte (next c (decode w)) us ≡ true → (e : Decoded) →
    let x : Chip = advanced c (w ∷ us) in
    raises DataByte x e ≡ (falls_scl x e && eqb (num c.core.scl + rises_over (next c (decode w)) us) 9)
