-- Transfers that are computed: an address byte, and a received one.
use Rattle.std.specs.Prelude.{true, false, List, [], ◌∷◌, ◌++◌, ℕ, Ok}
use Rattle.registers.specs.Names.{MDCON, IIADR, IISTS}
use Rattle.events.specs.declared.Event.TheVariants.{Write}
use Rattle.events.specs.Word.{encode}
use Rattle.bus.specs.declared.Comparison.{Comparison}
use Rattle.chip.specs.declared.Chip.{Chip}
use Rattle.chip.specs.State.{fresh}
use Rattle.list_call.specs.Run.{advanced}
use Rattle.bus_transfer_laws.specs.Transfers.{bits_of, write_data, put_sda, raise_scl, lower_scl, clock_in}
use Rattle.bus_address_laws.specs.Addressed.{outcome_in}

-- DDC2B with this II ADR
abbrev pub ready : ℕ → Chip
ready own = advanced fresh (encode (Ok (Write MDCON 0x00)) ∷ encode (Ok (Write IISTS 0x00)) ∷ encode (Ok (Write IIADR own)) ∷ [])

-- START, and the eight levels of a byte clocked in
abbrev pub call : ℕ → List ℕ
call byte = put_sda false ∷ lower_scl ∷ clock_in (bits_of byte) []

-- the ninth clock, and the write to II DAT that lets SCL go
abbrev pub acknowledged : List ℕ
acknowledged = raise_scl ∷ lower_scl ∷ write_data 0x00 ∷ []

-- the outcome after words from there on
abbrev pub outcome_after : ℕ → List ℕ → Comparison
outcome_after own ws = outcome_in (advanced (ready own) ws)

-- START and seven levels of A0H
abbrev pub seven : List ℕ
seven = put_sda false ∷ lower_scl ∷ clock_in (true ∷ false ∷ true ∷ false ∷ false ∷ false ∷ false ∷ []) []

-- II ADR written
abbrev pub written : ℕ → ℕ
written own = encode (Ok (Write IIADR own))

-- A0H acknowledged, and a byte received
abbrev pub received : List ℕ
received = call 0xa0 ++ (acknowledged ++ clock_in (bits_of 0x3c) acknowledged)

-- the chip with seven bits of its address
abbrev pub begun : Chip
begun = advanced (ready 0x50) seven
