-- A transfer that goes on after a held clock.
use Rattle.std.specs.Prelude.{true, false, List, [], ◌∷◌, ℕ, Ok}
use Rattle.registers.specs.Names.{MDCON, IISTS}
use Rattle.events.specs.declared.Event.TheVariants.{Write}
use Rattle.events.specs.Word.{encode}
use Rattle.bus_transfer_laws.specs.Transfers.{put_sda, lower_scl, clock_in}

-- DDC2B, START, A0H and a ninth clock, then these words
abbrev pub addressed : List ℕ → List ℕ
addressed rest =
    encode (Ok (Write MDCON 0x00)) ∷ encode (Ok (Write IISTS 0x00)) ∷ put_sda false ∷ lower_scl
    ∷ clock_in (true ∷ false ∷ true ∷ false ∷ false ∷ false ∷ false ∷ false ∷ true ∷ []) rest
