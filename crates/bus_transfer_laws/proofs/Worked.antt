-- A run from a fresh chip at which the premises of a transfer hold, with TRX at 0 and at 1.
-- Assumes nothing.
use mathlib.Core.Path.{refl}
use mathlib.Core.Bool.{true, false}
use mathlib.Core.List.{[], ◌∷◌}
use Rattle.registers.specs.Names.{IISTS, TRX}
use Rattle.bits.specs.Byte.{weight}
use Rattle.std.specs.Prelude.{Ok}
use Rattle.events.specs.declared.Event.TheVariants.{Write}
use Rattle.events.specs.Word.{encode}
use Rattle.chip.specs.State.{fresh}
use Rattle.list_call.specs.Run.{advanced}
use Rattle.bus_transfer_laws.specs.Transfers.{Holding}
use Rattle.bus_transfer_laws.specs.Worked.{addressed}
use Rattle.bus_transfer_laws.proofs.Opened.{opened}

pub held_to_receive : Holding false (advanced fresh (addressed []))
unfolding opened
held_to_receive = record { reset = refl; ddc2b = refl; held = refl; low = refl; direction = refl }

pub held_to_transmit : Holding true (advanced fresh (addressed (encode (Ok (Write IISTS (weight TRX))) ∷ [])))
unfolding opened
held_to_transmit = record { reset = refl; ddc2b = refl; held = refl; low = refl; direction = refl }
