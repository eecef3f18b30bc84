-- Runs from a fresh chip: each outcome, II ADR written before and after the eighth rise, and what ends a transfer.
-- Assumes nothing.
use mathlib.Core.Path.{◌≡◌, refl}
use mathlib.Core.Bool.{Bool, true, false}
use mathlib.Core.List.{List, [], ◌∷◌, ◌++◌}
use Prim.Native.Nat.{ℕ}
use Rattle.registers.specs.Names.{MDCON, IISTS}
use Rattle.std.specs.Prelude.{Ok}
use Rattle.events.specs.Pins.{RESET}
use Rattle.events.specs.declared.Event.TheVariants.{Write, Pin}
use Rattle.events.specs.Word.{encode, decode}
use Rattle.bus.specs.declared.OwnAddress.TheVariants.{A0, IiAdr, Both}
use Rattle.bus.specs.declared.Comparison.{Comparison}
use Rattle.bus.specs.declared.Comparison.TheVariants.{None, Own}
use Rattle.chip_events.specs.Outcome.{next}
use Rattle.list_call.specs.Run.{advanced}
use Rattle.chip_flag_laws.specs.Causes.{flag}
use Rattle.chip_flag_laws.specs.Causes.Source.{AddressMatch}
use Rattle.chip_count_laws.specs.Counting.{never}
use Rattle.bus_transfer_laws.specs.Transfers.{put_sda, raise_scl, lower_scl, clock_in}
use Rattle.bus_transfer_laws.proofs.Opened.{opened}
use Rattle.bus_address_laws.specs.Addressed.{takes_level, completes, address_at, starts, ends, levels_taken}
use Rattle.bus_address_laws.specs.Worked.{ready, call, acknowledged, outcome_after, seven, written, received, begun}

-- each outcome, the direction bit left aside, and flag A with it
pub told : ◌≡◌ {A = List (Comparison × Bool)} (
    (outcome_after 0x50 (call 0xa0), flag AddressMatch (advanced (ready 0x50) (call 0xa0)))
    ∷ (outcome_after 0x50 (call 0x51), flag AddressMatch (advanced (ready 0x50) (call 0x51)))
    ∷ (outcome_after 0xa0 (call 0xa1), flag AddressMatch (advanced (ready 0xa0) (call 0xa1)))
    ∷ (outcome_after 0xa1 (call 0xa0), flag AddressMatch (advanced (ready 0xa1) (call 0xa0)))
    ∷ (outcome_after 0x50 (call 0x70), flag AddressMatch (advanced (ready 0x50) (call 0x70)))
    ∷ [])
    ((Own A0, true) ∷ (Own IiAdr, true) ∷ (Own Both, true) ∷ (Own Both, true) ∷ (None, false) ∷ [])
unfolding opened
told = refl

-- seven levels of A0H, II ADR written, and the eighth; and II ADR written after the eighth rise, before SCL falls, and once SCL is let go
pub as_then : ◌≡◌ {A = List Comparison} (
    outcome_after 0x50 (seven ++ (written 0xa0 ∷ put_sda false ∷ raise_scl ∷ []))
    ∷ outcome_after 0x50 (seven ++ (put_sda false ∷ raise_scl ∷ written 0xa0 ∷ []))
    ∷ outcome_after 0xa0 (seven ++ (put_sda false ∷ raise_scl ∷ written 0x50 ∷ lower_scl ∷ []))
    ∷ outcome_after 0x50 (call 0xa0 ++ (acknowledged ++ (written 0xa0 ∷ [])))
    ∷ [])
    (Own Both ∷ Own A0 ∷ Own Both ∷ Own A0 ∷ [])
unfolding opened
as_then = refl

-- a byte received, then a STOP, a repeated START, another address after it, ENDDC and MD1/2 turned, RESET going low
pub over_at : ◌≡◌ {A = List Comparison} (
    outcome_after 0x50 received
    ∷ outcome_after 0x50 (received ++ (put_sda false ∷ raise_scl ∷ put_sda true ∷ []))
    ∷ outcome_after 0x50 (received ++ (put_sda true ∷ raise_scl ∷ put_sda false ∷ []))
    ∷ outcome_after 0x50 (received ++ (put_sda true ∷ raise_scl ∷ call 0x50))
    ∷ outcome_after 0x50 (received ++ (encode (Ok (Write IISTS 0x08)) ∷ []))
    ∷ outcome_after 0x50 (received ++ (encode (Ok (Write MDCON 0x01)) ∷ []))
    ∷ outcome_after 0x50 (received ++ (encode (Ok (Pin RESET false)) ∷ []))
    ∷ [])
    (Own A0 ∷ None ∷ None ∷ Own IiAdr ∷ None ∷ None ∷ None ∷ [])
unfolding opened
over_at = refl

-- a run at which the premises hold: a START, seven levels, and the eighth rise, after which the transfer goes on
pub premises : ◌≡◌ {A = Bool × Bool × List Bool × Bool × Bool × ℕ × Bool} (
  starts (ready 0x50) (decode (put_sda false)),
  never ends (next (ready 0x50) (decode (put_sda false))) (lower_scl ∷ clock_in (true ∷ false ∷ true ∷ false ∷ false ∷ false ∷ false ∷ []) []),
  levels_taken (next (ready 0x50) (decode (put_sda false))) (lower_scl ∷ clock_in (true ∷ false ∷ true ∷ false ∷ false ∷ false ∷ false ∷ []) []),
  takes_level begun (decode raise_scl),
  completes begun (decode raise_scl),
  address_at begun,
  never ends (next begun (decode raise_scl)) (written 0xa0 ∷ lower_scl ∷ acknowledged),
)
    (true, true, true ∷ false ∷ true ∷ false ∷ false ∷ false ∷ false ∷ [], true, true, 0xa0, true)
unfolding opened takes_level ends
premises = refl
