-- The agreement at a concrete list, so that it is not one about nothing: from a fresh chip with DDC2B on and 6EH in II ADR.
-- Assumes nothing.
use mathlib.Core.Path.{◌≡◌, refl, sym, ◌∙◌}
use mathlib.Core.List.{[], ◌∷◌}
use lib.ListN.{take}
use Rattle.bus.specs.declared.OwnAddress.TheVariants.{A0, IiAdr}
use Rattle.bus.specs.declared.Comparison.TheVariants.{None, Own}
use Rattle.bus_ddc2b.specs.Ddc2b.{compared}
use Rattle.plain_bus.specs.Plain.{level_before, rise_at, start_at, stop_at, rises_from, address_at, ends_at, addresses_from, addresses, changes_to_stop}
use Rattle.std.specs.Prelude.{None}
use Rattle.plain_bus.specs.Reading.{fault_of, first_fault}
use Rattle.chip.specs.declared.Chip.{Chip}
use Rattle.chip_cases.proofs.Opened.{opened}
use Rattle.plain_bus_laws.specs.Stepping.{told, completed_by, Begins}
use Rattle.plain_bus_laws.specs.Worked.{example, ready}
use Rattle.plain_bus_laws.proofs.Agree.{agree}

pub example_found : addresses 0x6e example ≡ told 0x50 None ∷ told 0xa1 (Own A0) ∷ told 0x6e (Own IiAdr) ∷ []
unfolding addresses_from address_at ends_at rises_from level_before rise_at start_at stop_at compared
example_found = refl

pub example_good : first_fault example ≡ None
unfolding first_fault fault_of
example_good = refl

-- so that a chip completes these three, whatever else its state is
pub example_completed : (c : Chip) → Begins 0x6e c → completed_by c (take (changes_to_stop 0x6e example) example) ≡ told 0x50 None ∷ told 0xa1 (Own A0) ∷ told 0x6e (Own IiAdr) ∷ []
example_completed c b = sym (agree 0x6e c b example example_good) ∙ example_found

-- a fresh chip with DDC2B turned on and II ADR written is such a state
pub ready_begins : Begins 0x6e ready
unfolding opened ready
ready_begins = record { well = refl; ddc2b = refl; idle = refl; scl_high_lem = refl; sda_high = refl; reset_high = refl; address = refl }
