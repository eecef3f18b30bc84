-- The lists are read so.
use mathlib.Core.Path.{◌≡◌, refl}
use Rattle.bits.specs.Byte.{bit}
use Rattle.bus_ddc2b.specs.Ddc2b.{compared}
use Rattle.plain_bus.specs.Plain.{level_before, rise_at, start_at, stop_at, rises_from, address_at, ends_at, addresses_from}
use Rattle.plain_bus.specs.Reading.{fault_of, first_fault, reading, places_left}
use Rattle.plain_bus_cases.specs.Lists.{rows, given, expected}

pub lists_read : given rows ≡ expected rows
unfolding rows bit compared level_before rise_at start_at stop_at rises_from address_at ends_at addresses_from fault_of first_fault reading places_left
lists_read = refl
