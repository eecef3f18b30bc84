-- The interval over a list of event words (document 01, "Counting sync"): what it counts, and what zeroes it.
use Rattle.std.specs.Prelude.{ℕ, Bool, false, not, ◌&&◌, ◌||◌}
use Rattle.registers.specs.Names.{MDCON, HSEL}
use Rattle.events.specs.Clocks as clock
use Rattle.events.specs.Decoded.{Decoded}
use Rattle.chip.specs.declared.Chip.{Chip}
use Rattle.chip.specs.State.{hsel_of}
use Rattle.chip_flag_laws.specs.Causes.{is_clock}
use Rattle.chip_count_laws.specs.Counting.{resets, writes}

-- an 8 µs clock is counted while RESET is high and HSEL is 0
unfoldable pub counts_interval : Chip → Decoded → Bool
counts_interval c e = is_clock clock.period e && (c.core.reset && not (hsel_of c.core))

-- zeroed, beside running on from its last value: HSEL written from 1 to 0, and a reset
unfoldable pub zeroes_interval : Chip → Decoded → Bool
zeroes_interval c e = (writes MDCON HSEL false c e && hsel_of c.core) || resets c e

-- an event comes while HSEL is 1, or 0
abbrev pub hsel_high : Chip → Decoded → Bool
hsel_high c e = hsel_of c.core

abbrev pub hsel_low : Chip → Decoded → Bool
hsel_low c e = not (hsel_of c.core)
