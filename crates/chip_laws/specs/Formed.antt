-- Well formed, part by part: the bus and the stored registers.
use Rattle.std.specs.Prelude.{◌≡◌, true, List, ℕ, ◌<◌}
use Rattle.bits.specs.Byte.{bit}
use Rattle.bus.specs.Bus.{mode}
use Rattle.chip.specs.declared.Bus.{Bus}
use Rattle.chip_well_formed.specs.WellFormed.{reserved_at, bus_fits}

-- the bus at a value of MDCON, whose MD1/2 is part of the mode
pub record BusFormed (mdcon : ℕ) (b : Bus) : Type 0 where
  pub iists : b.iists < 64
  pub iiadr : bit 0 b.iiadr ≡ true
  pub fits : bus_fits (mode b.iists mdcon) b.phase b.shifter ≡ true

-- the array: each place has its reserved bits
abbrev pub Reserved : List ℕ → Type 0
Reserved l = (a : ℕ) → a < 38 → reserved_at l a ≡ true
