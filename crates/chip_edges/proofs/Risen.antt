-- A rise of the SCL line, told by all that it moves at SDA's outside level.
-- Assumes nothing.
use mathlib.Core.Path.{◌≡◌, ap}
use mathlib.Core.Bool.{Bool}
use Rattle.bus.specs.Bus.{line, pulls_sda}
use Rattle.bus_ddc2b.specs.declared.Risen.{Risen}
use Rattle.bus_ddc2b.specs.Ddc2b.{at_rise}
use Rattle.bus_ddc2b.proofs.Outside.{outside}
use Rattle.chip.specs.declared.Bus.{Bus}
use Rattle.chip.specs.declared.Core.{Core}
use Rattle.chip.specs.State.{bus_of, with_bus, raised}
use Rattle.chip_edges.specs.Edges.{bus_at_rise, sda_line, scl_rise}

abbrev pub core_risen : Core → Risen → Core
core_risen c r = with_bus (raised c r.flags) (bus_of r.iists c.bus.iiadr r.iidat r.phase c.bus.shifter)

pub risen_outside : (c : Core) → scl_rise c ≡ core_risen c (at_rise c.bus.iiadr c.sda c.bus.iists c.bus.iidat c.bus.phase)
unfolding scl_rise bus_at_rise at_rise
risen_outside c = ap (core_risen c) (outside c.bus.iiadr c.sda c.bus.iists c.bus.iidat c.bus.phase)

pub bus_outside : (sda : Bool) (b : Bus) → bus_at_rise (sda_line b sda) b ≡ bus_at_rise sda b
unfolding bus_at_rise at_rise
bus_outside sda b =
    ap (λ (r : Risen). bus_of r.iists b.iiadr r.iidat r.phase b.shifter) (outside b.iiadr sda b.iists b.iidat b.phase)
