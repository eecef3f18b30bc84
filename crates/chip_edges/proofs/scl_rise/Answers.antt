-- `chip_edges::scl_rise` meets its contract.
-- Assumes nothing.
use Rattle.chip_edges.proofs.Risen.{risen_outside}
use Rattle.chip_edges.proofs.scl_rise.Goals as goal

pub returns : goal.returns
returns c = simp (c.with_bus.ensures, c.bus_risen.ensures, c.raised.ensures, c.at_rise-r.ensures, risen_outside)
