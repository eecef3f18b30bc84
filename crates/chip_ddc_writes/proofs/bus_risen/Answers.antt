-- `chip_ddc_writes::bus_risen` meets its contract.
-- Assumes nothing.
use Rattle.chip_ddc_writes.specs.DdcWrites.{bus_risen}
use Rattle.chip_edges.proofs.Risen.{bus_outside}
use borrow.Author.Rules.{rules}
use Rattle.chip_ddc_writes.proofs.bus_risen.Goals as goal

pub returns-then-scl : goal.returns-then-scl
unfolding bus_risen
returns-then-scl c = simp (c.bus_at_rise.ensures, c.if-scl.true, bus_outside)
