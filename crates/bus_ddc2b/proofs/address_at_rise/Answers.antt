-- `bus_ddc2b::address_at_rise` meets its contract: the outcome of the comparison tells whether the address is the chip's own.
-- Assumes nothing.
use Rattle.bus_ddc2b.specs.Ddc2b.{at_rise, phase_at_rise, status_at_rise, data_at_rise, matches_at_rise}
use Rattle.bus_ddc2b.proofs.Own.{own_matches}
use borrow.Author.Tests.{le-ltb}
use Rattle.bus_ddc2b.proofs.address_at_rise.Goals as goal

pub returns-else-count-lt7 : goal.returns-else-count-lt7
unfolding at_rise phase_at_rise status_at_rise data_at_rise matches_at_rise
returns-else-count-lt7 c = simp (own_matches, c.address_completed.ensures, c.compared.ensures, le-ltb _ _ c.if-count-lt7.false, c.gathered-byte.ensures)
