-- `edid_check::sum_fits` meets its contract.
-- Assumes nothing.
use borrow.Author.Rules.{rules}
use Rattle.edid_check.specs.Block.{sum_fits}
use Rattle.edid_check.proofs.sum_fits.Goals as goal

pub sum-requires : goal.sum-requires
unfolding sum_fits
sum-requires c = search rules

pub returns : goal.returns
unfolding sum_fits
returns c = simp c.sum.ensures
