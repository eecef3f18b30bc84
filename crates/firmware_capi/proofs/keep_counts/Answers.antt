-- `firmware_capi::keep_counts` meets its contract.
-- Assumes nothing.
use Rattle.list_laws.proofs.Areas.{two_places}
use Rattle.firmware_capi.proofs.keep_counts.Goals as goal

pub returns : goal.returns
returns c = two_places c.args.counts.now _ _ c.requires
