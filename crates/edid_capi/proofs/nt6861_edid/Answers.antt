-- `edid_capi::nt6861_edid` meets its contract.
-- Assumes nothing.
use mathlib.Core.Path.{ap, ◌∙◌}
use Rattle.edid_check.specs.Edid.{number_of}
use Rattle.edid_capi.proofs.nt6861_edid.Goals as goal

pub returns : goal.returns
returns c = c.number.ensures ∙ ap number_of c.check.ensures.verdict_given
