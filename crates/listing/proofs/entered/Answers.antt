-- `listing::entered` meets its contract.
-- Assumes nothing.
use mathlib.Core.Path.{ap, ◌∙◌}
use Rattle.listing.specs.declared.Progress.{Progress}
use Rattle.listing.specs.Listing.{line_end}
use Rattle.listing.proofs.entered.Goals as goal

pub returns : goal.returns
returns c = c.line_end.ensures
    ∙ ap (λ (p : Progress). line_end p.verdict p) c.repeated-done.ensures
