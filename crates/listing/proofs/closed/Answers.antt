-- `listing::closed` meets its contract.
-- Assumes nothing.
use mathlib.Core.Path.{ap, ◌∙◌}
use Rattle.listing.specs.declared.Progress.{Progress}
use Rattle.listing.specs.Listing.{concluded, closed}
use borrow.Author.Rules.{rules}
use Rattle.listing.proofs.closed.Goals as goal

pub byte_read-last-requires : goal.byte_read-last-requires
unfolding closed
byte_read-last-requires c = search rules

pub concluded-requires : goal.concluded-requires
unfolding closed
concluded-requires c = search rules

pub returns : goal.returns
unfolding closed
returns c = c.concluded.ensures ∙ ap (λ (p : Progress). concluded p.verdict p) c.byte_read-last.ensures
