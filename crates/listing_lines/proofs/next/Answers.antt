-- `listing_lines::next` meets its contract.
-- Assumes nothing.
use mathlib.Core.Path.{ap, ◌∙◌}
use Rattle.listing_lines.specs.Line.{next_at}
use Rattle.listing_lines.proofs.next.Goals as goal

pub returns : goal.returns
returns c =
    let r = c.args.r in
    c.next_at.ensures ∙ ap (next_at r.place r) c.symbol_of.ensures
