-- `listing::read` meets its contract: what is left of the text, from here, comes to what the whole comes to.
-- Assumes nothing.
use mathlib.Core.Path.{refl, ap, ◌∙◌}
use Prim.Native.Nat.{◌+◌}
use borrow.Author.Rules.{rules}
use lib.ListN.{drop}
use Rattle.listing.specs.declared.Progress.{Progress}
use Rattle.listing.specs.Listing.{read}
use Rattle.listing.proofs.Reading.{read_next, read_end}
use Rattle.listing.proofs.read.Goals as goal

pub loop-b-init : goal.loop-b-init
loop-b-init c = refl

pub loop-b-preserved : goal.loop-b-preserved
loop-b-preserved c =
    let text = c.args.text.now in
    ap (λ (p : Progress). read p (drop (c.loop-b.b-index + 1) text)) c.byte_read-p.ensures ∙ read_next c.loop-b.p text c.loop-b.b-index (search rules) ∙ c.loop-b.invariant

pub returns : goal.returns
returns c = read_end _ _ c.loop-b.b-index (search rules) ∙ c.loop-b.invariant
