-- `state_area::put` meets its contract.
-- Assumes nothing.
use native.Mathlib.Omega.{arith}
use mathlib.Core.Path.{◌≡◌, sym, ◌∙◌}
use lib.ListN.{length}
use borrow.Author.Tests.{eq-eqb, ne_eqb}
use borrow.Author.Rules.{rules}
use Rattle.state_area.specs.Area.{put_in}
use Rattle.state_area.proofs.Accepted.{copied_over}
use Rattle.state_area.proofs.put.Goals as goal

pub returns-then-area-eq128 : goal.returns-then-area-eq128
unfolding put_in
returns-then-area-eq128 c =
    let bytes : length c.bytes_of.result ≡ 128 = search rules in
    let same : length c.bytes_of.result ≡ length c.args.area.now = bytes ∙ sym c.if-area-eq128.true in
    simp ((c.copy.ensures.fits (omega arith)).1 ∙ copied_over _ _ same, c.bytes_of.ensures, eq-eqb _ _ c.if-area-eq128.true)

pub returns-else-area-eq128 : goal.returns-else-area-eq128
unfolding put_in
returns-else-area-eq128 c = simp (ne_eqb _ _ c.if-area-eq128.false)
