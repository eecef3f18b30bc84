-- `why_reasons::follow` meets its contract. The loop's invariant is `Done`.
-- Assumes nothing.
use mathlib.Core.Path.{refl}
use borrow.Author.Rules.{rules}
use Rattle.why_reasons.proofs.Pass.{more, all}
use Rattle.why_reasons.proofs.follow.Goals as goal

pub loop-word-init : goal.loop-word-init
loop-word-init c = record { within = search rules; rest = refl }

pub loop-word-preserved : goal.loop-word-preserved
loop-word-preserved c =
    let done = c.advance_word-done.ensures in
    more _ _ _ _ _ _ _ c.loop-word.invariant c.loop-word-test.true _ done.0 _ done.1
    _ c.mode_of-mode.ensures _ c.noted-last.ensures _ c.next_place-place.ensures

pub returns : goal.returns
returns c = all _ _ _ _ _ _ _ c.loop-word.invariant c.loop-word-test.false
