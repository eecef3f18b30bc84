-- `list_call::run_all` meets its contract. The loop's invariant is `Done`.
-- Assumes nothing.
use mathlib.Core.Path.{refl}
use lib.ListN.{length}
use native.Mathlib.Omega.{arith}
use borrow.Author.Rules.{rules}
use Rattle.list_call.proofs.Runs.{more, all}
use Rattle.list_call.proofs.run_all.Goals as goal

pub loop-i-init : goal.loop-i-init
loop-i-init c = record { within = search rules; same = refl; state = refl; written = refl; rest = refl }

pub bounds-answers-i : goal.bounds-answers-i
bounds-answers-i c = omega (arith, c.loop-i.invariant.same)

pub loop-i-preserved : goal.loop-i-preserved
loop-i-preserved c =
    let done = c.advance_word-done.ensures in
    more _ _ _ _ _ _ c.loop-i.invariant (omega arith) c.requires _ done.0 _ done.1

pub shape_of-answers : goal.shape_of-answers
shape_of-answers c = c.loop-i.invariant.same

pub returns : goal.returns
returns c = all _ _ _ _ _ _ c.loop-i.invariant (omega arith) c.requires
