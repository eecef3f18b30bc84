use borrow.Author.Tests.{eq-eqb, ne_eqb}
use Rattle.cpu_register_cache.specs.Cache.{same_counts}
use borrow.Author.Rules.{rules}
use Rattle.cpu_register_cache.proofs.same_counts.Goals as goal

pub same_bool-requires : goal.same_bool-requires
unfolding same_counts
same_bool-requires c = search rules

pub same_bool-requires-then-same_bool : goal.same_bool-requires-then-same_bool
unfolding same_counts
same_bool-requires-then-same_bool c = search rules

pub returns-then-s-t : goal.returns-then-s-t
unfolding same_counts
returns-then-s-t c = simp (eq-eqb _ _ c.if-s-t.true, ← c.same_bool-then-same_bool.ensures, c.if-same_bool-2.true, ← c.same_bool.ensures, c.if-same_bool.true)

pub returns-else-s-t : goal.returns-else-s-t
unfolding same_counts
returns-else-s-t c = simp (ne_eqb _ _ c.if-s-t.false, ← c.same_bool-then-same_bool.ensures, c.if-same_bool-2.true, ← c.same_bool.ensures, c.if-same_bool.true)

pub returns-else-same_bool-2 : goal.returns-else-same_bool-2
unfolding same_counts
returns-else-same_bool-2 c = simp (← c.same_bool-then-same_bool.ensures, c.if-same_bool-2.false, ← c.same_bool.ensures, c.if-same_bool.true)

pub returns-else-same_bool : goal.returns-else-same_bool
unfolding same_counts
returns-else-same_bool c = simp (← c.same_bool.ensures, c.if-same_bool.false)
