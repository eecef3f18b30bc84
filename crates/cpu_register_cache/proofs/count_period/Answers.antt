use mathlib.Core.Path.{refl}
use Rattle.cpu_register_cache.specs.Cache.{seen_after_clock}
use borrow.Author.Rules.{rules}
use Rattle.cpu_register_cache.proofs.count_period.Goals as goal

pub on_period-after-requires : goal.on_period-after-requires
unfolding seen_after_clock
on_period-after-requires c = search rules

pub same_counts-requires : goal.same_counts-requires
unfolding seen_after_clock
same_counts-requires c = search rules

pub forget-requires : goal.forget-requires
unfolding seen_after_clock
forget-requires c = search rules

pub returns-then-same_counts : goal.returns-then-same_counts
unfolding seen_after_clock
returns-then-same_counts c = simp (← c.on_period-after.ensures, ← c.same_counts.ensures, c.if-same_counts.true) (refl, refl)

pub returns-else-same_counts : goal.returns-else-same_counts
unfolding seen_after_clock
returns-else-same_counts c = simp (← c.on_period-after.ensures, ← c.same_counts.ensures, c.if-same_counts.false, c.forget.ensures) (refl, refl)
