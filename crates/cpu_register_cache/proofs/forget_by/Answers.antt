use Rattle.cpu_register_cache.specs.Cache.{seen_after_event}
use borrow.Author.Rules.{rules}
use Rattle.cpu_register_cache.proofs.forget_by.Goals as goal

pub is_bus-requires : goal.is_bus-requires
unfolding seen_after_event
is_bus-requires c = search rules

pub forget_bus-requires : goal.forget_bus-requires
unfolding seen_after_event
forget_bus-requires c = search rules

pub forget-requires : goal.forget-requires
unfolding seen_after_event
forget-requires c = search rules

pub returns-then-is_bus : goal.returns-then-is_bus
unfolding seen_after_event
returns-then-is_bus c = simp (c.forget_bus.ensures, ← c.is_bus.ensures, c.if-is_bus.true)

pub returns-else-is_bus : goal.returns-else-is_bus
unfolding seen_after_event
returns-else-is_bus c = simp (c.forget.ensures, ← c.is_bus.ensures, c.if-is_bus.false)
