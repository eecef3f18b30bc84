use borrow.Author.Tests.{lt-ltb, le-ltb}
use Rattle.cpu_register_cache.specs.Cache.{core_after_cycles}
use borrow.Author.Rules.{rules}
use Rattle.firmware_run.proofs.core_after_cycles.Goals as goal

pub clocked-requires : goal.clocked-requires
unfolding core_after_cycles
clocked-requires c = search rules

pub returns-then-n-lt32 : goal.returns-then-n-lt32
unfolding core_after_cycles
returns-then-n-lt32 c = simp (lt-ltb _ _ c.if-n-lt32.true)

pub returns-else-n-lt32 : goal.returns-else-n-lt32
unfolding core_after_cycles
returns-else-n-lt32 c = simp (c.clocked.ensures, le-ltb _ _ c.if-n-lt32.false)
