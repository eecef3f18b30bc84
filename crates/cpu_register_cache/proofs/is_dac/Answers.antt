use borrow.Author.Tests.{lt-ltb, le-ltb}
use Rattle.cpu_register_cache.specs.Cache.{is_dac}
use Rattle.cpu_register_cache.proofs.is_dac.Goals as goal

pub returns-then-a-lt-DACH0 : goal.returns-then-a-lt-DACH0
unfolding is_dac
returns-then-a-lt-DACH0 c = simp (lt-ltb _ _ c.if-a-lt-DACH0.true)

pub returns-else-a-lt-DACH0 : goal.returns-else-a-lt-DACH0
unfolding is_dac
returns-else-a-lt-DACH0 c = simp (le-ltb _ _ c.if-a-lt-DACH0.false)
