use borrow.Author.Tests.{eq-eqb, ne_eqb}
use Rattle.firmware_machine.specs.Seen.{known_reading}
use Rattle.cpu_register_cache.proofs.known_reading.Goals as goal

pub returns-then-r-eq0 : goal.returns-then-r-eq0
unfolding known_reading
returns-then-r-eq0 c = simp (eq-eqb _ _ c.if-r-eq0.true)

pub returns-else-r-eq0 : goal.returns-else-r-eq0
unfolding known_reading
returns-else-r-eq0 c = simp (ne_eqb _ _ c.if-r-eq0.false)
