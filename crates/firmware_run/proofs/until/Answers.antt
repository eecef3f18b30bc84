use borrow.Author.Tests.{lt-ltb, le-ltb}
use Rattle.firmware_run.proofs.Going.{until_cons, until_past}
use Rattle.firmware_run.proofs.until.Goals as goal

pub returns-then-at-from : goal.returns-then-at-from
returns-then-at-from c = simp (until_cons c.args.n c.args.events.now c.args.next c.if-next-events.true, lt-ltb _ _ (rw c.from.ensures at c.if-at-from.true))

pub returns-else-at-from : goal.returns-else-at-from
returns-else-at-from c = simp (until_cons c.args.n c.args.events.now c.args.next c.if-next-events.true, le-ltb _ _ (rw c.from.ensures at c.if-at-from.false))

pub returns-else-next-events : goal.returns-else-next-events
returns-else-next-events c = simp (until_past c.args.n c.args.events.now c.args.next c.if-next-events.false)
