use Rattle.cpu_step.specs.InstructionTurn.{turn_from}
use borrow.Author.Tests.{lt-ltb, le-ltb}
use borrow.Author.Rules.{rules}
use Rattle.cpu_step.proofs.turn_from.Goals as goal

pub set_over-d-requires : goal.set_over-d-requires
unfolding turn_from
set_over-d-requires c = search rules

pub returns-then-t-lt32 : goal.returns-then-t-lt32
unfolding turn_from
returns-then-t-lt32 c = simp (lt-ltb _ _ c.if-t-lt32.true, c.set_over-d.ensures, c.in-Done.is)

pub returns-else-t-lt32 : goal.returns-else-t-lt32
unfolding turn_from
returns-else-t-lt32 c = simp (le-ltb _ _ c.if-t-lt32.false, c.set_over-d.ensures, c.in-Done.is)

pub returns-in-Write : goal.returns-in-Write
unfolding turn_from
returns-in-Write c = simp c.in-Write.is

pub returns-then-n-lt64 : goal.returns-then-n-lt64
unfolding turn_from
returns-then-n-lt64 c = simp (c.in-Refused.is, lt-ltb _ _ c.if-n-lt64.true)

pub returns-else-n-lt64 : goal.returns-else-n-lt64
unfolding turn_from
returns-else-n-lt64 c = simp (c.in-Refused.is, le-ltb _ _ c.if-n-lt64.false)
