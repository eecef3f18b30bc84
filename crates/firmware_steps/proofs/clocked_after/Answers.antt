-- `firmware_steps::clocked_after` meets its contract.
-- Assumes nothing.
use borrow.Author.Tests.{lt-ltb, le-ltb}
use Rattle.step.specs.Step.{advance}
use borrow.Author.Rules.{rules}
use Rattle.firmware_steps.proofs.clocked_after.Goals as goal

pub advance-stepped-requires : goal.advance-stepped-requires
unfolding advance
advance-stepped-requires c = search rules

pub returns-then-n-lt32 : goal.returns-then-n-lt32
unfolding advance
returns-then-n-lt32 c = simp (lt-ltb _ _ c.if-n-lt32.true)

pub returns-else-n-lt32 : goal.returns-else-n-lt32
unfolding advance
returns-else-n-lt32 c = simp (c.advance-stepped.ensures, le-ltb _ _ c.if-n-lt32.false)
