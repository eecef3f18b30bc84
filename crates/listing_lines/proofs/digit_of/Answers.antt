-- `listing_lines::digit_of` meets its contract.
-- Assumes nothing.
use borrow.Author.Tests.{lt-ltb, le-ltb}
use Rattle.listing_lines.specs.Line.{digit_of}
use Rattle.listing_lines.proofs.digit_of.Goals as goal

pub returns-then-b-lt48 : goal.returns-then-b-lt48
unfolding digit_of
returns-then-b-lt48 c = simp (lt-ltb _ _ c.if-b-lt48.true)

pub returns-then-b-lt58 : goal.returns-then-b-lt58
unfolding digit_of
returns-then-b-lt58 c = simp (lt-ltb _ _ c.if-b-lt58.true, le-ltb _ _ c.if-b-lt48.false)

pub returns-then-b-lt65 : goal.returns-then-b-lt65
unfolding digit_of
returns-then-b-lt65 c = simp (lt-ltb _ _ c.if-b-lt65.true, le-ltb _ _ c.if-b-lt58.false, le-ltb _ _ c.if-b-lt48.false)

pub returns-then-b-lt71 : goal.returns-then-b-lt71
unfolding digit_of
returns-then-b-lt71 c = simp (lt-ltb _ _ c.if-b-lt71.true, le-ltb _ _ c.if-b-lt65.false, le-ltb _ _ c.if-b-lt58.false, le-ltb _ _ c.if-b-lt48.false)

pub returns-then-b-lt97 : goal.returns-then-b-lt97
unfolding digit_of
returns-then-b-lt97 c = simp (lt-ltb _ _ c.if-b-lt97.true, le-ltb _ _ c.if-b-lt71.false, le-ltb _ _ c.if-b-lt65.false, le-ltb _ _ c.if-b-lt58.false, le-ltb _ _ c.if-b-lt48.false)

pub returns-then-b-lt103 : goal.returns-then-b-lt103
unfolding digit_of
returns-then-b-lt103 c = simp (lt-ltb _ _ c.if-b-lt103.true, le-ltb _ _ c.if-b-lt97.false, le-ltb _ _ c.if-b-lt71.false, le-ltb _ _ c.if-b-lt65.false, le-ltb _ _ c.if-b-lt58.false, le-ltb _ _ c.if-b-lt48.false)

pub returns : goal.returns
unfolding digit_of
returns c = simp (le-ltb _ _ c.if-b-lt103.false, le-ltb _ _ c.if-b-lt97.false, le-ltb _ _ c.if-b-lt71.false, le-ltb _ _ c.if-b-lt65.false, le-ltb _ _ c.if-b-lt58.false, le-ltb _ _ c.if-b-lt48.false)
