-- `vcd_text::white` meets its contract.
-- Assumes nothing.
use borrow.Author.Tests.{lt-ltb, le-ltb, eq-eqb, ne_eqb}
use Rattle.vcd_text.specs.Token.{white}
use Rattle.vcd_text.proofs.white.Goals as goal

pub returns-then-b-gt32 : goal.returns-then-b-gt32
unfolding white
returns-then-b-gt32 c = simp (lt-ltb _ _ c.if-b-gt32.true)

pub returns-then-b-eq32 : goal.returns-then-b-eq32
unfolding white
returns-then-b-eq32 c = simp (eq-eqb _ _ c.if-b-eq32.true, le-ltb _ _ c.if-b-gt32.false)

pub returns-then-b-lt9 : goal.returns-then-b-lt9
unfolding white
returns-then-b-lt9 c = simp (lt-ltb _ _ c.if-b-lt9.true, ne_eqb _ _ c.if-b-eq32.false, le-ltb _ _ c.if-b-gt32.false)

pub returns : goal.returns
unfolding white
returns c = simp (le-ltb _ _ c.if-b-lt9.false, ne_eqb _ _ c.if-b-eq32.false, le-ltb _ _ c.if-b-gt32.false)
