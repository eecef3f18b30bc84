-- `edid_feed::pulse_word` meets its contract.
-- Assumes nothing.
use mathlib.Core.Path.{sym, ◌∙◌}
use borrow.Author.Tests.{eq-eqb, ne_eqb}
use Rattle.edid_feed.proofs.Indexed.{pulse_at}
use Rattle.edid_feed.proofs.pulse_word.Goals as goal

pub returns-then-i-eq0 : goal.returns-then-i-eq0
returns-then-i-eq0 c = sym (pulse_at _ c.requires ∙ simp (eq-eqb _ _ c.if-i-eq0.true))

pub returns-else-i-eq0 : goal.returns-else-i-eq0
returns-else-i-eq0 c = sym (pulse_at _ c.requires ∙ simp (ne_eqb _ _ c.if-i-eq0.false))
