-- `edid_feed::sending_word` meets its contract.
-- Assumes nothing.
use mathlib.Core.Path.{◌∙◌}
use native.Mathlib.Omega.{arith}
use Rattle.edid_feed.specs.Words.{sending}
use Rattle.edid_feed.proofs.Indexed.{sending_at}
use Rattle.edid_feed.proofs.sending_word.Goals as goal

pub overflow_add-result : goal.overflow_add-result
unfolding sending
overflow_add-result c = omega arith

pub overflow_sub-i : goal.overflow_sub-i
unfolding sending
overflow_sub-i c = omega arith

pub pulse_word-requires : goal.pulse_word-requires
unfolding sending
pulse_word-requires c = omega arith

pub returns-in-0 : goal.returns-in-0
unfolding sending
returns-in-0 c = simp c.in-0.is

pub returns-in-1 : goal.returns-in-1
unfolding sending
returns-in-1 c = simp (c.in-1.is, c.from.ensures)

pub returns-in_default : goal.returns-in_default
unfolding sending
returns-in_default c = c.pulse_word.ensures ∙ sending_at c.args.b c.args.i (omega arith)
