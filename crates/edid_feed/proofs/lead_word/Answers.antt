-- `edid_feed::lead_word` meets its contract.
-- Assumes nothing.
use mathlib.Core.Path.{◌∙◌}
use native.Mathlib.Omega.{arith}
use Rattle.edid_feed.specs.Words.{lead}
use Rattle.edid_feed.proofs.Indexed.{lead_at}
use Rattle.edid_feed.proofs.lead_word.Goals as goal

pub overflow_sub-i : goal.overflow_sub-i
unfolding lead
overflow_sub-i c = omega arith

pub pulse_word-requires : goal.pulse_word-requires
unfolding lead
pulse_word-requires c = omega arith

pub returns-in-0 : goal.returns-in-0
unfolding lead
returns-in-0 c = simp c.in-0.is

pub returns-in-1 : goal.returns-in-1
unfolding lead
returns-in-1 c = simp c.in-1.is

pub returns-in-2 : goal.returns-in-2
unfolding lead
returns-in-2 c = simp c.in-2.is

pub returns-in_default : goal.returns-in_default
unfolding lead
returns-in_default c = c.pulse_word.ensures ∙ lead_at c.args.i (omega arith)
