-- `edid_feed::feed_word` meets its contract.
-- Assumes nothing.
use mathlib.Core.Path.{◌∙◌}
use native.Mathlib.Omega.{arith}
use Rattle.edid_feed.proofs.Indexed.{feed_lead, feed_byte}
use Rattle.edid_feed.proofs.feed_word.Goals as goal

pub lead_word-requires : goal.lead_word-requires
lead_word-requires c = omega arith

pub bounds-block-k : goal.bounds-block-k
bounds-block-k c = omega arith

pub sending_word-requires : goal.sending_word-requires
sending_word-requires c = omega arith

pub returns-then-i-lt21 : goal.returns-then-i-lt21
returns-then-i-lt21 c = c.lead_word.ensures ∙ feed_lead c.args.block.now c.args.i c.if-i-lt21.true

pub returns-else-i-lt21 : goal.returns-else-i-lt21
returns-else-i-lt21 c = c.sending_word.ensures ∙ feed_byte c.args.block.now c.args.i c.if-i-lt21.false c.requires
