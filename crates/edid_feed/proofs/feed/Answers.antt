-- `edid_feed::feed` meets its contract.
-- Assumes nothing.
use mathlib.Core.Path.{sym}
use native.Mathlib.Omega.{arith}
use Rattle.edid_feed.specs.Words.{feed_words}
use Rattle.edid_feed.proofs.Filled.{placed_short, placed_whole, placed_length}
use Rattle.edid_feed.proofs.Indexed.{length_feed}
use Rattle.edid_feed.proofs.feed.Goals as goal

pub returns-then-words-lt21 : goal.returns-then-words-lt21
returns-then-words-lt21 c = placed_short _ _ (omega (arith, length_feed c.args.block.now))

pub overflow_sub-words : goal.overflow_sub-words
overflow_sub-words c = omega arith

pub returns-then-words-block : goal.returns-then-words-block
returns-then-words-block c = placed_short _ _ (omega (arith, length_feed c.args.block.now))

pub put_words-requires : goal.put_words-requires
put_words-requires c = omega arith

pub overflow_mul-result : goal.overflow_mul-result
overflow_mul-result c = omega arith

pub overflow_add-result : goal.overflow_add-result
overflow_add-result c = omega arith

pub shape_of-words : goal.shape_of-words
shape_of-words c = placed_length (feed_words c.args.block.now) c.args.words.now (omega (arith, length_feed c.args.block.now)) _ c.put_words.ensures

pub returns : goal.returns
returns c = placed_whole (feed_words c.args.block.now) c.args.words.now (omega (arith, length_feed c.args.block.now)) _ (sym (length_feed c.args.block.now)) _ c.put_words.ensures
