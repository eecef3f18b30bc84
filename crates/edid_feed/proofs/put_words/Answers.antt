-- `edid_feed::put_words` meets its contract. The loop's invariant is `Filled`.
-- Assumes nothing.
use mathlib.Core.Path.{refl}
use Prim.Native.Nat.{◌-◌}
use native.Mathlib.Omega.{arith}
use Rattle.edid_feed.proofs.Filled.{kept, more, all}
use Rattle.edid_feed.proofs.Indexed.{length_feed}
use Rattle.edid_feed.proofs.put_words.Goals as goal

pub overflow_mul-n : goal.overflow_mul-n
overflow_mul-n c = omega arith

pub overflow_add-n : goal.overflow_add-n
overflow_add-n c = omega arith

pub loop-i-init : goal.loop-i-init
loop-i-init c = record { within = omega arith; room = omega (arith, length_feed c.args.block.now); filled = refl }

pub feed_word-requires : goal.feed_word-requires
feed_word-requires c = omega arith

pub bounds-words-i : goal.bounds-words-i
bounds-words-i c = omega (arith, kept _ _ _ _ c.loop-i.invariant)

pub loop-i-preserved : goal.loop-i-preserved
loop-i-preserved c = more _ _ _ _ c.loop-i.invariant (omega (arith, length_feed c.args.block.now)) _ c.feed_word.ensures

pub returns : goal.returns
returns c = all _ _ _ _ c.loop-i.invariant (omega (arith, length_feed c.args.block.now))
