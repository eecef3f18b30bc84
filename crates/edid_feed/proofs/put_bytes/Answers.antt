-- `edid_feed::put_bytes` meets its contract. The loop's invariant is `Filled`.
-- Assumes nothing.
use mathlib.Core.Path.{refl, ◌∙◌}
use Prim.Native.Nat.{◌-◌}
use native.Mathlib.Omega.{arith}
use Rattle.edid_feed.proofs.Filled.{kept, more, all}
use Rattle.edid_feed.proofs.Indexed.{length_bytes, byte_at}
use Rattle.edid_feed.proofs.put_bytes.Goals as goal

pub overflow_mul-n : goal.overflow_mul-n
overflow_mul-n c = omega arith

pub loop-i-init : goal.loop-i-init
loop-i-init c = record { within = omega arith; room = omega (arith, length_bytes c.args.words.now); filled = refl }

pub offset_bounds-words-k : goal.offset_bounds-words-k
offset_bounds-words-k c = omega arith

pub bounds-words-k : goal.bounds-words-k
bounds-words-k c = omega arith

pub word_byte-requires : goal.word_byte-requires
word_byte-requires c = omega arith

pub bounds-bytes-i : goal.bounds-bytes-i
bounds-bytes-i c = omega (arith, kept _ _ _ _ c.loop-i.invariant)

pub loop-i-preserved : goal.loop-i-preserved
loop-i-preserved c =
    let words = c.args.words.now in
    more _ _ _ _ c.loop-i.invariant (omega (arith, length_bytes words)) _ (c.word_byte.ensures ∙ byte_at words c.loop-i.i (omega arith))

pub returns : goal.returns
returns c = all _ _ _ _ c.loop-i.invariant (omega (arith, length_bytes c.args.words.now))
