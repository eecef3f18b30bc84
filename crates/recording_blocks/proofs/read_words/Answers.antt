-- `recording_blocks::read_words` meets its contract. The loop's invariant is `Taken`.
-- Assumes nothing.
use mathlib.Core.Path.{refl, ◌∙◌}
use native.Mathlib.Omega.{arith}
use Rattle.recording_blocks.specs.Bytes.{words_of}
use Rattle.recording_blocks.proofs.Words.{length_words, word_at}
use Rattle.recording_blocks.proofs.Loops.{take_more, take_all_words, as_many}
use Rattle.recording_blocks.proofs.read_words.Goals as goal

pub loop-i-init : goal.loop-i-init
loop-i-init c = record { same = refl; taken = refl; rest = refl }

pub loop-i-preserved : goal.loop-i-preserved
loop-i-preserved c =
    let bytes = c.args.bytes.now in
    take_more (words_of bytes) _ _ c.loop-i.i _ c.loop-i.invariant (omega (arith, length_words bytes)) (omega arith)
    (c.four_at.ensures ∙ word_at bytes c.loop-i.i (omega arith))

pub returns : goal.returns
returns c =
    let bytes = c.args.bytes.now in
    take_all_words _ _ _ c.loop-i.i _ c.loop-i.invariant refl
    ∙ as_many (words_of bytes) c.args.words.now _ (omega (arith, length_words bytes))
