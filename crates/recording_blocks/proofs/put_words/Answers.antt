-- `recording_blocks::put_words` meets its contract. The loop's invariant is `Put`.
-- Assumes nothing.
use mathlib.Core.Path.{refl, sym, ◌∙◌}
use mathlib.Core.List.{append-nil}
use native.Mathlib.Omega.{arith}
use Rattle.recording_blocks.specs.Bytes.{words_bytes}
use Rattle.recording_blocks.specs.Block.{padded}
use Rattle.recording_blocks.proofs.Loops.{put_more, put_all, padded_at, length_padded}
use Rattle.recording_blocks.proofs.put_words.Goals as goal

pub loop-i-init : goal.loop-i-init
unfolding words_bytes
loop-i-init c = record { within = omega arith; same = refl; written = sym (append-nil _); rest = refl }

pub loop-i-preserved : goal.loop-i-preserved
loop-i-preserved c =
    let words = c.args.words.now in
    put_more (padded words) _ _ c.loop-i.i _ c.loop-i.invariant c.loop-i-test.true (length_padded words c.requires.0) c.requires.1
    (c.word_or_zero.ensures ∙ padded_at words c.loop-i.i) _ c.put_four.ensures

pub returns : goal.returns
returns c = put_all _ _ _ c.loop-i.i c.loop-i.invariant c.loop-i-test.false (length_padded c.args.words.now c.requires.0)
