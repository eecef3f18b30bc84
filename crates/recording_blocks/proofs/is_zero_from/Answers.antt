-- `recording_blocks::is_zero_from` meets its contract: the words passed are zero.
use mathlib.Core.Path.{refl, sym, ◌∙◌}
use native.Mathlib.Omega.{arith}
use Rattle.recording_blocks.specs.Block.{all_words}
use Rattle.recording_blocks.proofs.Words.{length_all, word_of_lem}
use Rattle.recording_blocks.proofs.Loops.{zero_more, zero_ends, zero_all}
use Rattle.recording_blocks.proofs.is_zero_from.Goals as goal

pub loop-i-init : goal.loop-i-init
loop-i-init c = refl

pub loop-i-preserved : goal.loop-i-preserved
loop-i-preserved c =
    let bytes = c.args.bytes.now in
    let word = sym (word_of_lem bytes c.requires.0 c.loop-i.i c.loop-i-test.true) ∙ sym c.four_at.ensures ∙ c.if-four_at-ne0.false in
    zero_more (all_words bytes) c.loop-i.i (omega (arith, length_all bytes c.requires.0)) word ∙ c.loop-i.invariant

pub returns-then-four_at-ne0 : goal.returns-then-four_at-ne0
returns-then-four_at-ne0 c =
    let bytes = c.args.bytes.now in
    zero_ends (all_words bytes) c.loop-i.i (omega (arith, length_all bytes c.requires.0))
    (λ e. c.if-four_at-ne0.true (c.four_at.ensures ∙ word_of_lem bytes c.requires.0 c.loop-i.i c.loop-i-test.true ∙ e))
    ∙ c.loop-i.invariant

pub returns : goal.returns
returns c =
    let bytes = c.args.bytes.now in
    zero_all (all_words bytes) c.loop-i.i (omega (arith, length_all bytes c.requires.0, c.loop-i-test.false)) ∙ c.loop-i.invariant
