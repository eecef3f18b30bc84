-- `recording_blocks::word_count` meets its contract.
-- Assumes nothing.
use mathlib.Core.Path.{sym, ap, ◌∙◌}
use Rattle.std.specs.Prelude.{Ok}
use native.Mathlib.Omega.{arith}
use lib.Seq.{length-take-le}
use Rattle.recording_blocks.specs.Block.{sum_of, number_of, count_of}
use Rattle.recording_blocks.proofs.Refusals.{counted_by, gives_ten, gives_eleven, gives_twelve, gives_thirteen, gives_rest}
use Rattle.recording_blocks.proofs.word_count.Goals as goal

pub returns-then-bytes-lt512 : goal.returns-then-bytes-lt512
returns-then-bytes-lt512 c = counted_by _ _ 10 (gives_ten _ _ c.if-bytes-lt512.true)

pub slice_bounds-sum-end : goal.slice_bounds-sum-end
slice_bounds-sum-end c = sym (length-take-le 508 c.args.bytes.now (omega arith))

pub sum-requires : goal.sum-requires
sum-requires c = omega (arith, length-take-le 508 c.args.bytes.now (omega arith))

pub returns-then-four_at-sum : goal.returns-then-four_at-sum
unfolding sum_of number_of count_of
returns-then-four_at-sum c = counted_by _ _ 11 (gives_eleven _ _ c.if-bytes-lt512.false _ _ c.four_at.ensures c.sum.ensures c.if-four_at-sum.true)

pub returns-then-two_at-due : goal.returns-then-two_at-due
unfolding sum_of number_of count_of
returns-then-two_at-due c =
    counted_by _ _ 12 (gives_twelve _ _ c.if-bytes-lt512.false _ _ c.four_at.ensures c.sum.ensures c.if-four_at-sum.false _ c.two_at.ensures c.if-two_at-due.true)

pub returns-then-count-gt-WORDS : goal.returns-then-count-gt-WORDS
unfolding sum_of number_of count_of
returns-then-count-gt-WORDS c =
    counted_by _ _ 13 (gives_thirteen _ _ c.if-bytes-lt512.false _ _ c.four_at.ensures c.sum.ensures c.if-four_at-sum.false _ c.two_at.ensures c.if-two_at-due.false
    _ c.two_at-count.ensures (omega (arith, c.if-count-gt-WORDS.true)))

pub returns-then-not-is_zero_from : goal.returns-then-not-is_zero_from
unfolding sum_of number_of count_of
returns-then-not-is_zero_from c =
    let few = c.if-count-gt-WORDS.false in
    let zero = c.if-not-is_zero_from.ensures in
    counted_by _ _ 14 (gives_rest _ _ c.if-bytes-lt512.false _ _ c.four_at.ensures c.sum.ensures c.if-four_at-sum.false _ c.two_at.ensures c.if-two_at-due.false
    _ c.two_at-count.ensures (omega (arith, few)) _ zero)

pub returns : goal.returns
unfolding sum_of number_of count_of
returns c =
    let few = c.if-count-gt-WORDS.false in
    let zero = c.if-not-is_zero_from.ensures in
    ap Ok c.two_at-count.ensures
    ∙ counted_by _ _ 0 (gives_rest _ _ c.if-bytes-lt512.false _ _ c.four_at.ensures c.sum.ensures c.if-four_at-sum.false _ c.two_at.ensures c.if-two_at-due.false
    _ c.two_at-count.ensures (omega (arith, few)) _ zero)
