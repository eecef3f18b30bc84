-- `replay::finish` writes text within its buffer.
-- Assumes nothing.
use Rattle.std.proofs.Common.{sym}
use Rattle.std.proofs.lemmas.List.{length-take-le}
use Rattle.replay_text.proofs.Stream.{count_within}
use Rattle.replay.proofs.finish.Goals as goal

pub slice_bounds-write-end : goal.slice_bounds-write-end
slice_bounds-write-end c =
    let answered = c.answer_block-answered in
    count_within _ _ _ _ answered.result answered.ensures.0 answered.ensures.1

pub slice_bounds-write-end-2 : goal.slice_bounds-write-end-2
slice_bounds-write-end-2 c =
    let answered = c.answer_block-answered in
    sym (length-take-le _ _ (count_within _ _ _ _ answered.result answered.ensures.0 answered.ensures.1))
