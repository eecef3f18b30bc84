-- `replay::answer` writes text within its buffer, and the bytes carried over are within those that came.
-- Assumes nothing.
use Rattle.std.proofs.Common.{sym}
use Rattle.std.proofs.lemmas.List.{length-take-le}
use Rattle.replay_text.proofs.Parts.{part_within}
use Rattle.replay.proofs.answer.Goals as goal

pub slice_bounds-write-end : goal.slice_bounds-write-end
slice_bounds-write-end c =
    let part = c.answer_part-part in
    (part_within _ _ _ _ part.result part.ensures.0 part.ensures.1.1).0

pub slice_bounds-write-end-2 : goal.slice_bounds-write-end-2
slice_bounds-write-end-2 c =
    let part = c.answer_part-part in
    sym (length-take-le _ _ (part_within _ _ _ _ part.result part.ensures.0 part.ensures.1.1).0)

pub returns : goal.returns
returns c =
    let part = c.answer_part-part in
    (part_within _ _ _ _ part.result part.ensures.0 part.ensures.1.1).1
