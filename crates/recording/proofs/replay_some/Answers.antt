-- `recording::replay_some` lends and writes what is within its buffers.
-- Assumes nothing.
use Rattle.std.proofs.Common.{arith, sym}
use Rattle.std.proofs.lemmas.List.{length-take-le}
use Rattle.recording_replay.proofs.Recordings.{count_within}
use Rattle.recording.proofs.replay_some.Goals as goal

pub slice_bounds-replay_blocks-end : goal.slice_bounds-replay_blocks-end
slice_bounds-replay_blocks-end c =
    sym (length-take-le _ _ (omega (arith, c.replayed_bytes-n.ensures, c.fill-filled.ensures.0)))

pub slice_bounds-out-end : goal.slice_bounds-out-end
slice_bounds-out-end c =
    let done = c.replay_blocks-done in
    count_within _ _ _ _ _ done.result done.ensures.0 done.ensures.1

pub slice_bounds-write_all-end : goal.slice_bounds-write_all-end
slice_bounds-write_all-end c =
    let done = c.replay_blocks-done in
    sym (length-take-le _ _ (count_within _ _ _ _ _ done.result done.ensures.0 done.ensures.1))
