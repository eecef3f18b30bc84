-- What the loop of `recording_parts::read_all` keeps.
use mathlib.Core.Path.{◌≡◌}
use Prim.Native.Nat.{ℕ}
use lib.ListN.{drop}
use Rattle.std.specs.Slice.Iter.{chunks_rest, chunks_size}
use Rattle.recording_parts.proofs.Reading.{Reading}
use Rattle.recording_parts.proofs.read_all.Given as goal

abbrev pub invariant-loop-block : goal.invariant-loop-block
invariant-loop-block l =
    goal.iterator-loop-block.can_next l.block-iterator
    × goal.iterator-loop-block.is_finite l.block-iterator
    × (chunks_size l.block-iterator ≡ 512)
    × (at : ℕ) × (chunks_rest l.block-iterator ≡ drop at l.bytes) × Reading l.due l.bytes l.initial.words l.words l.next l.count at
