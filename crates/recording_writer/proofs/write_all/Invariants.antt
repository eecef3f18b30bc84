-- What the loop of `recording_writer::write_all` keeps.
use mathlib.Core.Path.{◌≡◌}
use Prim.Native.Nat.{ℕ}
use lib.ListN.{drop}
use Rattle.std.specs.Slice.Iter.{chunks_rest, chunks_size}
use Rattle.recording_writer.proofs.Writing.{Writing}
use Rattle.recording_writer.proofs.write_all.Given as goal

abbrev pub invariant-loop-part : goal.invariant-loop-part
invariant-loop-part l =
    goal.iterator-loop-part.can_next l.part-iterator
    × goal.iterator-loop-part.is_finite l.part-iterator
    × (chunks_size l.part-iterator ≡ 126)
    × (at : ℕ) × (chunks_rest l.part-iterator ≡ drop at l.words) × Writing l.first l.words l.initial.area l.area l.next at l.put
