-- What the loop of `replay_text::answer_words` keeps.
use mathlib.Core.Path.{◌≡◌}
use Rattle.std.specs.Slice.Iter.{chunks_rest, chunks_size}
use Rattle.replay_text.proofs.Progress.{Progress}
use Rattle.replay_text.proofs.answer_words.Given as goal

abbrev pub invariant-loop-part : goal.invariant-loop-part
invariant-loop-part l =
    goal.iterator-loop-part.can_next l.part-iterator
    × goal.iterator-loop-part.is_finite l.part-iterator
    × (chunks_size l.part-iterator ≡ 4096)
    × Progress l.bytes l.initial.text l.initial.c (chunks_rest l.part-iterator) l.text l.c l.at
