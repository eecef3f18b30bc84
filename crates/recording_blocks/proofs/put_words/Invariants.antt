-- What the loop of `recording_blocks::put_words` keeps.
use Rattle.recording_blocks.specs.Block.{padded}
use Rattle.recording_blocks.proofs.Loops.{Put}
use Rattle.recording_blocks.proofs.put_words.Given as goal

abbrev pub invariant-loop-i : goal.invariant-loop-i
invariant-loop-i l = Put (padded l.words) l.initial.area l.area l.i
