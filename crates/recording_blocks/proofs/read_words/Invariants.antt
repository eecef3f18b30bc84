-- What the loop of `recording_blocks::read_words` keeps.
use Rattle.recording_blocks.specs.Bytes.{words_of}
use Rattle.recording_blocks.proofs.Loops.{Taken}
use Rattle.recording_blocks.proofs.read_words.Given as goal

abbrev pub invariant-loop-i : goal.invariant-loop-i
invariant-loop-i l = Taken (words_of l.bytes) l.initial.words l.words l.i
