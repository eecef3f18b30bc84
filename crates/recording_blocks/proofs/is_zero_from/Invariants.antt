-- What the loop of `recording_blocks::is_zero_from` keeps.
use mathlib.Core.Path.{◌≡◌}
use lib.ListN.{drop}
use Rattle.recording_blocks.specs.Bytes.{all_zero}
use Rattle.recording_blocks.specs.Block.{all_words}
use Rattle.recording_blocks.proofs.is_zero_from.Given as goal

abbrev pub invariant-loop-i : goal.invariant-loop-i
invariant-loop-i l = all_zero (drop l.i (all_words l.bytes)) ≡ all_zero (drop l.from (all_words l.bytes))
