-- What the loop of `wave_write::level_lines` keeps.
use Rattle.wave_write.proofs.Laws.{Levels}
use Rattle.wave_write.proofs.level_lines.Given as goal

abbrev pub invariant-loop-k : goal.invariant-loop-k
invariant-loop-k l = Levels l.initial.out l.from l.old l.new l.out l.i l.o l.n l.k
