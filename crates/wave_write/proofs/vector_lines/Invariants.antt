-- What the loop of `wave_write::vector_lines` keeps.
use Rattle.wave_write.proofs.Laws.{Vectors}
use Rattle.wave_write.proofs.vector_lines.Given as goal

abbrev pub invariant-loop-k : goal.invariant-loop-k
invariant-loop-k l = Vectors l.initial.out l.from l.old l.new l.out l.i l.o l.n l.k
