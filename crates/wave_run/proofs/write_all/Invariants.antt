-- What the loop of `wave_run::write_all` keeps.
use Rattle.wave_run.proofs.Blocks.{run_at, Done}
use Rattle.wave_run.proofs.write_all.Given as goal

abbrev pub invariant-loop-word : goal.invariant-loop-word
invariant-loop-word l = Done l.words l.initial.out (run_at l.initial.registers l.initial.core l.initial.writer) l.out (run_at l.registers l.core l.writer) l.at l.word-index
