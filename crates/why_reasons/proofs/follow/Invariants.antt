-- What the loop of `why_reasons::follow` keeps.
use Rattle.why_reasons.proofs.Pass.{at, Done}
use Rattle.why_reasons.proofs.follow.Given as goal

abbrev pub invariant-loop-word : goal.invariant-loop-word
invariant-loop-word l = Done l.words (at l.initial.registers l.initial.core l.initial.place l.initial.last) (at l.registers l.core l.place l.last) l.word-index
