-- What the loop of `case_run::read` keeps: what is left of the text, from here, comes to what the whole comes to.
use mathlib.Core.Path.{◌≡◌}
use lib.ListN.{drop}
use Rattle.case_run.specs.Run.{read}
use Rattle.case_run.proofs.read.Given as goal

abbrev pub invariant-loop-b : goal.invariant-loop-b
invariant-loop-b l = read l.p (drop l.b-index l.text) ≡ read l.initial.p l.text
