-- What the loop of `vcd_body::fill_lists` keeps.
use Rattle.vcd_body.specs.Tables.{Lists}
use Rattle.vcd_body.proofs.fill_lists.Given as goal

abbrev pub invariant-loop-k : goal.invariant-loop-k
invariant-loop-k l = Lists l.text l.places l.pins l.entries l.lists l.k
