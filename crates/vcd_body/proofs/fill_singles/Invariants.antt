-- What the loop of `vcd_body::fill_singles` keeps.
use Rattle.vcd_body.specs.Tables.{Singles}
use Rattle.vcd_body.proofs.fill_singles.Given as goal

abbrev pub invariant-loop-b : goal.invariant-loop-b
invariant-loop-b l = Singles l.text l.places l.pins l.entries l.singles l.b
