-- P1 to P12: one statement over one table.
use Rattle.chip_cases.specs.Cases.{Each, table}
use Rattle.chip_cases.proofs.Worked as cases

pub worked : Each table
worked = cases.worked
