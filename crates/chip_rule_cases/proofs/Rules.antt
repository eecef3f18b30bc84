-- The rules hold, computed from the definitions.
use mathlib.Core.Path.{◌≡◌, refl}
use mathlib.Core.List.{[]}
use Rattle.chip_cases.proofs.Opened.{opened}
use Rattle.chip_rule_cases.specs.Rules.{table, failing, counting}

-- To find the row that a wrong rule fails: `failing k (take 1 (drop k table)) ≡ []` for each k.
pub no_rule_fails : failing 0 table ≡ []
unfolding opened table counting
no_rule_fails = refl
