-- `vcd::is_taken` meets its contract.
-- Assumes nothing.
use Rattle.std.proofs.Common.{rules, tests, ◌∙◌, take, eqb}
use Rattle.std.proofs.lemmas.Iterator.{YieldsList-from_slice}
use Rattle.std.proofs.lemmas.Iterator.Search.{any_from_yields_List}
use Rattle.vcd.proofs.Declaring.{taken_any}
use Rattle.vcd.proofs.is_taken.Goals as goal

pub returns : goal.returns
returns c =
    λ text places.
    any_from_yields_List (λ p. eqb p c.args.pin) _ _ c.any.result c.any.ensures.ran (YieldsList-from_slice (take c.args.entries c.args.pins.now) (search rules)) (λ x b q k. search (rules, tests))
    ∙ taken_any text places c.args.pins.now c.args.pin c.args.entries c.requires
