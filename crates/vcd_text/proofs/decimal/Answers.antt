-- `vcd_text::decimal` meets its contract.
-- Assumes nothing.
use Rattle.std.proofs.Common.{rules, tests, ◌∙◌, Ok}
use Rattle.std.proofs.lemmas.Iterator.{YieldsList-from_slice}
use Rattle.std.proofs.lemmas.Iterator.Consumers.{fold_from_yields_List}
use Rattle.vcd_text.specs.Token.{longer_by, Number}
use Rattle.vcd_text.proofs.Laws.{digits_fold, decimal_none, decimal_some}
use Rattle.vcd_text.proofs.decimal.Goals as goal

pub returns-then-is_empty : goal.returns-then-is_empty
returns-then-is_empty c = decimal_none _ (search rules)

pub returns : goal.returns
returns c =
    let zero : Number = Ok 0 in
    fold_from_yields_List _ longer_by zero c.fold.result c.fold.ensures.ran (YieldsList-from_slice c.args.t.now (cc)) (λ a x b q k. search (rules, tests))
    ∙ digits_fold zero c.args.t.now
    ∙ decimal_some c.args.t.now (search rules)
