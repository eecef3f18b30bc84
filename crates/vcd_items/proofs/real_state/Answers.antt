-- `vcd_items::real_state` meets its contract.
-- Assumes nothing.
use Rattle.std.proofs.Common.{rules, tests, ◌∙◌}
use Rattle.std.proofs.lemmas.Iterator.{YieldsList-from_slice}
use Rattle.std.proofs.lemmas.Iterator.Consumers.{fold_from_yields_List}
use Rattle.vcd_items.specs.Items.{real_class, real_next}
use Rattle.vcd_items.proofs.Values.{real_fold}
use Rattle.vcd_items.proofs.real_state.Goals as goal

pub returns : goal.returns
returns c =
    fold_from_yields_List _ (λ p b. real_next p (real_class b)) 0 c.fold.result c.fold.ensures.ran (YieldsList-from_slice c.args.t.now (cc)) (λ a x b q k. search (rules, tests))
    ∙ real_fold 0 _
