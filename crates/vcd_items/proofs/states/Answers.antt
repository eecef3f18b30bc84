-- `vcd_items::states` meets its contract.
-- Assumes nothing.
use Rattle.std.proofs.Common.{rules, tests, ◌∙◌}
use Rattle.std.proofs.lemmas.Iterator.{YieldsList-from_slice}
use Rattle.std.proofs.lemmas.Iterator.Search.{all_from_yields_List}
use Rattle.vcd_items.specs.Items.{four_state}
use Rattle.vcd_items.proofs.Values.{states_list}
use Rattle.vcd_items.proofs.states.Goals as goal

pub returns : goal.returns
returns c =
    all_from_yields_List four_state _ _ c.all.result c.all.ensures.ran (YieldsList-from_slice c.args.t.now (cc)) (λ x b q k. search (rules, tests))
    ∙ states_list _
