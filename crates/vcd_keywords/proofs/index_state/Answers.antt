-- `vcd_keywords::index_state` meets its contract.
-- Assumes nothing.
use Rattle.std.proofs.Common.{rules, tests, ◌∙◌}
use Rattle.std.proofs.lemmas.Iterator.{YieldsList-from_slice}
use Rattle.std.proofs.lemmas.Iterator.Consumers.{fold_from_yields_List}
use Rattle.vcd_keywords.specs.Words.{index_class, index_next}
use Rattle.vcd_keywords.proofs.Index.{index_fold}
use Rattle.vcd_keywords.proofs.index_state.Goals as goal

pub returns : goal.returns
returns c =
    fold_from_yields_List _ (λ q b. index_next q (index_class b)) c.args.from c.fold.result c.fold.ensures.ran (YieldsList-from_slice c.args.t.now (cc)) (λ a x b q k. search (rules, tests))
    ∙ index_fold c.args.from _
