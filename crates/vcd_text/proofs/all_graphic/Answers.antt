-- `vcd_text::all_graphic` meets its contract.
-- Assumes nothing.
use Rattle.std.proofs.Common.{rules, tests, ◌∙◌}
use Rattle.std.proofs.lemmas.Iterator.{YieldsList-from_slice}
use Rattle.std.proofs.lemmas.Iterator.Search.{all_from_yields_List}
use Rattle.std.specs.Char.{is_ascii_graphic}
use Rattle.vcd_text.proofs.Laws.{all_graphic_list}
use Rattle.vcd_text.proofs.all_graphic.Goals as goal

pub returns : goal.returns
returns c =
    all_from_yields_List is_ascii_graphic _ _ c.all.result c.all.ensures.ran (YieldsList-from_slice c.args.t.now (cc)) (λ x b q k. search (rules, tests))
    ∙ all_graphic_list _
