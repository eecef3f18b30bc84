-- `vcd_text::skip_white` meets its contract: the chain takes as many bytes as the definition counts.
-- Assumes nothing.
use Rattle.std.proofs.Common.{rules, tests, ◌≡◌, ◌+◌, ◌∙◌, ap}
use Rattle.std.proofs.lemmas.Iterator.{YieldsList-from_slice}
use Rattle.std.proofs.lemmas.Iterator.Search.{YieldsList-from_take_while}
use Rattle.std.proofs.lemmas.Iterator.Consumers.{count_from_yields_List}
use Rattle.std.proofs.lemmas.List.Folds.{length-prefix_len}
use Rattle.vcd_text.specs.Token.{white, white_length}
use Rattle.vcd_text.proofs.Laws.{white_run}
use Rattle.vcd_text.proofs.skip_white.Goals as goal

pub returns : goal.returns
returns c =
    let rest = c.rest_from.result.now in
    let n : c.count.result ≡ white_length rest =
    count_from_yields_List c.take_while.result c.count.result c.count.ensures.ran
    (YieldsList-from_take_while _ white (YieldsList-from_slice rest (search rules)) c.take_while.ensures.closure c.take_while.ensures.done (λ x b q k. search (rules, tests)))
    ∙ length-prefix_len white rest
    ∙ white_run rest in
    ap (λ k. c.args.from + k) (n ∙ ap white_length c.rest_from.ensures)
