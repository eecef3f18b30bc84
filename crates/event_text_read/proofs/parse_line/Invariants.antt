-- What the loop of `event_text_read::parse_line` keeps.
use mathlib.Core.Path.{◌≡◌}
use lib.ListN.{drop}
use Rattle.line_tokens.specs.Scan.{tokens, tokens_from}
use Rattle.event_text_read.specs.declared.Event.TheVariants.{Start}
use Rattle.event_text_read.specs.Event.{take_all}
use Rattle.event_text_read.proofs.parse_line.Given as goal

abbrev pub invariant-loop-b : goal.invariant-loop-b
invariant-loop-b l = take_all l.e (tokens_from l.s (drop l.b-index l.line)) ≡ take_all Start (tokens l.line)
