-- `event_text_read::parse_line` meets its contract: what is left of the line, from here, comes to what the whole comes to.
use mathlib.Core.Path.{ap, ◌∙◌}
use Rattle.std.proofs.Common.{Result, ℕ, length, arith}
use Rattle.line_tokens.specs.declared.BadToken.{BadToken}
use Rattle.event_text_read.specs.declared.Event.{Event}
use Rattle.event_text_read.specs.Event.{line_end, parse}
use Rattle.event_text_read.proofs.Reading.{read_next, read_end}
use Rattle.event_text_read.proofs.parse_line.Goals as goal

pub loop-b-preserved : goal.loop-b-preserved
loop-b-preserved c =
    rw (c.taken-e.ensures, c.scan-s.ensures) (read_next c.loop-b.e c.loop-b.s c.args.line.now c.loop-b.b-index (omega arith))
    ∙ c.loop-b.invariant

pub returns : goal.returns
unfolding parse
returns c =
    let line = c.args.line.now in
    c.line_end.ensures
    ∙ ap (λ (e : Event). line_end e (length line)) (c.taken.ensures ∙ read_end c.loop-b.e c.loop-b.s line c.loop-b.b-index (omega arith) ∙ c.loop-b.invariant)
