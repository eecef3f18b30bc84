-- A dump as a trace, and what a call makes of it (Wish 10).
use Rattle.std.specs.Prelude.{ℕ, false, List, drop, ltb}
use Rattle.bits.specs.Byte.{pick}
use Rattle.vcd_text.specs.Token.{Token, tokens}
use Rattle.vcd_codes.specs.Codes.{find}
use Rattle.vcd_body.specs.declared.Cursor.{Cursor}
use Rattle.vcd_body.specs.Trace.{Trace, stopped, body}
use Rattle.vcd_body.specs.Pieces.{Answer, answer, closed, fresh_state, pieces}
use Rattle.vcd.specs.Header.{Heading, header_of}

-- ---- the trace that a file is

-- the tokens of the body
abbrev pub body_tokens : List ℕ → ℕ → List Token
body_tokens text at = tokens false at (drop at text)

unfoldable pub trace_by : List ℕ → Heading → Trace
trace_by text g =
    pick (ltb 0 g.head.close.number) (stopped g.head.close.number g.head.close.place)
    (body (find g.variables) g.head.unit.unit fresh_state (body_tokens text g.head.close.place))

unfoldable pub trace_of : List ℕ → Trace
trace_of text = trace_by text (header_of text)

-- ---- a call that goes on from a cursor

-- not before the body
abbrev pub goes_on_at : Heading → Cursor → ℕ
goes_on_at g from = pick (ltb from.at g.head.close.place) g.head.close.place from.at

unfoldable pub call_by : List ℕ → Heading → Cursor → List ℕ → Answer
call_by text g from room =
    pick (ltb 0 g.head.close.number) (answer room (closed 0 g.head.close.number g.head.close.place))
    (pieces (find g.variables) g.head.unit.unit from.state from.done 0 room (body_tokens text (goes_on_at g from)))

unfoldable pub call_of : List ℕ → Cursor → List ℕ → Answer
call_of text from room = call_by text (header_of text) from room
