-- A line of a case, byte by byte: an event, behind `N *` where it is given N times, and the answer that it must get. The answer stands behind
-- `=>`, in names or as eight digits; or right behind the event as eight digits, and what follows these is a comment. An event without an
-- answer is given, and its answer is not looked at. A line without a token is passed over.
use Rattle.std.specs.Prelude.{Option, Some, None, Result, Ok, Err, ℕ, Bool, true, false, eqb}
use Rattle.bits.specs.Byte.{pick}
use Rattle.events.specs.Word.{kind}
use Rattle.line_tokens.specs.declared.Token.{Token}
use Rattle.line_tokens.specs.declared.BadToken.{BadToken}
use Rattle.line_tokens.specs.declared.Scanner.{Scanner}
use Rattle.line_tokens.specs.Scan.{start, scan}
use Rattle.event_text_read.specs.declared.Event.{Event}
use Rattle.event_text_read.specs.declared.Event.TheVariants as event
use Rattle.answer_text.specs.declared.Answer.{Answer}
use Rattle.answer_text.specs.declared.Answer.TheVariants as answer
use Rattle.answer_text.specs.Answer.{take, ended}
use Rattle.case_words.specs.declared.Case.{Case}
use Rattle.case_words.specs.declared.Listed.{Listed}
use Rattle.case_words.specs.Case.{case_start, take_case, case_end}
use Rattle.case_lines.specs.declared.Tokens.{Tokens}
use Rattle.case_lines.specs.declared.Reader.{Reader}
use Rattle.case_lines.specs.declared.Given.{Given}

-- ---- tokens

-- the event side of a line with no token of its answer
unfoldable pub unanswered : Case → Tokens
unanswered c = record { case = c; answer = answer.Start; remark = false }

-- the word is a read, so that its answer has a byte
unfoldable pub is_read : ℕ → Bool
is_read word = eqb (kind word) 1

-- the event is a whole word, and a read
unfoldable pub asked : Event → Bool
asked event.Start = false
asked (event.Kind k) = false
asked (event.Place k a) = false
asked event.Other = false
asked (event.Word w) = is_read w
asked (event.Bad place) = false
asked (event.Number n) = false
asked (event.Numbered n a) = false

-- the sign `=>`, or an answer in eight digits alone, behind which a comment stands
unfoldable pub begun : Case → Token → Tokens
begun c t =
    pick (eqb t.value 0x3D3E) (unanswered c) (record { case = c; answer = take false answer.Start t; remark = true })

-- a token before the answer
unfoldable pub event_token : Case → Token → Tokens
event_token c t = pick c.answer (begun c t) (unanswered c)

-- a token of the answer, or of the comment behind it
unfoldable pub answer_token : Tokens → Token → Tokens
answer_token l t =
    pick l.remark l (record { case = l.case; answer = take (asked l.case.event) l.answer t; remark = false })

unfoldable pub take_token : Tokens → Token → Tokens
take_token l t = pick l.case.answer (answer_token l t) (event_token (take_case l.case t) t)

-- the token that a byte ended, if any; number 0 is none
unfoldable pub taken : Tokens → Option Token → Tokens
taken l None = l
taken l (Some t) = pick (eqb t.value 0) l (take_token l t)

-- ---- bytes

unfoldable pub line_start : Reader
line_start = record { scanner = start; tokens = unanswered case_start }

-- a byte of the line
unfoldable pub next : Reader → ℕ → Reader
next r b = record { scanner = scan r.scanner b; tokens = taken r.tokens (scan r.scanner b).done }

-- ---- the end of the line

-- what a line says
abbrev pub Entry : Type 0
Entry = Result (Option Given) BadToken

abbrev pub given : Listed → Option ℕ → Given
given listed expected = record { times = listed.times; word = listed.word; expected = expected }

unfoldable pub answer_end : Listed → Result ℕ BadToken → Entry
answer_end listed (Ok expected) = Ok (Some (given listed (Some expected)))
answer_end listed (Err bad) = Err bad

unfoldable pub word_end : Tokens → Listed → ℕ → Entry
word_end l listed end = pick l.case.answer (answer_end listed (ended l.answer end)) (Ok (Some (given listed None)))

unfoldable pub found_end : Tokens → Result (Option Listed) BadToken → ℕ → Entry
found_end l (Ok None) end = Ok None
found_end l (Ok (Some listed)) end = word_end l listed end
found_end l (Err bad) end = Err bad

-- the tokens of a line of so many bytes
unfoldable pub tokens_end : Tokens → ℕ → Entry
tokens_end l end = found_end l (case_end l.case end) end

unfoldable pub line_end : Reader → Entry
line_end r = tokens_end (taken r.tokens r.scanner.pending) r.scanner.at
