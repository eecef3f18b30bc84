-- The words of a listing: a line is an event, behind `N *` where it is given N times; what stands behind `=>`, or behind an event in eight
-- digits as eight digits more, is its answer and is not looked at here. A line without a token is passed over.
use Rattle.std.specs.Prelude.{Option, Some, None, Result, Ok, Err, ℕ, Bool, true, false, ◌||◌, eqb, ltb}
use Rattle.bits.specs.Byte.{pick}
use Rattle.event_names.specs.Digits.{unhex}
use Rattle.line_tokens.specs.declared.Token.{Token}
use Rattle.line_tokens.specs.declared.BadToken.{BadToken}
use Rattle.event_text_read.specs.declared.Event.{Event}
use Rattle.event_text_read.specs.declared.Event.TheVariants.{Start, Kind, Place, Other, Word, Bad, Number, Numbered}
use Rattle.event_text_read.specs.Event.{take, line_end}
use Rattle.case_words.specs.declared.Case.{Case}
use Rattle.case_words.specs.declared.Listed.{Listed}

-- before the first token of a line
unfoldable pub case_start : Case
case_start = record { fresh = true; count = None; times = None; event = Start; answer = false }

-- a number that may be a count: not 0, which would give the word to no chip
unfoldable pub count_of : Option ℕ → Option ℕ
count_of None = None
count_of (Some n) = pick (eqb n 0) None (Some n)

-- behind the first token: what it is as an event and, should `*` follow, as a count
unfoldable pub first : Event → Token → Case
first e t = record { fresh = false; count = count_of t.count; times = None; event = take e t; answer = false }

-- behind a count
unfoldable pub counted : ℕ → Case
counted n = record { fresh = false; count = None; times = Some n; event = Start; answer = false }

-- behind a token more of the event
unfoldable pub more : Case → Token → Case
more c t = record { fresh = false; count = None; times = c.times; event = take c.event t; answer = false }

-- behind the sign that begins the answer; it is not looked at
unfoldable pub answered : Case → Case
answered c = record { fresh = false; count = None; times = c.times; event = c.event; answer = true }

-- `=>`, or eight digits
unfoldable pub is_answer : ℕ → Bool
is_answer v = eqb v 0x3D3E || ltb (unhex 8 v) 4294967296

-- behind a whole word an answer may begin
unfoldable pub after_word : Case → Token → Case
after_word c t = pick (is_answer t.value) (answered c) (more c t)

unfoldable pub following : Event → Case → Token → Case
following Start c t = more c t
following (Kind k) c t = more c t
following (Place k a) c t = more c t
following Other c t = more c t
following (Word w) c t = after_word c t
following (Bad place) c t = more c t
following (Number n) c t = more c t
following (Numbered n a) c t = more c t

-- behind a number and `*`, or a `*` that is bad
unfoldable pub starred : Option ℕ → Case → Token → Case
starred None c t = more c t
starred (Some n) c t = counted n

-- a token behind the first
unfoldable pub later : Case → Token → Case
later c t = pick (eqb t.value 42) (starred c.count c t) (following c.event c t)

-- a token of a line
unfoldable pub take_case : Case → Token → Case
take_case c t = pick c.answer c (pick c.fresh (first c.event t) (later c t))

-- the token that a byte ended, if any; number 0, which no line leads to, is taken like another
unfoldable pub taken : Case → Option Token → Case
taken c None = c
taken c (Some t) = take_case c t

-- a word without a count is given once
unfoldable pub times_of : Option ℕ → ℕ
times_of None = 1
times_of (Some n) = n

-- the end of a line, which has so many bytes: a word with how often it is given, or the place of a bad or missing token
unfoldable pub listed : Option ℕ → Result ℕ BadToken → Result (Option Listed) BadToken
listed times (Ok w) = Ok (Some (record { times = times_of times; word = w }))
listed times (Err bad) = Err bad

unfoldable pub word_end : Event → Option ℕ → ℕ → Result (Option Listed) BadToken
word_end e times end = listed times (line_end e end)

unfoldable pub case_end : Case → ℕ → Result (Option Listed) BadToken
case_end c end = pick c.fresh (Ok None) (word_end c.event c.times end)
