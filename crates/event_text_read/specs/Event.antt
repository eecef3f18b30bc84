-- A line of text as an event word (document 01, "Event words"): the name of a kind, then its fields A and B; `word` and eight digits for
-- a word that is no such line; or eight digits alone, for every word. A line is read token by token; the first one that no line can go
-- on with is bad.
use Rattle.std.specs.Prelude.{Option, Some, None, Result, Ok, Err, ℕ, ◌+◌, ◌*◌, Bool, true, false, not, ◌&&◌, List, [], ◌∷◌, eqb, ltb, length}
use Rattle.std.specs.Option.{is_some}
use Rattle.bits.specs.Byte.{pick}
use Rattle.events.specs.Word.{kind, reserved, field_b, event_word}
use Rattle.event_names.specs.declared.Kind.{Kind}
use Rattle.event_names.specs.declared.Kind.TheVariants as kinds
use Rattle.event_names.specs.declared.Keyword.{Keyword}
use Rattle.event_names.specs.declared.Keyword.TheVariants as keyword
use Rattle.event_names.specs.Names.{number_of, kind_with, kind_of, field_of}
use Rattle.event_names.specs.Digits.{below, unhex}
use Rattle.line_tokens.specs.declared.Token.{Token}
use Rattle.line_tokens.specs.declared.BadToken.{BadToken}
use Rattle.line_tokens.specs.Scan.{bad_at, tokens}
use Rattle.event_text_read.specs.declared.Event.{Event}
use Rattle.event_text_read.specs.declared.Event.TheVariants.{Start, Kind as OfKind, Place, Other, Word, Bad, Number, Numbered}

-- ---- the fields that a kind takes

-- writes, pins and polarities have a B; it is 0 in reads and clocks
abbrev pub takes_b : Kind → Bool
takes_b kinds.Read = false
takes_b kinds.Write = true
takes_b kinds.Pin = true
takes_b kinds.Clock = false
takes_b kinds.Polarity = true

-- a write has two digits of it, the others have one, 0 or 1
abbrev pub digits_b : Kind → ℕ
digits_b kinds.Read = 1
digits_b kinds.Write = 2
digits_b kinds.Pin = 1
digits_b kinds.Clock = 1
digits_b kinds.Polarity = 1

abbrev pub limit_b : Kind → ℕ
limit_b kinds.Read = 2
limit_b kinds.Write = 256
limit_b kinds.Pin = 2
limit_b kinds.Clock = 2
limit_b kinds.Polarity = 2

-- the words that are lines of their kind: kinds 1 to 5, zero in bits 23..16, and a B that the kind takes
abbrev pub bound_b : Kind → ℕ
bound_b k = pick (takes_b k) (limit_b k) 1

abbrev pub kind_if : Option Kind → ℕ → Option Kind
kind_if None word = None
kind_if (Some k) word = pick (eqb (reserved word) 0 && ltb (field_b word) (bound_b k)) (Some k) None

-- the kind of which the word has a line
unfoldable pub line_kind : ℕ → Option Kind
line_kind word = kind_if (kind_with (kind word)) word

abbrev pub is_line : ℕ → Bool
is_line word = is_some (line_kind word)

-- ---- a token at each point of a line; `at` is its place

-- a whole word, if the token is one
unfoldable pub word_or : ℕ → Option ℕ → Event
word_or at None = Bad at
word_or at (Some n) = Word n

-- eight digits alone
unfoldable pub bare : ℕ → ℕ → Event
bare at v = word_or at (below 4294967296 (unhex 8 v))

unfoldable pub on_keyword : ℕ → ℕ → Option Keyword → Event
on_keyword at v None = bare at v
on_keyword at v (Some (keyword.Event k)) = OfKind k
on_keyword at v (Some keyword.Word) = Other

unfoldable pub at_start : ℕ → ℕ → Event
at_start at v = on_keyword at v (kind_of v)

-- after the kind: the field A
unfoldable pub on_field : ℕ → Kind → Option ℕ → Event
on_field at k None = Bad at
on_field at k (Some a) = pick (takes_b k) (Place k a) (Word (event_word (number_of k) a 0))

unfoldable pub at_kind : ℕ → Kind → ℕ → Event
at_kind at k v = on_field at k (below 256 (field_of k v))

-- after A: the field B
unfoldable pub at_place : ℕ → Kind → ℕ → ℕ → Event
at_place at k a v =
    pick (ltb (unhex (digits_b k) v) (limit_b k)) (Word (event_word (number_of k) a (unhex (digits_b k) v))) (Bad at)

-- after `word`: eight digits of a word that has no line of its kind
unfoldable pub other_or : ℕ → Option ℕ → Event
other_or at None = Bad at
other_or at (Some n) = pick (is_line n) (Bad at) (Word n)

unfoldable pub at_other : ℕ → ℕ → Event
at_other at v = other_or at (below 4294967296 (unhex 8 v))

-- after a number that is no kind's, which no line leads to: the field A, as in a read or a write
unfoldable pub on_register : ℕ → ℕ → Option ℕ → Event
on_register at n None = Bad at
on_register at n (Some a) = Numbered n a

unfoldable pub at_number : ℕ → ℕ → ℕ → Event
at_number at n v = on_register at n (below 256 (field_of kinds.Read v))

-- after its A: the field B, one digit, 0 or 1
unfoldable pub at_numbered : ℕ → ℕ → ℕ → ℕ → Event
at_numbered at n a v = pick (ltb (unhex 1 v) 2) (Word (event_word n a (unhex 1 v))) (Bad at)

unfoldable pub next : ℕ → Event → ℕ → Event
next at Start v = at_start at v
next at (OfKind k) v = at_kind at k v
next at (Place k a) v = at_place at k a v
next at Other v = at_other at v
next at (Word w) v = Bad at
next at (Bad place) v = Bad place
next at (Number n) v = at_number at n v
next at (Numbered n a) v = at_numbered at n a v

abbrev pub take : Event → Token → Event
take e t = next t.at e t.value

-- the token that a byte ended, if any; number 0 is none
unfoldable pub taken : Event → Option Token → Event
taken e None = e
taken e (Some t) = pick (eqb t.value 0) e (take e t)

-- ---- a line

unfoldable pub take_all : Event → List Token → Event
take_all e [] = e
take_all e (t ∷ rest) = take_all (take e t) rest

-- a line that ends where a token is missing is refused at its end
unfoldable pub line_end : Event → ℕ → Result ℕ BadToken
line_end Start end = Err (bad_at end)
line_end (OfKind k) end = Err (bad_at end)
line_end (Place k a) end = Err (bad_at end)
line_end Other end = Err (bad_at end)
line_end (Word w) end = Ok w
line_end (Bad place) end = Err (bad_at place)
line_end (Number n) end = Err (bad_at end)
line_end (Numbered n a) end = Err (bad_at end)

-- the word of a line, or the place of its first bad token
unfoldable pub parse : List ℕ → Result ℕ BadToken
parse line = line_end (take_all Start (tokens line)) (length line)
