-- A line of a list of events, byte by byte: the number of an instruction in decimal, at most 4294967295, and a word of eight hex digits.
-- Space, tab and CR stand between them and may stand around them; `#` begins a comment; a line with nothing else means nothing.
use Rattle.std.specs.Prelude.{ℕ, ◌+◌, ◌-◌, ◌*◌, ◌%◌, Bool, true, false, List, [], ◌∷◌, Option, None, Some, Result, Ok, Err, eqb, ltb}
use Rattle.bits.specs.Byte.{pick}
use Rattle.firmware_event_lines.specs.declared.Symbol.{Symbol}
use Rattle.firmware_event_lines.specs.declared.Symbol.TheVariants.{Blank, Digit, Letter, Other}
use Rattle.firmware_event_lines.specs.declared.Line.{Line}
use Rattle.firmware_event_lines.specs.declared.Line.TheVariants as line
use Rattle.firmware_event_lines.specs.declared.Reader.{Reader}
use Rattle.firmware_event_lines.specs.declared.Event.{Event}
use Rattle.firmware_event_lines.specs.declared.Malformed.{Malformed}

-- ---- bytes

-- `A` to `F` and `a` to `f`
unfoldable pub letter_of : ℕ → Symbol
letter_of b =
    pick (ltb b 65) Other
    (pick (ltb b 71) (Letter (b - 55))
    (pick (ltb b 97) Other
    (pick (ltb b 103) (Letter (b - 87)) Other)))

unfoldable pub symbol_of : ℕ → Symbol
symbol_of b =
    pick (eqb b 32) Blank
    (pick (eqb b 9) Blank
    (pick (eqb b 13) Blank
    (pick (ltb b 48) Other
    (pick (ltb b 58) (Digit (b - 48)) (letter_of b)))))

-- ---- numbers and words

-- a digit more of a number of 32 bits
unfoldable pub number_grown : ℕ → ℕ → Line
number_grown n d = pick (ltb (n * 10 + d) 4294967296) (line.Number (n * 10 + d)) line.Malformed

abbrev pub event_of : ℕ → ℕ → Event
event_of n w = record { number = n; word = w }

-- the first digit of a word, and one more; a digit is below 16
abbrev pub word_begun : ℕ → ℕ → Line
word_begun n d = line.Word n d 1

unfoldable pub word_grown : ℕ → ℕ → ℕ → ℕ → Line
word_grown n w k d = pick (ltb k 8) (line.Word n (w % 268435456 * 16 + d % 16) (k + 1)) line.Malformed

-- it has eight digits
unfoldable pub word_ended : ℕ → ℕ → ℕ → Line
word_ended n w k = pick (eqb k 8) (line.End (event_of n w)) line.Malformed

-- ---- a byte at each place of a line

abbrev pub at_start : Symbol → Line
at_start Blank = line.Start
at_start (Digit d) = line.Number d
at_start (Letter d) = line.Malformed
at_start Other = line.Malformed

abbrev pub at_number : ℕ → Symbol → Line
at_number n Blank = line.Gap n
at_number n (Digit d) = number_grown n d
at_number n (Letter d) = line.Malformed
at_number n Other = line.Malformed

abbrev pub at_gap : ℕ → Symbol → Line
at_gap n Blank = line.Gap n
at_gap n (Digit d) = word_begun n d
at_gap n (Letter d) = word_begun n d
at_gap n Other = line.Malformed

abbrev pub at_word : ℕ → ℕ → ℕ → Symbol → Line
at_word n w k Blank = word_ended n w k
at_word n w k (Digit d) = word_grown n w k d
at_word n w k (Letter d) = word_grown n w k d
at_word n w k Other = line.Malformed

abbrev pub at_end : Event → Symbol → Line
at_end e Blank = line.End e
at_end e (Digit d) = line.Malformed
at_end e (Letter d) = line.Malformed
at_end e Other = line.Malformed

abbrev pub after : Line → Symbol → Line
after line.Start s = at_start s
after (line.Number n) s = at_number n s
after (line.Gap n) s = at_gap n s
after (line.Word n w k) s = at_word n w k s
after (line.End e) s = at_end e s
after line.Malformed s = line.Malformed

-- ---- the line

abbrev pub reader : Line → Bool → Reader
reader l c = record { line = l; comment = c }

abbrev pub line_start : Reader
line_start = reader line.Start false

-- a byte more: past `#` it is passed over
abbrev pub next_with : Bool → Reader → ℕ → Reader
next_with true r b = r
next_with false r b = pick (eqb b 35) (reader r.line true) (reader (after r.line (symbol_of b)) false)

abbrev pub next : Reader → ℕ → Reader
next r b = next_with r.comment r b

-- what the bytes make of the line
unfoldable pub read_on : Reader → List ℕ → Reader
read_on r [] = r
read_on r (b ∷ bs) = read_on (next r b) bs

-- what a line means at its end: nothing, an event, or it is malformed
abbrev pub Meaning : Type 0
Meaning = Result (Option Event) Malformed

abbrev pub nothing : Meaning
nothing = Ok None

abbrev pub event : Event → Meaning
event e = Ok (Some e)

abbrev pub malformed : Meaning
malformed = Err record {}

abbrev pub meaning_of : Line → Meaning
meaning_of line.Start = nothing
meaning_of (line.Number n) = malformed
meaning_of (line.Gap n) = malformed
meaning_of (line.Word n w k) = pick (eqb k 8) (event (event_of n w)) malformed
meaning_of (line.End e) = event e
meaning_of line.Malformed = malformed

-- the meaning of a line's bytes
abbrev pub line_means : List ℕ → Meaning
line_means bs = meaning_of (read_on line_start bs).line
