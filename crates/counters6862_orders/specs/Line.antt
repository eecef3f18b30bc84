-- A line of a script, byte by byte: a word of lower-case letters, and up to two decimal numbers with a blank or more before each. An empty
-- line and one that begins with `#` are passed over.
use Rattle.std.specs.Prelude.{ℕ, ◌+◌, ◌-◌, ◌*◌, ◌%◌, eqb, ltb, Option, Some, None}
use Rattle.bits.specs.Byte.{pick}
use Rattle.counters6862_orders.specs.declared.Symbol.{Symbol}
use Rattle.counters6862_orders.specs.declared.Symbol.TheVariants.{Newline, Blank, Hash, Digit, Letter, Other}
use Rattle.counters6862_orders.specs.declared.Place.{Place}
use Rattle.counters6862_orders.specs.declared.Place.TheVariants.{Start, Remark, Word, Gap, Number}
use Rattle.counters6862_orders.specs.declared.Reader.{Reader}
use Rattle.counters6862_orders.specs.declared.Found.{Found}
use Rattle.counters6862_orders.specs.declared.Found.TheVariants.{Within, Ended}

-- ---- bytes

unfoldable pub letter_of : ℕ → Symbol
letter_of b =
    pick (ltb b 48) Other
    (pick (ltb b 58) (Digit (b - 48))
    (pick (ltb b 97) Other
    (pick (ltb b 123) (Letter (b - 96)) Other)))

unfoldable pub symbol_of : ℕ → Symbol
symbol_of b = pick (eqb b 10) Newline (pick (eqb b 32) Blank (pick (eqb b 35) Hash (letter_of b)))

-- ---- words and numbers

-- the reader at a place, with no digit of a number read
abbrev pub reader_at : Place → ℕ → ℕ → ℕ → Reader
reader_at place word count first = record { place = place; word = word; count = count; first = first; value = 0 }

-- the first byte of a line is to come
abbrev pub line_start : Reader
line_start = reader_at Start 0 0 0

-- a letter more of a word, five bits each, which hold 1 to 26; it has six letters at most
unfoldable pub lettered : ℕ → ℕ → Option Found
lettered word l = pick (ltb word 33554432) (Some (Within (reader_at Word (word * 32 + l % 32) 0 0))) None

-- the first digit of a number, of which there are two at most
unfoldable pub begun : Reader → ℕ → Option Found
begun r d =
    pick (ltb r.count 2)
    (Some (Within (record { place = Number; word = r.word; count = r.count + 1; first = r.first; value = d })))
    None

-- a digit, which is below ten, more of a number, which is at most 999,999,999
unfoldable pub grown : Reader → ℕ → Option Found
grown r d =
    pick (ltb r.value 100000000)
    (Some (Within (record { place = Number; word = r.word; count = r.count; first = r.first; value = r.value * 10 + d % 10 })))
    None

-- ---- a byte at each place of a line

abbrev pub at_start : Symbol → Option Found
at_start Newline = Some (Within line_start)
at_start Blank = None
at_start Hash = Some (Within (reader_at Remark 0 0 0))
at_start (Digit d) = None
at_start (Letter l) = lettered 0 l
at_start Other = None

abbrev pub at_remark : Symbol → Option Found
at_remark Newline = Some (Within line_start)
at_remark Blank = Some (Within (reader_at Remark 0 0 0))
at_remark Hash = Some (Within (reader_at Remark 0 0 0))
at_remark (Digit d) = Some (Within (reader_at Remark 0 0 0))
at_remark (Letter l) = Some (Within (reader_at Remark 0 0 0))
at_remark Other = Some (Within (reader_at Remark 0 0 0))

abbrev pub at_word : Reader → Symbol → Option Found
at_word r Newline = Some (Ended (record { word = r.word; count = 0; first = 0; value = 0 }))
at_word r Blank = Some (Within (reader_at Gap r.word 0 0))
at_word r Hash = None
at_word r (Digit d) = None
at_word r (Letter l) = lettered r.word l
at_word r Other = None

abbrev pub at_gap : Reader → Symbol → Option Found
at_gap r Newline = None
at_gap r Blank = Some (Within r)
at_gap r Hash = None
at_gap r (Digit d) = begun r d
at_gap r (Letter l) = None
at_gap r Other = None

abbrev pub at_number : Reader → Symbol → Option Found
at_number r Newline = Some (Ended (record { word = r.word; count = r.count; first = r.first; value = r.value }))
at_number r Blank = Some (Within (reader_at Gap r.word r.count r.value))
at_number r Hash = None
at_number r (Digit d) = grown r d
at_number r (Letter l) = None
at_number r Other = None

abbrev pub next_at : Place → Reader → Symbol → Option Found
next_at Start r s = at_start s
next_at Remark r s = at_remark s
next_at Word r s = at_word r s
next_at Gap r s = at_gap r s
next_at Number r s = at_number r s

-- a byte of a line
abbrev pub next : Reader → ℕ → Option Found
next r b = next_at r.place r (symbol_of b)
