-- A line of a listing, byte by byte: a word and its expected answer, eight hex digits each, with white space between; before them a
-- count, one to five decimal digits that are not all 0, and `*`, if the word is given more than once; after them white space and a
-- comment. A line of nothing but white space and one whose first other byte is `#` are passed over. White space is blanks, tabs and
-- the carriage returns of lines that end in CR LF.
use Rattle.std.specs.Prelude.{ℕ, ◌+◌, ◌-◌, ◌*◌, ◌%◌, eqb, ltb}
use Rattle.bits.specs.Byte.{pick}
use Rattle.listing_lines.specs.declared.Symbol.{Symbol}
use Rattle.listing_lines.specs.declared.Symbol.TheVariants.{Newline, Blank, Star, Hash, Digit, Other}
use Rattle.listing_lines.specs.declared.Place.{Place}
use Rattle.listing_lines.specs.declared.Place.TheVariants.{Start, Remark, First, Repeated, Word, Gap, Answer, Rest}
use Rattle.listing_lines.specs.declared.Reader.{Reader}
use Rattle.listing_lines.specs.declared.Found.{Found}
use Rattle.listing_lines.specs.declared.Found.TheVariants.{Within, Refused, Entry}

-- ---- bytes

-- a hex digit of either case
unfoldable pub digit_of : ℕ → Symbol
digit_of b =
    pick (ltb b 48) Other
    (pick (ltb b 58) (Digit (b - 48))
    (pick (ltb b 65) Other
    (pick (ltb b 71) (Digit (b - 55))
    (pick (ltb b 97) Other
    (pick (ltb b 103) (Digit (b - 87)) Other)))))

unfoldable pub symbol_of : ℕ → Symbol
symbol_of b =
    pick (eqb b 10) Newline
    (pick (eqb b 9) Blank (pick (eqb b 13) Blank (pick (eqb b 32) Blank (pick (eqb b 42) Star (pick (eqb b 35) Hash (digit_of b))))))

-- ---- fields

-- the reader at a place, with no digit of a field read
abbrev pub reader_at : Place → ℕ → ℕ → Reader
reader_at place times word = record { place = place; digits = 0; value = 0; count = 0; times = times; word = word }

-- the first field of a line is to come; a word is given once if nothing else is said
abbrev pub line_start : Reader
line_start = reader_at Start 1 0

-- a decimal digit more of a count; 100,000 stands for no count
unfoldable pub counted : ℕ → ℕ → ℕ
counted n d = pick (ltb d 10) (pick (ltb n 10000) (n * 10 + d) 100000) 100000

-- the first digit of a field
abbrev pub begun : Place → ℕ → ℕ → ℕ → Reader
begun place times word d = record { place = place; digits = 1; value = d; count = counted 0 d; times = times; word = word }

-- a digit more of a field, which has eight at most
unfoldable pub grown : Reader → ℕ → Found
grown r d =
    pick (ltb r.digits 8)
    (Within (record {
      place = r.place;
      digits = r.digits + 1;
      value = r.value % 268435456 * 16 + d % 16;
      count = counted r.count d;
      times = r.times;
      word = r.word;
    }))
    Refused

-- the end of a count: one to five decimal digits, and not 0, which would give the word to no chip
unfoldable pub count_end : Reader → Found
count_end r =
    pick (eqb r.count 0) Refused
    (pick (ltb r.digits 6) (pick (ltb r.count 100000) (Within (reader_at Repeated r.count 0)) Refused) Refused)

-- the end of a word: eight digits
unfoldable pub word_end : Reader → Found
word_end r = pick (eqb r.digits 8) (Within (reader_at Gap r.times r.value)) Refused

-- the end of an answer: eight digits, before a comment or at the end of the line
abbrev pub commented : Reader → Reader
commented r = record { place = Rest; digits = r.digits; value = r.value; count = r.count; times = r.times; word = r.word }

unfoldable pub answer_end : Reader → Found
answer_end r = pick (eqb r.digits 8) (Within (commented r)) Refused

unfoldable pub entry_end : Reader → Found
entry_end r = pick (eqb r.digits 8) (Entry r.times r.word r.value) Refused

-- ---- a byte at each place of a line

abbrev pub at_start : Symbol → Found
at_start Newline = Within line_start
at_start Blank = Within line_start
at_start Star = Refused
at_start Hash = Within (reader_at Remark 1 0)
at_start (Digit d) = Within (begun First 1 0 d)
at_start Other = Refused

abbrev pub at_remark : Symbol → Found
at_remark Newline = Within line_start
at_remark Blank = Within (reader_at Remark 1 0)
at_remark Star = Within (reader_at Remark 1 0)
at_remark Hash = Within (reader_at Remark 1 0)
at_remark (Digit d) = Within (reader_at Remark 1 0)
at_remark Other = Within (reader_at Remark 1 0)

-- the first field is a word, or a count if `*` ends it
abbrev pub at_first : Reader → Symbol → Found
at_first r Newline = Refused
at_first r Blank = word_end r
at_first r Star = count_end r
at_first r Hash = Refused
at_first r (Digit d) = grown r d
at_first r Other = Refused

abbrev pub at_repeated : Reader → Symbol → Found
at_repeated r Newline = Refused
at_repeated r Blank = Within (reader_at Repeated r.times 0)
at_repeated r Star = Refused
at_repeated r Hash = Refused
at_repeated r (Digit d) = Within (begun Word r.times 0 d)
at_repeated r Other = Refused

abbrev pub at_word : Reader → Symbol → Found
at_word r Newline = Refused
at_word r Blank = word_end r
at_word r Star = Refused
at_word r Hash = Refused
at_word r (Digit d) = grown r d
at_word r Other = Refused

abbrev pub at_gap : Reader → Symbol → Found
at_gap r Newline = Refused
at_gap r Blank = Within (reader_at Gap r.times r.word)
at_gap r Star = Refused
at_gap r Hash = Refused
at_gap r (Digit d) = Within (begun Answer r.times r.word d)
at_gap r Other = Refused

abbrev pub at_answer : Reader → Symbol → Found
at_answer r Newline = entry_end r
at_answer r Blank = answer_end r
at_answer r Star = Refused
at_answer r Hash = Refused
at_answer r (Digit d) = grown r d
at_answer r Other = Refused

abbrev pub at_rest : Reader → Symbol → Found
at_rest r Newline = Entry r.times r.word r.value
at_rest r Blank = Within (commented r)
at_rest r Star = Within (commented r)
at_rest r Hash = Within (commented r)
at_rest r (Digit d) = Within (commented r)
at_rest r Other = Within (commented r)

abbrev pub next_at : Place → Reader → Symbol → Found
next_at Start r s = at_start s
next_at Remark r s = at_remark s
next_at First r s = at_first r s
next_at Repeated r s = at_repeated r s
next_at Word r s = at_word r s
next_at Gap r s = at_gap r s
next_at Answer r s = at_answer r s
next_at Rest r s = at_rest r s

-- a byte of a line
abbrev pub next : Reader → ℕ → Found
next r b = next_at r.place r (symbol_of b)
