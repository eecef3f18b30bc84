-- Event words, and the numbers 1 to 3 that refuse a word (document 01, "Event words" and "Numbers given back").
use Rattle.std.specs.Prelude.{ℕ, ◌+◌, ◌*◌, ◌/◌, ◌%◌, ◌<◌, Bool, true, false, not, ◌&&◌, ◌||◌, ◌≡◌, eqb, ltb, Ok, Err}
use Rattle.bits.specs.Byte.{pick, num}
use Rattle.events.specs.Decoded.{Decoded}
use Rattle.events.specs.declared.Event.{Event}
use Rattle.events.specs.declared.Refusal.{Refusal}
use Rattle.events.specs.declared.Event.TheVariants.{Read, Write, Pin, Clock, Polarity}
use Rattle.events.specs.declared.Refusal.TheVariants.{NoEvent, NoPlace, BadByte, Other}

-- "Event words": bits 31..24 of a word
abbrev pub kind : ℕ → ℕ
kind word = word / 16777216

-- "Event words": bits 23..16, which are zero in an event
abbrev pub reserved : ℕ → ℕ
reserved word = word / 65536 % 256

-- "Event words": A, bits 15..8
abbrev pub field_a : ℕ → ℕ
field_a word = word / 256 % 256

-- "Event words": B, bits 7..0
abbrev pub field_b : ℕ → ℕ
field_b word = word % 256

-- "Event words", the table: the event of each kind; a level is B 1, and a polarity with A 1 is the vertical one
unfoldable pub event : ℕ → Event
event word =
    pick (eqb (kind word) 1) (Read (field_a word))
    (pick (eqb (kind word) 2) (Write (field_a word) (field_b word))
    (pick (eqb (kind word) 3) (Pin (field_a word) (eqb (field_b word) 1))
    (pick (eqb (kind word) 4) (Clock (field_a word))
    (Polarity (eqb (field_a word) 1) (eqb (field_b word) 1)))))

-- "Event words", the table: the kind of each case; a refused word has none, told by 0
abbrev pub kind_of : Decoded → ℕ
kind_of (Ok (Read a)) = 1
kind_of (Ok (Write a b)) = 2
kind_of (Ok (Pin a level)) = 3
kind_of (Ok (Clock a)) = 4
kind_of (Ok (Polarity vertical level)) = 5
kind_of (Err r) = 0

-- "Event words", pins: 0 to 14 and 16 to 28
abbrev pub is_pin : ℕ → Bool
is_pin a = ltb a 15 || (ltb 15 a && ltb a 29)

-- "Numbers given back", 1: the kind is none of the five, or a bit of 23..16 is set
unfoldable pub no_event : ℕ → Bool
no_event word = ltb (kind word) 1 || (ltb 5 (kind word) || ltb 0 (reserved word))

-- "Numbers given back", 2: the kind has no register, pin, clock or polarity with this A
unfoldable pub no_place : ℕ → Bool
no_place word =
    pick (eqb (kind word) 1) (ltb 0x25 (field_a word))
    (pick (eqb (kind word) 2) (ltb 0x25 (field_a word))
    (pick (eqb (kind word) 3) (not (is_pin (field_a word)))
    (pick (eqb (kind word) 4) (ltb 3 (field_a word))
    (ltb 1 (field_a word)))))

-- "Numbers given back", 3: the kind does not take this B; a write takes every byte
unfoldable pub bad_byte : ℕ → Bool
bad_byte word =
    pick (eqb (kind word) 1) (ltb 0 (field_b word))
    (pick (eqb (kind word) 2) false
    (pick (eqb (kind word) 3) (ltb 1 (field_b word))
    (pick (eqb (kind word) 4) (ltb 0 (field_b word))
    (ltb 1 (field_b word)))))

-- "Numbers given back": the first number that applies refuses a word, else it is the event of its kind
unfoldable pub decode : ℕ → Decoded
decode word =
    pick (no_event word) (Err NoEvent) (pick (no_place word) (Err NoPlace) (pick (bad_byte word) (Err BadByte) (Ok (event word))))

-- "Numbers given back", 1 to 3: the number of each refusal; a step is also asked about a refusal with another number
abbrev pub refusal_number : Refusal → ℕ
refusal_number NoEvent = 1
refusal_number NoPlace = 2
refusal_number BadByte = 3
refusal_number (Other number) = number

-- "Numbers given back": the number of each case; an event is not refused
abbrev pub number_of : Decoded → ℕ
number_of (Ok (Read a)) = 0
number_of (Ok (Write a b)) = 0
number_of (Ok (Pin a level)) = 0
number_of (Ok (Clock a)) = 0
number_of (Ok (Polarity vertical level)) = 0
number_of (Err r) = refusal_number r

-- a refusal that a word is given
abbrev pub OfWord : Refusal → Type 0
OfWord NoEvent = Unit
OfWord NoPlace = Unit
OfWord BadByte = Unit
OfWord (Other number) = ⊥

-- "Event words" and "Numbers given back": the values of columns A and B, and the three numbers
abbrev pub InRange : Decoded → Type 0
InRange (Ok (Read a)) = a < 38
InRange (Ok (Write a b)) = (a < 38) × (b < 256)
InRange (Ok (Pin a level)) = is_pin a ≡ true
InRange (Ok (Clock a)) = a < 4
InRange (Ok (Polarity vertical level)) = Unit
InRange (Err r) = OfWord r × (0 < refusal_number r) × (refusal_number r < 4)

-- "Event words": the word with these fields and zero in bits 23..16
abbrev pub event_word : ℕ → ℕ → ℕ → ℕ
event_word kind a b = kind * 16777216 + a * 256 + b

-- "Numbers given back": a word that each number refuses: of kind 0, a read of 26H, a read with B 1
abbrev pub word_refused_with : ℕ → ℕ
word_refused_with number = pick (eqb number 2) (event_word 1 0x26 0) (pick (eqb number 3) (event_word 1 0 1) 0)

-- a word of each refusal
abbrev pub refused_word : Refusal → ℕ
refused_word r = word_refused_with (refusal_number r)

-- "Event words", the table: the kind and the values of each case, as its word; for a refusal, a word that it refuses
abbrev pub encode : Decoded → ℕ
encode (Ok (Read a)) = event_word 1 a 0
encode (Ok (Write a b)) = event_word 2 a b
encode (Ok (Pin a level)) = event_word 3 a (num level)
encode (Ok (Clock a)) = event_word 4 a 0
encode (Ok (Polarity vertical level)) = event_word 5 (num vertical) (num level)
encode (Err r) = refused_word r

-- "Numbers given back", 1 to 3 in their order, of a word
abbrev pub refusal : ℕ → ℕ
refusal word = pick (no_event word) 1 (pick (no_place word) 2 (pick (bad_byte word) 3 0))

-- what a decoded word says in document 01's numbers: the number that refuses it, or the kind and the values of the word
pub record DecodedCase (word : ℕ) (decoded : Decoded) : Type 0 where
  pub number : number_of decoded ≡ refusal word
  pub values : number_of decoded ≡ 0 → encode decoded ≡ word
