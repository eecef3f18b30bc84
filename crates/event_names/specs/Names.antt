-- The names in lines of text (document 01, "Event words" and "Registers"): a name is one number, its bytes in base 256, the first one
-- highest, letters in upper case. A table for each of the four things that a field A numbers; 0 stands where there is no name.
use Rattle.std.specs.Prelude.{Option, Some, None, ℕ, zero, suc, ◌+◌, ◌*◌, ◌/◌, ◌%◌, List, [], ◌∷◌, get_or, eqb, ltb}
use Rattle.bits.specs.Byte.{pick}
use Rattle.event_names.specs.declared.Kind.{Kind}
use Rattle.event_names.specs.declared.Kind.TheVariants.{Read, Write, Pin, Clock, Polarity}
use Rattle.event_names.specs.declared.Keyword.{Keyword}
use Rattle.event_names.specs.declared.Keyword.TheVariants as keyword
use Rattle.event_names.specs.Digits.{hex, unhex}

-- ---- the tables

-- "Registers", the names without blanks and slashes
unfoldable pub registers : List ℕ
registers =
    0x505430  -- PT0
    ∷ 0x505431  -- PT1
    ∷ 0x505432444952  -- PT2DIR
    ∷ 0x505432  -- PT2
    ∷ 0x505433  -- PT3
    ∷ 0x4D44434F4E  -- MDCON
    ∷ 0x4856434F4E  -- HVCON
    ∷ 0x48434E544C  -- HCNTL
    ∷ 0x48434E5448  -- HCNTH
    ∷ 0x56434E544C  -- VCNTL
    ∷ 0x56434E5448  -- VCNTH
    ∷ 0x53594E434F4E  -- SYNCON
    ∷ 0x454E444143  -- ENDAC
    ∷ 0x414430  -- AD0
    ∷ 0x414431  -- AD1
    ∷ 0x494558  -- IEX
    ∷ 0x49525158  -- IRQX
    ∷ 0x434C52464C47  -- CLRFLG
    ∷ 0x434C52574454  -- CLRWDT
    ∷ 0x4949414452  -- IIADR
    ∷ 0x4949444154  -- IIDAT
    ∷ 0x4949535453  -- IISTS
    ∷ 0x4254  -- BT
    ∷ 0x4254434F4E  -- BTCON
    ∷ 0x4441434830  -- DACH0
    ∷ 0x4441434831  -- DACH1
    ∷ 0x4441434832  -- DACH2
    ∷ 0x4441434833  -- DACH3
    ∷ 0x4441434834  -- DACH4
    ∷ 0x4441434835  -- DACH5
    ∷ 0x4441434836  -- DACH6
    ∷ 0x4441434837  -- DACH7
    ∷ 0x4441434838  -- DACH8
    ∷ 0x4441434839  -- DACH9
    ∷ 0x444143483130  -- DACH10
    ∷ 0x444143483131  -- DACH11
    ∷ 0x444143483132  -- DACH12
    ∷ 0x444143483133  -- DACH13
    ∷ []

-- "Event words", pins
unfoldable pub pins : List ℕ
pins =
    0x503030  -- P00
    ∷ 0x503031  -- P01
    ∷ 0x503032  -- P02
    ∷ 0x503033  -- P03
    ∷ 0x503034  -- P04
    ∷ 0x503035  -- P05
    ∷ 0x503036  -- P06
    ∷ 0x503037  -- P07
    ∷ 0x503130  -- P10
    ∷ 0x503131  -- P11
    ∷ 0x503132  -- P12
    ∷ 0x503133  -- P13
    ∷ 0x503134  -- P14
    ∷ 0x503135  -- P15
    ∷ 0x503136  -- P16
    ∷ 0  -- there is no pin 15
    ∷ 0x503230  -- P20
    ∷ 0x503231  -- P21
    ∷ 0x503232  -- P22
    ∷ 0x503233  -- P23
    ∷ 0x503234  -- P24
    ∷ 0x503235  -- P25
    ∷ 0x503236  -- P26
    ∷ 0x503237  -- P27
    ∷ 0x534441  -- SDA
    ∷ 0x53434C  -- SCL
    ∷ 0x4853594E4349  -- HSYNCI
    ∷ 0x5653594E4349  -- VSYNCI
    ∷ 0x5245534554  -- RESET
    ∷ []

-- "Event words", clocks
unfoldable pub clocks : List ℕ
clocks =
    0x385553  -- 8US
    ∷ 0x4241534530  -- BASE0
    ∷ 0x4241534531  -- BASE1
    ∷ 0x5741544348444F47  -- WATCHDOG
    ∷ []

-- "Event words", polarities
unfoldable pub polarities : List ℕ
polarities =
    0x48  -- H
    ∷ 0x56  -- V
    ∷ []

-- the table of a kind; reads and writes are of registers
unfoldable pub names : Kind → List ℕ
names Read = registers
names Write = registers
names Pin = pins
names Clock = clocks
names Polarity = polarities

-- ---- kinds

-- "Event words", the table: the number of each kind
unfoldable pub number_of : Kind → ℕ
number_of Read = 1
number_of Write = 2
number_of Pin = 3
number_of Clock = 4
number_of Polarity = 5

-- the kind with a number
unfoldable pub kind_with : ℕ → Option Kind
kind_with n =
    pick (eqb n 1) (Some Read)
    (pick (eqb n 2) (Some Write)
    (pick (eqb n 3) (Some Pin)
    (pick (eqb n 4) (Some Clock)
    (pick (eqb n 5) (Some Polarity) None))))

-- the kinds, and `word`
abbrev pub READ : ℕ
READ = 0x52454144

abbrev pub WRITE : ℕ
WRITE = 0x5752495445

abbrev pub PIN : ℕ
PIN = 0x50494E

abbrev pub CLOCK : ℕ
CLOCK = 0x434C4F434B

abbrev pub POLARITY : ℕ
POLARITY = 0x504F4C4152495459

abbrev pub WORD : ℕ
WORD = 0x574F5244

-- the keyword with this name
unfoldable pub kind_of : ℕ → Option Keyword
kind_of v =
    pick (eqb v READ) (Some (keyword.Event Read))
    (pick (eqb v WRITE) (Some (keyword.Event Write))
    (pick (eqb v PIN) (Some (keyword.Event Pin))
    (pick (eqb v CLOCK) (Some (keyword.Event Clock))
    (pick (eqb v POLARITY) (Some (keyword.Event Polarity))
    (pick (eqb v WORD) (Some keyword.Word) None)))))

-- the name of a keyword
unfoldable pub kind_name : Keyword → ℕ
kind_name (keyword.Event Read) = READ
kind_name (keyword.Event Write) = WRITE
kind_name (keyword.Event Pin) = PIN
kind_name (keyword.Event Clock) = CLOCK
kind_name (keyword.Event Polarity) = POLARITY
kind_name keyword.Word = WORD

-- ---- a field A as text, and back

-- no field has this value
abbrev pub none : ℕ
none = 256

-- the place of a name in a table whose first place is i, or none
unfoldable pub find : ℕ → List ℕ → ℕ → ℕ
find i [] v = none
find i (n ∷ rest) v = pick (eqb v n) i (find (suc i) rest v)

-- the field that a name stands for
unfoldable pub named : List ℕ → ℕ → ℕ
named table v = pick (eqb v 0) none (find 0 table v)

-- the name of a field, or 0
abbrev pub name_in : List ℕ → ℕ → ℕ
name_in table a = get_or table a 0

-- the field that two digits stand for: one without a name
unfoldable pub unnamed : List ℕ → ℕ → ℕ
unnamed table a = pick (ltb a 256) (pick (eqb (name_in table a) 0) a none) none

unfoldable pub field_in : List ℕ → ℕ → ℕ
field_in table v = pick (ltb (named table v) 256) (named table v) (unnamed table (unhex 2 v))

-- the field A that a token stands for in a line of this kind, or none
abbrev pub field_of : Kind → ℕ → ℕ
field_of kind v = field_in (names kind) v

unfoldable pub token_in : List ℕ → ℕ → ℕ
token_in table a = pick (eqb (name_in table a) 0) (hex 2 a) (name_in table a)

-- the token of a field A in a line of this kind: its name, or two digits where it has none
abbrev pub token_of : Kind → ℕ → ℕ
token_of kind a = token_in (names kind) a

-- ---- tokens as they are written

-- a letter in lower case
unfoldable pub lowered : ℕ → ℕ
lowered b = pick (ltb b 65) b (pick (ltb b 91) (b + 32) b)

-- a token of n bytes at most with its letters in lower case
unfoldable pub lower : ℕ → ℕ → ℕ
lower zero v = 0
lower (suc n) v = pick (eqb v 0) 0 (lower n (v / 256) * 256 + lowered (v % 256))

-- names of kinds and of clocks are written in lower case, all else in upper case
abbrev pub kind_shown : Keyword → ℕ
kind_shown k = lower 8 (kind_name k)

unfoldable pub shown_of : Kind → ℕ → ℕ
shown_of Clock a = pick (ltb a 4) (lower 8 (name_in clocks a)) (token_of Clock a)
shown_of Read a = token_of Read a
shown_of Write a = token_of Write a
shown_of Pin a = token_of Pin a
shown_of Polarity a = token_of Polarity a
