-- The plain reading of the bus (document 02, Wish 11): lists of changes with the number and the places that come of them, written by hand.
use Rattle.std.specs.Prelude.{ℕ, zero, suc, Bool, true, false, List, [], ◌∷◌, ◌++◌}
use Rattle.bits.specs.Byte.{bit}
use Rattle.plain_bus.specs.Reading.{number_of, reading, places_left}

-- ---- changes: pin 24 is SDA, 25 is SCL

abbrev pub sda : Bool → List ℕ
sda true = 0x1801 ∷ []
sda false = 0x1800 ∷ []

abbrev pub scl : Bool → List ℕ
scl true = 0x1901 ∷ []
scl false = 0x1900 ∷ []

-- a bit: SCL falls, SDA takes it, SCL rises
abbrev pub sent : Bool → List ℕ
sent level = scl false ++ (sda level ++ scl true)

-- the n lowest bits of a byte, top bit first
abbrev pub bits : ℕ → ℕ → List ℕ
bits zero byte = []
bits (suc n) byte = sent (bit n byte) ++ bits n byte

-- START with SDA high before, and a byte up to its eighth rise
abbrev pub address : ℕ → List ℕ
address byte = sda false ++ bits 8 byte

-- SDA is put high while SCL is low, and SCL rises: a START may follow
abbrev pub ninth : List ℕ
ninth = scl false ++ (sda true ++ scl true)

-- ---- rows

pub record Row : Type 0 where
  pub own : ℕ
  pub changes : List ℕ
  pub places : List ℕ
  pub number : ℕ
  pub left : List ℕ

abbrev pub row : ℕ → List ℕ → List ℕ → ℕ → List ℕ → Row
row own changes places number left = record { own = own; changes = changes; places = places; number = number; left = left }

-- refused: the places keep their content
abbrev pub refused : List ℕ → ℕ → Row
refused changes number = row 0xff changes (0x77 ∷ []) number (0x77 ∷ [])

abbrev pub expected : List Row → List (ℕ × List ℕ)
expected [] = []
expected (r ∷ rs) = (r.number, r.left) ∷ expected rs

abbrev pub given : List Row → List (ℕ × List ℕ)
given [] = []
given (r ∷ rs) = (number_of (reading r.own r.changes r.places), places_left r.own r.changes r.places) ∷ given rs

unfoldable pub rows : List Row
rows =
    -- an address with its outcome: 0 none, 1 A0H, 2 II ADR, 3 both, by bits 7 to 1; a place past the addresses keeps its content
    row 0xff (address 0x54) (0x77 ∷ 0x77 ∷ []) 0 (0x5400 ∷ 0x77 ∷ [])
    ∷ row 0xff (address 0xa0) (0x77 ∷ []) 0 (0xa001 ∷ [])
    ∷ row 0xff (address 0xa1) (0x77 ∷ []) 0 (0xa101 ∷ [])
    ∷ row 0x55 (address 0x54) (0x77 ∷ []) 0 (0x5402 ∷ [])
    ∷ row 0xa1 (address 0xa0) (0x77 ∷ []) 0 (0xa003 ∷ [])
    ∷  -- seven rises make none; a level given again is no change; bytes behind the first of a transfer are none
    row 0xff (sda false ++ bits 7 0x50) (0x77 ∷ []) 0 (0x77 ∷ [])
    ∷ row 0xff (scl true ++ (sda true ++ address 0x54)) (0x77 ∷ []) 0 (0x5400 ∷ [])
    ∷ row 0xff (address 0x54 ++ (ninth ++ bits 8 0xa0)) (0x77 ∷ 0x77 ∷ []) 0 (0x5400 ∷ 0x77 ∷ [])
    ∷  -- a repeated START, and a STOP and a START, begin another
    row 0xff (address 0x54 ++ (ninth ++ address 0xa0)) (0x77 ∷ 0x77 ∷ []) 0 (0x5400 ∷ 0xa001 ∷ [])
    ∷ row 0xff (address 0x54 ++ (sda true ++ address 0x56)) (0x77 ∷ 0x77 ∷ []) 0 (0x5400 ∷ 0x5600 ∷ [])
    ∷  -- the ninth rise of a matched address stops the reading, the eighth does not
    row 0xff (address 0xa0 ++ (ninth ++ address 0x54)) (0x77 ∷ 0x77 ∷ []) 0 (0xa001 ∷ 0x77 ∷ [])
    ∷ row 0xff (address 0xa0 ++ (sda true ++ address 0x54)) (0x77 ∷ 0x77 ∷ []) 0 (0xa001 ∷ 0x5400 ∷ [])
    ∷  -- another line, a level above 1, and both at once; the first bad change tells, past the stop too; then too few places
    refused (0x1700 ∷ []) 2 ∷ refused (0x1a00 ∷ []) 2 ∷ refused (0x1802 ∷ []) 3 ∷ refused (0x19ff ∷ []) 3 ∷ refused (0x1702 ∷ []) 2
    ∷ refused (0x1802 ∷ 0x1700 ∷ []) 3 ∷ refused (0x1700 ∷ 0x1802 ∷ []) 2
    ∷ refused (address 0xa0 ++ (ninth ++ (0x1802 ∷ []))) 3
    ∷ refused (address 0x54 ++ (ninth ++ address 0xa0)) 7
    ∷ refused (address 0x54 ++ (ninth ++ (address 0xa0 ++ (0x1702 ∷ [])))) 2
    ∷ row 0xff [] [] 0 [] ∷ []
