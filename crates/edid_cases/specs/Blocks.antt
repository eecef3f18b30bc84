-- EDID base blocks with the number of each (document 02, Wishes 7 and 8), written by hand.
use Rattle.std.specs.Prelude.{ℕ, ◌+◌, ◌-◌, ◌%◌, List, [], ◌∷◌, ◌++◌, replicate, drop}
use Rattle.edid_check.specs.Edid.{verdict, number_of, edition_of}

abbrev pub total : List ℕ → ℕ
total [] = 0
total (x ∷ xs) = x + total xs

-- the bytes and one more, with which they sum to this modulo 256
abbrev pub summing : ℕ → List ℕ → List ℕ
summing s bytes = bytes ++ ((256 + s - total bytes % 256) % 256 ∷ [])

abbrev pub header : List ℕ
header = 0x00 ∷ 0xff ∷ 0xff ∷ 0xff ∷ 0xff ∷ 0xff ∷ 0xff ∷ 0x00 ∷ []

-- a header, ten bytes, those from byte 18 on, zeros, and a last byte for the sum
abbrev pub block_of : List ℕ → List ℕ → ℕ → List ℕ
block_of front bytes s = summing s (front ++ (replicate 10 0x00 ++ (bytes ++ replicate 105 0x00)))

-- of version 1, with this revision, byte 20 and byte 21
abbrev pub block : ℕ → ℕ → ℕ → List ℕ
block revision input beside = block_of header (0x01 ∷ revision ∷ input ∷ beside ∷ []) 0

-- with another header
abbrev pub headed : List ℕ → List ℕ
headed front = block_of front (0x01 ∷ 0x03 ∷ 0x00 ∷ 0x00 ∷ []) 0

-- a block, its number, and its revision where it is accepted
pub record Row : Type 0 where
  pub bytes : List ℕ
  pub number : ℕ
  pub revision : ℕ

abbrev pub row : List ℕ → ℕ → ℕ → Row
row bytes number revision = record { bytes = bytes; number = number; revision = revision }

abbrev pub accepted : ℕ → List ℕ → Row
accepted revision bytes = row bytes 0 revision

abbrev pub refused : ℕ → List ℕ → Row
refused number bytes = row bytes number 0

-- byte 21 is set where byte 20 is good and clear where it is not, so that the two are told apart
unfoldable pub rows : List Row
rows =
    -- revision 3: bits 6 to 1 of a digital byte 20 are zero, bit 0 is free; of an analogue one nothing is asked
    accepted 3 (block 3 0x00 0xff) ∷ accepted 3 (block 3 0x7e 0xff) ∷ accepted 3 (block 3 0x80 0xff) ∷ accepted 3 (block 3 0x81 0xff)
    ∷ refused 34 (block 3 0x82 0x00) ∷ refused 34 (block 3 0xa0 0x00) ∷ refused 34 (block 3 0xc0 0x00)
    ∷  -- revision 4: a depth of 7 is reserved, then interfaces from 6 on are not defined
    accepted 4 (block 4 0x7f 0xff) ∷ accepted 4 (block 4 0x80 0xff) ∷ accepted 4 (block 4 0x82 0xff) ∷ accepted 4 (block 4 0xe5 0xff)
    ∷ refused 35 (block 4 0xf0 0x00) ∷ refused 35 (block 4 0xf1 0x00) ∷ refused 35 (block 4 0xf6 0x00) ∷ refused 36 (block 4 0x86 0x00) ∷ refused 36 (block 4 0x8f 0x00)
    ∷  -- version 1 and revision 3 or 4
    refused 32 (block 2 0x00 0x00) ∷ refused 32 (block 5 0x00 0x00) ∷ refused 32 (block_of header (0x02 ∷ 0x03 ∷ 0x00 ∷ 0x00 ∷ []) 0) ∷ refused 32 (block_of header (0x00 ∷ 0x04 ∷ 0x00 ∷ 0x00 ∷ []) 0)
    ∷  -- the sum, before byte 20 and behind the version
    refused 33 (block_of header (0x01 ∷ 0x03 ∷ 0x82 ∷ 0x00 ∷ []) 1) ∷ refused 33 (block_of header (0x01 ∷ 0x04 ∷ 0xf0 ∷ 0x00 ∷ []) 255)
    ∷ refused 32 (block_of header (0x02 ∷ 0x03 ∷ 0x82 ∷ 0x00 ∷ []) 1)
    ∷  -- the header, at its ends and within, before version and sum
    refused 31 (headed (0x01 ∷ 0xff ∷ 0xff ∷ 0xff ∷ 0xff ∷ 0xff ∷ 0xff ∷ 0x00 ∷ [])) ∷ refused 31 (headed (0x00 ∷ 0xfe ∷ 0xff ∷ 0xff ∷ 0xff ∷ 0xff ∷ 0xff ∷ 0x00 ∷ []))
    ∷ refused 31 (headed (0x00 ∷ 0xff ∷ 0xff ∷ 0xff ∷ 0xff ∷ 0xff ∷ 0xfe ∷ 0x00 ∷ [])) ∷ refused 31 (headed (0x00 ∷ 0xff ∷ 0xff ∷ 0xff ∷ 0xff ∷ 0xff ∷ 0xff ∷ 0x01 ∷ []))
    ∷ refused 31 (block_of (0x00 ∷ 0xff ∷ 0xff ∷ 0xff ∷ 0xff ∷ 0xff ∷ 0xff ∷ 0xff ∷ []) (0x02 ∷ 0x05 ∷ 0x00 ∷ 0x00 ∷ []) 1)
    ∷  -- the length, before all
    refused 30 (drop 1 (block 3 0x00 0x00)) ∷ refused 30 (0x00 ∷ block 3 0x00 0x00) ∷ refused 30 [] ∷ []

abbrev pub expected : List Row → List (ℕ × ℕ)
expected [] = []
expected (r ∷ rs) = (r.number, r.revision) ∷ expected rs

abbrev pub given : List Row → List (ℕ × ℕ)
given [] = []
given (r ∷ rs) = (number_of (verdict r.bytes), edition_of (verdict r.bytes)) ∷ given rs
