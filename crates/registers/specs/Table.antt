-- The register table (document 01, "Registers"): one row for each register, from address 00H, in the order of the data sheet.
use Rattle.std.specs.Prelude.{ℕ, ◌/◌, ◌%◌, List, [], ◌∷◌, map, Bool, true, false, eqb, ltb, get_or}
use Rattle.bits.specs.Byte.{pick, merge}
use Rattle.registers.specs.declared.Row.{Row}
use Rattle.registers.specs.Names.{PT0, PT1, PT2DIR, PT2, PT3, MDCON, HVCON, HCNTL, HCNTH, VCNTL, VCNTH, SYNCON, ENDAC, AD0, AD1, IEX, IRQX, CLRFLG, CLRWDT, IIADR, IIDAT, IISTS, BT, BTCON}

-- a row: reset value, bits that a write changes, bits that a read shows, whether a write is taken, whether a read is taken
abbrev pub row : ℕ → ℕ → ℕ → Bool → Bool → Row
row value write read writable readable = record { reset = value; write = write; read = read; writable = writable; readable = readable }

-- the row of an address that no register has
abbrev pub none : Row
none = row 0 0 0 false false

-- the row that a number is: two hex digits each of reset value, write mask and read mask, then 2 for writable and 1 for readable
abbrev pub unpacked : ℕ → Row
unpacked n = row (n / 16777216) (n / 65536 % 256) (n / 256 % 256) (ltb 1 (n % 256)) (eqb (n % 2) 1)

-- the 38 rows, from address 00H
unfoldable pub table : List Row
table =
    -- reset, write, read, writable, readable
    row 0xff 0xff 0xff true true  -- 00 PT0
    ∷ row 0x7f 0x3f 0x7f true true  -- 01 PT1
    ∷ row 0xff 0xff 0x00 true false  -- 02 PT2DIR
    ∷ row 0xff 0xff 0xff true true  -- 03 PT2
    ∷ row 0x03 0x03 0x03 true true  -- 04 PT3
    ∷ row 0x07 0x0f 0x03 true true  -- 05 MDCON
    ∷ row 0x2f 0x03 0xfc true true  -- 06 HVCON
    ∷ row 0x00 0x00 0xff false true  -- 07 HCNTL
    ∷ row 0x00 0x00 0x0f false true  -- 08 HCNTH
    ∷ row 0x00 0x00 0xff false true  -- 09 VCNTL
    ∷ row 0x00 0x00 0x0f false true  -- 0A VCNTH
    ∷ row 0xff 0xdf 0x00 true false  -- 0B SYNCON
    ∷ row 0xff 0xff 0x00 true false  -- 0C ENDAC
    ∷ row 0xc0 0x00 0xc0 true true  -- 0D AD0
    ∷ row 0x00 0x00 0x00 false true  -- 0E AD1
    ∷ row 0x00 0x3f 0x00 true false  -- 0F IEX
    ∷ row 0x00 0x00 0x3f false true  -- 10 IRQX
    ∷ row 0x00 0x00 0x00 true false  -- 11 CLRFLG
    ∷ row 0x00 0x00 0x00 true false  -- 12 CLRWDT
    ∷ row 0xff 0xfe 0x00 true false  -- 13 IIADR
    ∷ row 0x00 0xff 0xff true true  -- 14 IIDAT
    ∷ row 0x08 0x0d 0x3e true true  -- 15 IISTS
    ∷ row 0x00 0xff 0x00 true false  -- 16 BT
    ∷ row 0x03 0x03 0x00 true false  -- 17 BTCON
    ∷ row 0x80 0xff 0xff true true  -- 18 DACH0
    ∷ row 0x80 0xff 0xff true true  -- 19 DACH1
    ∷ row 0x80 0xff 0xff true true  -- 1A DACH2
    ∷ row 0x80 0xff 0xff true true  -- 1B DACH3
    ∷ row 0x80 0xff 0xff true true  -- 1C DACH4
    ∷ row 0x80 0xff 0xff true true  -- 1D DACH5
    ∷ row 0x80 0xff 0xff true true  -- 1E DACH6
    ∷ row 0x80 0xff 0xff true true  -- 1F DACH7
    ∷ row 0x80 0xff 0xff true true  -- 20 DACH8
    ∷ row 0x80 0xff 0xff true true  -- 21 DACH9
    ∷ row 0x80 0xff 0xff true true  -- 22 DACH10
    ∷ row 0x80 0xff 0xff true true  -- 23 DACH11
    ∷ row 0x80 0xff 0xff true true  -- 24 DACH12
    ∷ row 0x80 0xff 0xff true true  -- 25 DACH13
    ∷ []

-- the registers' addresses are 00H to 25H
unfoldable pub is_register : ℕ → Bool
is_register a = ltb a 38

-- the row of an address; past the table, that of no register
unfoldable pub row_of : ℕ → Row
unfolding table
row_of a = get_or table a none

-- the value that a reset gives
unfoldable pub reset_value : ℕ → ℕ
reset_value a = (row_of a).reset

-- the bits that a write changes
unfoldable pub write_mask : ℕ → ℕ
write_mask a = (row_of a).write

-- a choice by the address: what stands beside it, or else another
abbrev pub chosen : {A : Type 0} → List (ℕ × A) → A → ℕ → A
chosen [] other a = other
chosen (x ∷ xs) other a = pick (eqb a x.0) x.1 (chosen xs other a)

-- the same column as a choice, in the order of the sheet, with DACH0 to DACH13 behind the others; `Rules.mask-choice` says that the
-- two are equal at every address
abbrev pub write_masks : List (ℕ × ℕ)
write_masks =
    (PT0, 0xff) ∷ (PT1, 0x3f) ∷ (PT2DIR, 0xff) ∷ (PT2, 0xff) ∷ (PT3, 0x03) ∷ (MDCON, 0x0f)
    ∷ (HVCON, 0x03) ∷ (HCNTL, 0x00) ∷ (HCNTH, 0x00) ∷ (VCNTL, 0x00) ∷ (VCNTH, 0x00) ∷ (SYNCON, 0xdf)
    ∷ (ENDAC, 0xff) ∷ (AD0, 0x00) ∷ (AD1, 0x00) ∷ (IEX, 0x3f) ∷ (IRQX, 0x00) ∷ (CLRFLG, 0x00)
    ∷ (CLRWDT, 0x00) ∷ (IIADR, 0xfe) ∷ (IIDAT, 0xff) ∷ (IISTS, 0x0d) ∷ (BT, 0xff) ∷ (BTCON, 0x03) ∷ []

unfoldable pub mask_choice : ℕ → ℕ
mask_choice a = chosen write_masks (pick (ltb a 0x26) 0xff 0x00) a

-- the byte that a write leaves: the bits of the write mask from the byte written, the others as they were
abbrev pub updated : ℕ → ℕ → ℕ → ℕ
updated a old b = merge (write_mask a) old b

-- the bits that a read shows
unfoldable pub read_mask : ℕ → ℕ
read_mask a = (row_of a).read

-- a write is not refused; a register of write mask 00 can still be one that takes writes
unfoldable pub is_writable : ℕ → Bool
is_writable a = (row_of a).writable

-- a read is not refused
unfoldable pub is_readable : ℕ → Bool
is_readable a = (row_of a).readable

-- the reset values of all registers, in order
unfoldable pub resets : List ℕ
unfolding table
resets = map (λ (r : Row). r.reset) table
