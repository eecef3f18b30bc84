-- What a host says to a device, as words and as listed events.
use Rattle.std.specs.Prelude.{ℕ, ◌+◌, ◌*◌, Bool, true, false, not, List, [], ◌∷◌, ◌++◌, eqb}
use Rattle.bits.specs.Byte.{pick, bit}
use Rattle.firmware_machine.specs.Run.{word_of}

-- SDA and SCL are put to a level; a register is read
abbrev pub sda : Bool → ℕ
sda level = pick level 0x03001801 0x03001800

abbrev pub scl : Bool → ℕ
scl level = pick level 0x03001901 0x03001900

abbrev pub read : ℕ → ℕ
read register = 0x01000000 + register * 256

-- a bit: SCL falls, SDA is put, SCL rises
abbrev pub bit_words : Bool → List ℕ
bit_words level = scl false ∷ sda level ∷ scl true ∷ []

-- eight bits, the top one first, and a ninth clock with SDA left high by the host
abbrev pub byte_words : ℕ → List ℕ
byte_words n =
    bit_words (bit 7 n) ++ (bit_words (bit 6 n) ++ (bit_words (bit 5 n) ++ (bit_words (bit 4 n)
    ++ (bit_words (bit 3 n) ++ (bit_words (bit 2 n) ++ (bit_words (bit 1 n) ++ (bit_words (bit 0 n) ++ bit_words true)))))))

-- SCL falls and rises with SDA low, which then rises
abbrev pub stop_words : List ℕ
stop_words = bit_words false ++ (sda true ∷ [])

-- ---- listed events

-- a word before instruction i
abbrev pub event : ℕ → ℕ → ℕ
event i w = i * 4294967296 + w

-- each word before the instruction of its number
abbrev pub timed : List ℕ → List ℕ → List ℕ
timed [] ws = []
timed (i ∷ is) [] = []
timed (i ∷ is) (w ∷ ws) = event i w ∷ timed is ws

-- of listed events, without those that put SDA to the level that it has
abbrev pub changes : Bool → List ℕ → List ℕ
changes level [] = []
changes level (e ∷ es) = pick (eqb (word_of e) (sda level)) (changes level es) (e ∷ changes (pick (eqb (word_of e) (sda (not level))) (not level) level) es)
