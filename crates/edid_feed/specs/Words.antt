-- The event words that send a block through DDC1 (document 02, Wish 7), and words as bytes.
use Rattle.std.specs.Prelude.{ℕ, zero, suc, ◌/◌, ◌%◌, List, [], ◌∷◌, ◌++◌, ltb, length, drop}
use Rattle.bits.specs.Byte.{pick}
use Rattle.registers.specs.Names.{MDCON, CLRWDT, IIDAT, IISTS}
use Rattle.events.specs.Pins as pin
use Rattle.events.specs.Word.{event_word}

-- ---- a list put into places

-- how many of them are written: all, or none where they do not fit
unfoldable pub placed_count : List ℕ → List ℕ → ℕ
placed_count list places = pick (ltb (length places) (length list)) 0 (length list)

-- what the places hold then: the list and, past it, what was there; all as it was where the list does not fit
unfoldable pub placed : List ℕ → List ℕ → List ℕ
placed list places = pick (ltb (length places) (length list)) places (list ++ drop (length list) places)

-- ---- words

-- VSYNCI low, and high again
abbrev pub pulse : List ℕ
pulse = event_word 3 pin.VSYNCI 0 ∷ event_word 3 pin.VSYNCI 1 ∷ []

abbrev pub pulses : ℕ → List ℕ
pulses zero = []
pulses (suc n) = pulse ++ pulses n

-- the watchdog is cleared, so that nine fields may follow
abbrev pub clear_watchdog : ℕ
clear_watchdog = event_word 2 CLRWDT 0x55

-- DDC1 is turned on, MDCON at its reset value, and the nine rises before the first load are spent
unfoldable pub lead : List ℕ
lead = clear_watchdog ∷ event_word 2 MDCON 0x07 ∷ event_word 2 IISTS 0x00 ∷ pulses 9

-- a byte: written, then loaded by the first of nine rises; the seven rises next to it show the other bits, the last one the
-- null bit
unfoldable pub sending : ℕ → List ℕ
sending b = clear_watchdog ∷ event_word 2 IIDAT b ∷ pulses 9

abbrev pub sending_all : List ℕ → List ℕ
sending_all [] = []
sending_all (b ∷ bs) = sending b ++ sending_all bs

-- the words that send a block, to a chip with DDC off and RESET high
unfoldable pub feed_words : List ℕ → List ℕ
feed_words block = lead ++ sending_all block

-- ---- words as bytes

-- a word's bytes, the lowest first
abbrev pub bytes_of : ℕ → List ℕ
bytes_of w = w % 256 ∷ w / 256 % 256 ∷ w / 65536 % 256 ∷ w / 16777216 % 256 ∷ []

unfoldable pub bytes_of_all : List ℕ → List ℕ
bytes_of_all [] = []
bytes_of_all (w ∷ ws) = bytes_of w ++ bytes_of_all ws
