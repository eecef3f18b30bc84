-- A short image: the picture is off (P00 low) until the routine of the address interrupt has noted an address.
use Rattle.std.specs.Prelude.{ℕ, zero, suc, ◌+◌, Bool, true, false, not, ◌&&◌, List, [], ◌∷◌, ◌++◌, replicate, get_or, eqb}
use Rattle.bits.specs.Byte.{bit}
use Rattle.cpu_operations.specs.declared.Cpu.{Cpu}
use Rattle.firmware_machine.specs.Machine.{Machine}
use Rattle.firmware_machine.specs.Run.{runs}
use Rattle.isolation_laws.specs.Foreign.{observer_of, none}
use Rattle.firmware_isolation_laws.specs.Words.{is_foreign_list}
use Rattle.recall_laws.specs.Host.{sda, byte_words, stop_words, timed}
use Rattle.recall_laws.specs.Wait.{power_up, is_among}

-- ---- the image

-- A000       LDA #FE, STA 00 (PT0: P00 low), LDA #00, STA 80 (nothing noted), STA 05 (MDCON: DDC2B), STA 15 (II STS: DDC on)
-- A00C       LDA #08, STA 0F (IEX: flag A), CLI
-- A011 wait: LDA 80, BEQ wait
-- A015       LDA #FF, STA 00 (P00 high)
-- A019 on:   JMP on
-- A01C       the routine: PHA, LDA #08, STA 11 (CLRFLG: flag A), STA 80 (noted), PLA, RTI
abbrev pub code : List ℕ
code =
    0xA9 ∷ 0xFE ∷ 0x85 ∷ 0x00 ∷ 0xA9 ∷ 0x00 ∷ 0x85 ∷ 0x80 ∷ 0x85 ∷ 0x05 ∷ 0x85 ∷ 0x15
    ∷ 0xA9 ∷ 0x08 ∷ 0x85 ∷ 0x0F ∷ 0x58
    ∷ 0xA5 ∷ 0x80 ∷ 0xF0 ∷ 0xFC
    ∷ 0xA9 ∷ 0xFF ∷ 0x85 ∷ 0x00
    ∷ 0x4C ∷ 0x19 ∷ 0xA0
    ∷ 0x48 ∷ 0xA9 ∷ 0x08 ∷ 0x85 ∷ 0x11 ∷ 0x85 ∷ 0x80 ∷ 0x68 ∷ 0x40 ∷ []

-- the whole ROM: a reset leads to A000, an interrupt to A01C
unfoldable pub rom : List ℕ
rom = code ++ (replicate 24535 0xFF ++ (0x00 ∷ 0xA0 ∷ 0x1C ∷ 0xA0 ∷ []))

-- after the nine instructions before the wait
unfoldable pub waiting : Machine
unfolding power_up rom
waiting = (runs 9 0 rom [] (power_up rom)).machine

-- ---- its two ends

-- PC in the wait, nothing noted at 0080, P00 low
abbrev pub is_waiting : Cpu → List ℕ → List ℕ → Bool
is_waiting c ram registers = is_among (0xA011 ∷ 0xA013 ∷ []) c.pc && (eqb (get_or ram 0 0) 0 && not (bit 0 (get_or registers 0 0)))

-- PC in the loop `on`, 08 noted, P00 high
abbrev pub has_picture : Cpu → List ℕ → List ℕ → Bool
has_picture c ram registers = is_among (0xA019 ∷ []) c.pc && (eqb (get_or ram 0 0) 8 && bit 0 (get_or registers 0 0))

-- ---- its host

-- START, an address with its direction, a byte of data, STOP: 59 words
unfoldable pub said : ℕ → ℕ → List ℕ
said address byte = sda false ∷ (byte_words address ++ (byte_words byte ++ stop_words))

abbrev pub counting : ℕ → ℕ → List ℕ
counting zero i = []
counting (suc n) i = i ∷ counting n (i + 1)

-- one word before each instruction from the first of the wait on
unfoldable pub transfer : ℕ → ℕ → List ℕ
unfolding said
transfer address byte = timed (counting 59 9) (said address byte)

-- the stored list: 42H is another device's address, 10H what it is sent
unfoldable pub stored : List ℕ
unfolding transfer
stored = transfer 0x42 0x10

-- a list that is foreign for this image, by its words: the stored one but for levels of SDA that make no START and no STOP, and no address in
-- it is the chip's
unfoldable pub is_foreign : List ℕ → Bool
unfolding stored waiting
is_foreign fs = is_foreign_list stored (observer_of waiting.chip none) fs
