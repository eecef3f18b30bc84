-- images/recall.rom, byte by byte (docs/RECALL.md): the picture is off (P00 low) until the routine of the address interrupt has noted an address.
use Rattle.std.specs.Prelude.{ℕ, Bool, true, false, not, ◌&&◌, List, [], ◌∷◌, ◌++◌, replicate, get_or, eqb}
use Rattle.bits.specs.Byte.{bit}
use Rattle.cpu_operations.specs.declared.Cpu.{Cpu}
use Rattle.firmware_machine.specs.Machine.{Machine}
use Rattle.firmware_machine.specs.Run.{runs}
use Rattle.recall_laws.specs.Wait.{power_up, is_among}

-- A000 to A045; images/recall.s has the source
abbrev pub code : List ℕ
code =
    0x78 ∷ 0xD8 ∷ 0xA2 ∷ 0xFF ∷ 0x9A ∷ 0xA9 ∷ 0xFE ∷ 0x85 ∷ 0x00 ∷ 0xA9 ∷ 0x00 ∷ 0x85 ∷ 0x80 ∷ 0xA9 ∷ 0x06 ∷ 0x85
    ∷ 0x05 ∷ 0xA9 ∷ 0x00 ∷ 0x85 ∷ 0x15 ∷ 0xA9 ∷ 0x18 ∷ 0x85 ∷ 0x0F ∷ 0x58 ∷ 0xA9 ∷ 0x55 ∷ 0x85 ∷ 0x12 ∷ 0xA5 ∷ 0x80
    ∷ 0xF0 ∷ 0xF8 ∷ 0xA9 ∷ 0xFF ∷ 0x85 ∷ 0x00 ∷ 0xA9 ∷ 0x55 ∷ 0x85 ∷ 0x12 ∷ 0x4C ∷ 0x26 ∷ 0xA0 ∷ 0x48 ∷ 0xA5 ∷ 0x10
    ∷ 0x29 ∷ 0x08 ∷ 0xF0 ∷ 0x04 ∷ 0x85 ∷ 0x11 ∷ 0x85 ∷ 0x80 ∷ 0xA5 ∷ 0x10 ∷ 0x29 ∷ 0x10 ∷ 0xF0 ∷ 0x06 ∷ 0x85 ∷ 0x11
    ∷ 0xA9 ∷ 0x00 ∷ 0x85 ∷ 0x14 ∷ 0x68 ∷ 0x40 ∷ []

-- the three vectors from FFFA on: A000 for the one that the chip does not use and for a reset, A02D for an interrupt
abbrev pub vectors : List ℕ
vectors = 0x00 ∷ 0xA0 ∷ 0x00 ∷ 0xA0 ∷ 0x2D ∷ 0xA0 ∷ []

-- the whole ROM
unfoldable pub rom : List ℕ
rom = code ++ (replicate 24500 0xFF ++ vectors)

-- after the fifteen instructions before the wait
unfoldable pub waiting : Machine
unfolding power_up rom
waiting = (runs 15 0 rom [] (power_up rom)).machine

-- PC in the loop `wait`, nothing noted at 0080, P00 low
abbrev pub is_waiting : Cpu → List ℕ → List ℕ → Bool
is_waiting c ram registers = is_among (0xA01A ∷ 0xA01C ∷ 0xA01E ∷ 0xA020 ∷ []) c.pc && (eqb (get_or ram 0 0) 0 && not (bit 0 (get_or registers 0 0)))

-- PC in the loop `on`, 08 noted, P00 high
abbrev pub has_picture : Cpu → List ℕ → List ℕ → Bool
has_picture c ram registers = is_among (0xA026 ∷ 0xA028 ∷ 0xA02A ∷ []) c.pc && (eqb (get_or ram 0 0) 8 && bit 0 (get_or registers 0 0))
