-- The instructions of the 6502, computed, against rows written out by hand.
use Prim.Native.Nat.{ℕ}
use mathlib.Core.Path.{◌≡◌, refl}
use mathlib.Core.List.{List, [], ◌∷◌, map}
use Rattle.cpu_arithmetic.specs.Arithmetic.{digit_sum, digit_difference, decimal_sum, decimal_difference, adc, sbc, compared}
use Rattle.cpu_memory.specs.declared.Loaded.TheVariants.{Byte}
use Rattle.cpu_instruction.specs.Program.{Access, read_at, write_at}
use Rattle.firmware_laws.specs.Numbers.{made_by}
use Rattle.firmware_cases.specs.Firmware.{ram}
use Rattle.firmware_cases.specs.Instructions.{ram_with, ran, said, operation_rows, crossing_rows, binary_rows, decimal_rows, branch_ran, branch_said, branch_rows}
use Rattle.firmware_cases.specs.Starts.{start, after, jumping}
use Rattle.firmware_cases.proofs.Opened.{opened}

pub operation_rows_lem : map ran operation_rows ≡ map said operation_rows
unfolding opened digit_sum digit_difference decimal_sum decimal_difference adc sbc compared
operation_rows_lem = refl

pub crossing_rows_lem : map ran crossing_rows ≡ map said crossing_rows
unfolding opened
crossing_rows_lem = refl

pub binary_rows_lem : map ran binary_rows ≡ map said binary_rows
unfolding opened adc sbc
binary_rows_lem = refl

pub decimal_rows_lem : map ran decimal_rows ≡ map said decimal_rows
unfolding opened digit_sum digit_difference decimal_sum decimal_difference adc sbc
decimal_rows_lem = refl

pub branch_rows_lem : map branch_ran branch_rows ≡ map branch_said branch_rows
unfolding opened
branch_rows_lem = refl

-- ---- what wraps, by the accesses

-- an index wraps in page zero: LDA 90,X and LDX 90,Y with 80H read 10; LDA (81,X) with FFH has its pointer at 80, here 0090
pub zero_page_wraps : made_by (0xB5 ∷ 0x90 ∷ []) (start 0x008000FF00 ram) ∷ made_by (0xB6 ∷ 0x90 ∷ []) (start 0x000080FF00 ram) ∷ made_by (0xA1 ∷ 0x81 ∷ []) (start 0x00FF00FF00 (ram_with 0 0x900000)) ∷ []
    ≡ (read_at 0xA000 (Byte 0xB5) ∷ read_at 0xA001 (Byte 0x90) ∷ read_at 0x10 (Byte 0) ∷ [])
    ∷ (read_at 0xA000 (Byte 0xB6) ∷ read_at 0xA001 (Byte 0x90) ∷ read_at 0x10 (Byte 0) ∷ [])
    ∷ (read_at 0xA000 (Byte 0xA1) ∷ read_at 0xA001 (Byte 0x81) ∷ read_at 0x80 (Byte 0x90) ∷ read_at 0x81 (Byte 0) ∷ read_at 0x90 (Byte 0) ∷ [])
    ∷ []
unfolding opened
zero_page_wraps = refl

-- a pointer at FF has its high byte at 00, the register PT0, here FFH: LDA (FF),Y with Y 1, and LDA (F0,X) with X 0FH; 0100 holds 55H
pub pointer_wraps : made_by (0xB1 ∷ 0xFF ∷ []) (start 0x000001FF00 (ram_with 127 0x105500)) ∷ made_by (0xA1 ∷ 0xF0 ∷ []) (start 0x000F00FF00 (ram_with 127 0x105500)) ∷ []
    ≡ (read_at 0xA000 (Byte 0xB1) ∷ read_at 0xA001 (Byte 0xFF) ∷ read_at 0xFF (Byte 0x10) ∷ read_at 0x00 (Byte 0xFF) ∷ read_at 0xFF11 (Byte 0) ∷ [])
    ∷ (read_at 0xA000 (Byte 0xA1) ∷ read_at 0xA001 (Byte 0xF0) ∷ read_at 0xFF (Byte 0x10) ∷ read_at 0x00 (Byte 0xFF) ∷ read_at 0xFF10 (Byte 0) ∷ [])
    ∷ []
unfolding opened
pointer_wraps = refl

-- JMP (01FF) has its high byte at 0100
pub jump_wraps : ◌≡◌ {A = List Access × (ℕ × ℕ)} (made_by (0x6C ∷ 0xFF ∷ 0x01 ∷ []) (start 0 (ram_with 127 0x341200)), after (0x6C ∷ 0xFF ∷ 0x01 ∷ []) (start 0 (ram_with 127 0x341200)))
    (read_at 0xA000 (Byte 0x6C) ∷ read_at 0xA001 (Byte 0xFF) ∷ read_at 0xA002 (Byte 0x01) ∷ read_at 0x1FF (Byte 0x34) ∷ read_at 0x100 (Byte 0x12) ∷ [], (0, 0x1234))
unfolding opened
jump_wraps = refl

-- JMP (A0FF) at A000 has its own opcode for a high byte, and not the byte at A100
pub jump_to_own_opcode : after jumping (start 0 ram) ≡ (0, 0x6C34)
unfolding opened
jump_to_own_opcode = refl

-- S wraps: PHA and JSR at 00, BRK at 01
pub pushes_wrap : made_by (0x48 ∷ []) (start 0x1200000000 ram) ∷ made_by (0x20 ∷ 0x34 ∷ 0x12 ∷ []) (start 0 ram) ∷ made_by (0x00 ∷ []) (start 0x0100 ram) ∷ []
    ≡ (read_at 0xA000 (Byte 0x48) ∷ write_at 0x100 0x12 ∷ [])
    ∷ (read_at 0xA000 (Byte 0x20) ∷ read_at 0xA001 (Byte 0x34) ∷ write_at 0x100 0xA0 ∷ write_at 0x1FF 2 ∷ read_at 0xA002 (Byte 0x12) ∷ [])
    ∷ (read_at 0xA000 (Byte 0) ∷ write_at 0x101 0xA0 ∷ write_at 0x100 2 ∷ write_at 0x1FF 0x30 ∷ read_at 0xFFFE (Byte 0) ∷ read_at 0xFFFF (Byte 0) ∷ [])
    ∷ []
unfolding opened
pushes_wrap = refl

-- PLA at FF, RTS and RTI at FE; 01FF, 0100 and 0101 hold 11H, 22H and 33H
pub pulls_wrap : made_by (0x68 ∷ []) (start 0xFF00 (ram_with 127 0x112233)) ∷ made_by (0x60 ∷ []) (start 0xFE00 (ram_with 127 0x112233)) ∷ made_by (0x40 ∷ []) (start 0xFE00 (ram_with 127 0x112233)) ∷ []
    ≡ (read_at 0xA000 (Byte 0x68) ∷ read_at 0x100 (Byte 0x22) ∷ [])
    ∷ (read_at 0xA000 (Byte 0x60) ∷ read_at 0x1FF (Byte 0x11) ∷ read_at 0x100 (Byte 0x22) ∷ [])
    ∷ (read_at 0xA000 (Byte 0x40) ∷ read_at 0x1FF (Byte 0x11) ∷ read_at 0x100 (Byte 0x22) ∷ read_at 0x101 (Byte 0x33) ∷ [])
    ∷ []
unfolding opened
pulls_wrap = refl

-- after these six S is FF, FE, FE, 00, 00 and 01
pub stack_wraps : after (0x48 ∷ []) (start 0x1200000000 ram) ∷ after (0x20 ∷ 0x34 ∷ 0x12 ∷ []) (start 0 ram) ∷ after (0x00 ∷ []) (start 0x0100 ram)
    ∷ after (0x68 ∷ []) (start 0xFF00 (ram_with 127 0x112233)) ∷ after (0x60 ∷ []) (start 0xFE00 (ram_with 127 0x112233)) ∷ after (0x40 ∷ []) (start 0xFE00 (ram_with 127 0x112233)) ∷ []
    ≡ (0x120000FF00, 0xA001) ∷ (0xFE00, 0x1234) ∷ (0xFE04, 0) ∷ (0x2200000000, 0xA001) ∷ (0, 0x2212) ∷ (0x0101, 0x3322) ∷ []
unfolding opened
stack_wraps = refl
