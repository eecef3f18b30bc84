-- Rules of the table of 256 opcodes, as tests over all of them.
use Rattle.std.specs.Prelude.{ℕ, zero, suc, ◌+◌, Bool, true, false}
use Rattle.bits.specs.Byte.{num}
use Rattle.cpu_opcodes.specs.declared.Operation.{Operation}
use Rattle.cpu_opcodes.specs.declared.Operation.TheVariants.{Read, Store, Modify, ModifyA, Implied, Branch, Jmp, Jsr, Rts, Rti, Brk, Pha, Php, Pla, Plp, Undocumented}
use Rattle.cpu_opcodes.specs.declared.Mode.{Mode}
use Rattle.cpu_opcodes.specs.declared.Mode.TheVariants as mode

-- how many of the numbers below n pass a test
abbrev pub count_below : (ℕ → Bool) → ℕ → ℕ
count_below f zero = 0
count_below f (suc n) = num (f n) + count_below f n

-- the mode of opcodes that are not documented
unfoldable pub is_undocumented_mode : Mode → Bool
is_undocumented_mode mode.Implied = false
is_undocumented_mode mode.Accumulator = false
is_undocumented_mode mode.Immediate = false
is_undocumented_mode mode.ZeroPage = false
is_undocumented_mode mode.ZeroPageX = false
is_undocumented_mode mode.ZeroPageY = false
is_undocumented_mode mode.Absolute = false
is_undocumented_mode mode.AbsoluteX = false
is_undocumented_mode mode.AbsoluteY = false
is_undocumented_mode mode.AbsoluteIndirect = false
is_undocumented_mode mode.IndexedIndirect = false
is_undocumented_mode mode.IndirectIndexed = false
is_undocumented_mode mode.Relative = false
is_undocumented_mode mode.Undocumented = true

-- the operand that an operation takes: 0 none, 1 A, 2 the distance of a branch, 3 a byte or an address, and 4 for opcodes that are not documented
unfoldable pub operand_of : Operation → ℕ
operand_of (Implied o) = 0
operand_of Rts = 0
operand_of Rti = 0
operand_of Brk = 0
operand_of Pha = 0
operand_of Php = 0
operand_of Pla = 0
operand_of Plp = 0
operand_of (ModifyA o) = 1
operand_of (Branch o) = 2
operand_of (Read o) = 3
operand_of (Store o) = 3
operand_of (Modify o) = 3
operand_of Jmp = 3
operand_of Jsr = 3
operand_of Undocumented = 4

-- and the one that a mode gives
unfoldable pub operand_by : Mode → ℕ
operand_by mode.Implied = 0
operand_by mode.Accumulator = 1
operand_by mode.Relative = 2
operand_by mode.Immediate = 3
operand_by mode.ZeroPage = 3
operand_by mode.ZeroPageX = 3
operand_by mode.ZeroPageY = 3
operand_by mode.Absolute = 3
operand_by mode.AbsoluteX = 3
operand_by mode.AbsoluteY = 3
operand_by mode.AbsoluteIndirect = 3
operand_by mode.IndexedIndirect = 3
operand_by mode.IndirectIndexed = 3
operand_by mode.Undocumented = 4
