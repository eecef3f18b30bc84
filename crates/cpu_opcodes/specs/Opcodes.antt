-- What the digits of an entry of the table mean (document 02, Wish 5).
use Rattle.std.specs.Prelude.{ℕ, suc, ◌/◌, ◌%◌, Bool, true, false, List, [], ◌∷◌, eqb, get_or}
use Rattle.bits.specs.Byte.{pick}
use Rattle.cpu_opcodes.specs.Table.{opcodes}
use Rattle.cpu_opcodes.specs.declared.ReadOperation.{ReadOperation}
use Rattle.cpu_opcodes.specs.declared.ReadOperation.TheVariants.{Lda, Ldx, Ldy, And, Ora, Eor, Adc, Sbc, Cmp, Cpx, Cpy, Bit}
use Rattle.cpu_opcodes.specs.declared.StoreOperation.{StoreOperation}
use Rattle.cpu_opcodes.specs.declared.StoreOperation.TheVariants.{Sta, Stx, Sty}
use Rattle.cpu_opcodes.specs.declared.ModifyOperation.{ModifyOperation}
use Rattle.cpu_opcodes.specs.declared.ModifyOperation.TheVariants.{Asl, Lsr, Rol, Ror, Inc, Dec}
use Rattle.cpu_opcodes.specs.declared.ImpliedOperation.{ImpliedOperation}
use Rattle.cpu_opcodes.specs.declared.ImpliedOperation.TheVariants.{Clc, Sec, Cli, Sei, Cld, Sed, Clv, Nop, Tax, Tay, Txa, Tya, Tsx, Txs, Inx, Iny, Dex, Dey}
use Rattle.cpu_opcodes.specs.declared.BranchOperation.{BranchOperation}
use Rattle.cpu_opcodes.specs.declared.BranchOperation.TheVariants.{Bpl, Bmi, Bvc, Bvs, Bcc, Bcs, Bne, Beq}
use Rattle.cpu_opcodes.specs.declared.Operation.{Operation}
use Rattle.cpu_opcodes.specs.declared.Operation.TheVariants.{Read, Store, Modify, ModifyA, Implied, Branch, Jmp, Jsr, Rts, Rti, Brk, Pha, Php, Pla, Plp, Undocumented}
use Rattle.cpu_opcodes.specs.declared.Mode.{Mode}
use Rattle.cpu_opcodes.specs.declared.Mode.TheVariants as mode

-- the element with the number k, the first having i, and d where there is none
abbrev pub numbered : {A : Type 0} → List A → ℕ → ℕ → A → A
numbered [] i k d = d
numbered (a ∷ l) i k d = pick (eqb k i) a (numbered l (suc i) k d)

-- the operations, numbered from 0; from 60 on a number of six bits is that of no documented operation
unfoldable pub operations : List Operation
operations =
    Read Lda ∷ Read Ldx ∷ Read Ldy ∷ Read And ∷ Read Ora ∷ Read Eor ∷ Read Adc ∷ Read Sbc ∷ Read Cmp ∷ Read Cpx ∷ Read Cpy ∷ Read Bit ∷
    Store Sta ∷ Store Stx ∷ Store Sty ∷
    Modify Asl ∷ Modify Lsr ∷ Modify Rol ∷ Modify Ror ∷ Modify Inc ∷ Modify Dec ∷
    ModifyA Asl ∷ ModifyA Lsr ∷ ModifyA Rol ∷ ModifyA Ror ∷
    Implied Clc ∷ Implied Sec ∷ Implied Cli ∷ Implied Sei ∷ Implied Cld ∷ Implied Sed ∷ Implied Clv ∷ Implied Nop ∷
    Implied Tax ∷ Implied Tay ∷ Implied Txa ∷ Implied Tya ∷ Implied Tsx ∷ Implied Txs ∷ Implied Inx ∷ Implied Iny ∷ Implied Dex ∷ Implied Dey ∷
    Branch Bpl ∷ Branch Bmi ∷ Branch Bvc ∷ Branch Bvs ∷ Branch Bcc ∷ Branch Bcs ∷ Branch Bne ∷ Branch Beq ∷
    Jmp ∷ Jsr ∷ Rts ∷ Rti ∷ Brk ∷ Pha ∷ Php ∷ Pla ∷ Plp ∷
    Undocumented ∷ Undocumented ∷ Undocumented ∷ Undocumented ∷ []

unfoldable pub operation_numbered : ℕ → Operation
unfolding operations
operation_numbered k = numbered operations 0 k Undocumented

-- the addressing modes, numbered from 0; from 13 on a number of four bits is the mode of opcodes that are not documented
unfoldable pub modes : List Mode
modes =
    mode.Implied ∷ mode.Accumulator ∷ mode.Immediate ∷ mode.ZeroPage ∷ mode.ZeroPageX ∷ mode.ZeroPageY ∷ mode.Absolute ∷
    mode.AbsoluteX ∷ mode.AbsoluteY ∷ mode.AbsoluteIndirect ∷ mode.IndexedIndirect ∷ mode.IndirectIndexed ∷ mode.Relative ∷ mode.Undocumented ∷ mode.Undocumented ∷ mode.Undocumented ∷ []

unfoldable pub mode_numbered : ℕ → Mode
unfolding modes
mode_numbered k = numbered modes 0 k mode.Undocumented

-- the length that follows from the addressing mode: the opcode and its operand. BRK is implied, one byte; opcodes that are not
-- documented have the length 0.
unfoldable pub mode_length : Mode → ℕ
mode_length mode.Implied = 1
mode_length mode.Accumulator = 1
mode_length mode.Immediate = 2
mode_length mode.ZeroPage = 2
mode_length mode.ZeroPageX = 2
mode_length mode.ZeroPageY = 2
mode_length mode.Absolute = 3
mode_length mode.AbsoluteX = 3
mode_length mode.AbsoluteY = 3
mode_length mode.AbsoluteIndirect = 3
mode_length mode.IndexedIndirect = 2
mode_length mode.IndirectIndexed = 2
mode_length mode.Relative = 2
mode_length mode.Undocumented = 0

-- the digits of an entry
unfoldable pub operation_of : ℕ → Operation
operation_of e = operation_numbered (e / 4096 % 64)

unfoldable pub mode_of : ℕ → Mode
mode_of e = mode_numbered (e / 256 % 16)

unfoldable pub length_of : ℕ → ℕ
length_of e = e / 16 % 16

unfoldable pub cycles_of : ℕ → ℕ
cycles_of e = e % 16

-- the entry is JSR's, the one operation that fetches its operand itself
unfoldable pub is_jsr : ℕ → Bool
is_jsr e = eqb (e / 4096 % 64) 52

-- an opcode's own
unfoldable pub entry_of : ℕ → ℕ
entry_of opcode = get_or opcodes opcode 0

-- the operation is a documented one
abbrev pub is_documented : Operation → Bool
is_documented Undocumented = false
is_documented (Read o) = true
is_documented (Store o) = true
is_documented (Modify o) = true
is_documented (ModifyA o) = true
is_documented (Implied o) = true
is_documented (Branch o) = true
is_documented Jmp = true
is_documented Jsr = true
is_documented Rts = true
is_documented Rti = true
is_documented Brk = true
is_documented Pha = true
is_documented Php = true
is_documented Pla = true
is_documented Plp = true
