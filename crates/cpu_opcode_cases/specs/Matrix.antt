-- The 6502's matrix of opcodes (document 02, Wish 5): the operation, the addressing mode and the base cycles of each of the 256, written row by
-- row as the chip is commonly documented, beside the table of `cpu_opcodes`. No sheet of it is among the sources.
use Rattle.std.specs.Prelude.{ℕ, zero, suc, ◌+◌, List, [], ◌∷◌}
use Rattle.cpu_opcodes.specs.declared.ReadOperation.TheVariants.{Lda, Ldx, Ldy, And, Ora, Eor, Adc, Sbc, Cmp, Cpx, Cpy, Bit}
use Rattle.cpu_opcodes.specs.declared.StoreOperation.TheVariants.{Sta, Stx, Sty}
use Rattle.cpu_opcodes.specs.declared.ModifyOperation.TheVariants.{Asl, Lsr, Rol, Ror, Inc, Dec}
use Rattle.cpu_opcodes.specs.declared.ImpliedOperation.TheVariants.{Clc, Sec, Cli, Sei, Cld, Sed, Clv, Nop, Tax, Tay, Txa, Tya, Tsx, Txs, Inx, Iny, Dex, Dey}
use Rattle.cpu_opcodes.specs.declared.BranchOperation.TheVariants.{Bpl, Bmi, Bvc, Bvs, Bcc, Bcs, Bne, Beq}
use Rattle.cpu_opcodes.specs.declared.Operation.{Operation}
use Rattle.cpu_opcodes.specs.declared.Operation.TheVariants.{Read, Store, Modify, ModifyA, Implied, Branch, Jmp, Jsr, Rts, Rti, Brk, Pha, Php, Pla, Plp, Undocumented}
use Rattle.cpu_opcodes.specs.declared.Mode.{Mode}
use Rattle.cpu_opcodes.specs.declared.Mode.TheVariants as mode
use Rattle.cpu_opcodes.specs.Opcodes.{operation_of, mode_of, length_of, cycles_of, entry_of}

-- a place of the matrix
pub record Opcode : Type 0 where
  pub operation : Operation
  pub mode : Mode
  pub length : ℕ
  pub cycles : ℕ

abbrev pub opcode : Mode → ℕ → Operation → ℕ → Opcode
opcode mode length operation cycles = record { operation = operation; mode = mode; length = length; cycles = cycles }

-- by addressing mode, with the length that the data sheet gives each; BRK is implied, one byte
abbrev pub implied : Operation → ℕ → Opcode
implied = opcode mode.Implied 1

abbrev pub accumulator : Operation → ℕ → Opcode
accumulator = opcode mode.Accumulator 1

abbrev pub immediate : Operation → ℕ → Opcode
immediate = opcode mode.Immediate 2

abbrev pub zero_page : Operation → ℕ → Opcode
zero_page = opcode mode.ZeroPage 2

abbrev pub zero_page_x : Operation → ℕ → Opcode
zero_page_x = opcode mode.ZeroPageX 2

abbrev pub zero_page_y : Operation → ℕ → Opcode
zero_page_y = opcode mode.ZeroPageY 2

abbrev pub absolute : Operation → ℕ → Opcode
absolute = opcode mode.Absolute 3

abbrev pub absolute_x : Operation → ℕ → Opcode
absolute_x = opcode mode.AbsoluteX 3

abbrev pub absolute_y : Operation → ℕ → Opcode
absolute_y = opcode mode.AbsoluteY 3

abbrev pub indirect : Operation → ℕ → Opcode
indirect = opcode mode.AbsoluteIndirect 3

abbrev pub indexed_indirect : Operation → ℕ → Opcode
indexed_indirect = opcode mode.IndexedIndirect 2

abbrev pub indirect_indexed : Operation → ℕ → Opcode
indirect_indexed = opcode mode.IndirectIndexed 2

abbrev pub relative : Operation → ℕ → Opcode
relative = opcode mode.Relative 2

-- not documented
abbrev pub none : Opcode
none = opcode mode.Undocumented 0 Undocumented 0

-- what the table has for n opcodes from k on
abbrev pub table_from : ℕ → ℕ → List Opcode
table_from k zero = []
table_from k (suc n) = opcode (mode_of (entry_of k)) (length_of (entry_of k)) (operation_of (entry_of k)) (cycles_of (entry_of k)) ∷ table_from (k + 1) n

unfoldable pub matrix : List Opcode
matrix =
    -- 00 to 0F
    implied Brk 7 ∷ indexed_indirect (Read Ora) 6 ∷ none ∷ none ∷ none ∷ zero_page (Read Ora) 3 ∷ zero_page (Modify Asl) 5 ∷ none ∷
    implied Php 3 ∷ immediate (Read Ora) 2 ∷ accumulator (ModifyA Asl) 2 ∷ none ∷ none ∷ absolute (Read Ora) 4 ∷ absolute (Modify Asl) 6 ∷ none ∷
    -- 10 to 1F
    relative (Branch Bpl) 2 ∷ indirect_indexed (Read Ora) 5 ∷ none ∷ none ∷ none ∷ zero_page_x (Read Ora) 4 ∷ zero_page_x (Modify Asl) 6 ∷ none ∷
    implied (Implied Clc) 2 ∷ absolute_y (Read Ora) 4 ∷ none ∷ none ∷ none ∷ absolute_x (Read Ora) 4 ∷ absolute_x (Modify Asl) 7 ∷ none ∷
    -- 20 to 2F
    absolute Jsr 6 ∷ indexed_indirect (Read And) 6 ∷ none ∷ none ∷ zero_page (Read Bit) 3 ∷ zero_page (Read And) 3 ∷ zero_page (Modify Rol) 5 ∷ none ∷
    implied Plp 4 ∷ immediate (Read And) 2 ∷ accumulator (ModifyA Rol) 2 ∷ none ∷ absolute (Read Bit) 4 ∷ absolute (Read And) 4 ∷ absolute (Modify Rol) 6 ∷ none ∷
    -- 30 to 3F
    relative (Branch Bmi) 2 ∷ indirect_indexed (Read And) 5 ∷ none ∷ none ∷ none ∷ zero_page_x (Read And) 4 ∷ zero_page_x (Modify Rol) 6 ∷ none ∷
    implied (Implied Sec) 2 ∷ absolute_y (Read And) 4 ∷ none ∷ none ∷ none ∷ absolute_x (Read And) 4 ∷ absolute_x (Modify Rol) 7 ∷ none ∷
    -- 40 to 4F
    implied Rti 6 ∷ indexed_indirect (Read Eor) 6 ∷ none ∷ none ∷ none ∷ zero_page (Read Eor) 3 ∷ zero_page (Modify Lsr) 5 ∷ none ∷
    implied Pha 3 ∷ immediate (Read Eor) 2 ∷ accumulator (ModifyA Lsr) 2 ∷ none ∷ absolute Jmp 3 ∷ absolute (Read Eor) 4 ∷ absolute (Modify Lsr) 6 ∷ none ∷
    -- 50 to 5F
    relative (Branch Bvc) 2 ∷ indirect_indexed (Read Eor) 5 ∷ none ∷ none ∷ none ∷ zero_page_x (Read Eor) 4 ∷ zero_page_x (Modify Lsr) 6 ∷ none ∷
    implied (Implied Cli) 2 ∷ absolute_y (Read Eor) 4 ∷ none ∷ none ∷ none ∷ absolute_x (Read Eor) 4 ∷ absolute_x (Modify Lsr) 7 ∷ none ∷
    -- 60 to 6F
    implied Rts 6 ∷ indexed_indirect (Read Adc) 6 ∷ none ∷ none ∷ none ∷ zero_page (Read Adc) 3 ∷ zero_page (Modify Ror) 5 ∷ none ∷
    implied Pla 4 ∷ immediate (Read Adc) 2 ∷ accumulator (ModifyA Ror) 2 ∷ none ∷ indirect Jmp 5 ∷ absolute (Read Adc) 4 ∷ absolute (Modify Ror) 6 ∷ none ∷
    -- 70 to 7F
    relative (Branch Bvs) 2 ∷ indirect_indexed (Read Adc) 5 ∷ none ∷ none ∷ none ∷ zero_page_x (Read Adc) 4 ∷ zero_page_x (Modify Ror) 6 ∷ none ∷
    implied (Implied Sei) 2 ∷ absolute_y (Read Adc) 4 ∷ none ∷ none ∷ none ∷ absolute_x (Read Adc) 4 ∷ absolute_x (Modify Ror) 7 ∷ none ∷
    -- 80 to 8F
    none ∷ indexed_indirect (Store Sta) 6 ∷ none ∷ none ∷ zero_page (Store Sty) 3 ∷ zero_page (Store Sta) 3 ∷ zero_page (Store Stx) 3 ∷ none ∷
    implied (Implied Dey) 2 ∷ none ∷ implied (Implied Txa) 2 ∷ none ∷ absolute (Store Sty) 4 ∷ absolute (Store Sta) 4 ∷ absolute (Store Stx) 4 ∷ none ∷
    -- 90 to 9F
    relative (Branch Bcc) 2 ∷ indirect_indexed (Store Sta) 6 ∷ none ∷ none ∷ zero_page_x (Store Sty) 4 ∷ zero_page_x (Store Sta) 4 ∷ zero_page_y (Store Stx) 4 ∷ none ∷
    implied (Implied Tya) 2 ∷ absolute_y (Store Sta) 5 ∷ implied (Implied Txs) 2 ∷ none ∷ none ∷ absolute_x (Store Sta) 5 ∷ none ∷ none ∷
    -- A0 to AF
    immediate (Read Ldy) 2 ∷ indexed_indirect (Read Lda) 6 ∷ immediate (Read Ldx) 2 ∷ none ∷ zero_page (Read Ldy) 3 ∷ zero_page (Read Lda) 3 ∷ zero_page (Read Ldx) 3 ∷ none ∷
    implied (Implied Tay) 2 ∷ immediate (Read Lda) 2 ∷ implied (Implied Tax) 2 ∷ none ∷ absolute (Read Ldy) 4 ∷ absolute (Read Lda) 4 ∷ absolute (Read Ldx) 4 ∷ none ∷
    -- B0 to BF
    relative (Branch Bcs) 2 ∷ indirect_indexed (Read Lda) 5 ∷ none ∷ none ∷ zero_page_x (Read Ldy) 4 ∷ zero_page_x (Read Lda) 4 ∷ zero_page_y (Read Ldx) 4 ∷ none ∷
    implied (Implied Clv) 2 ∷ absolute_y (Read Lda) 4 ∷ implied (Implied Tsx) 2 ∷ none ∷ absolute_x (Read Ldy) 4 ∷ absolute_x (Read Lda) 4 ∷ absolute_y (Read Ldx) 4 ∷ none ∷
    -- C0 to CF
    immediate (Read Cpy) 2 ∷ indexed_indirect (Read Cmp) 6 ∷ none ∷ none ∷ zero_page (Read Cpy) 3 ∷ zero_page (Read Cmp) 3 ∷ zero_page (Modify Dec) 5 ∷ none ∷
    implied (Implied Iny) 2 ∷ immediate (Read Cmp) 2 ∷ implied (Implied Dex) 2 ∷ none ∷ absolute (Read Cpy) 4 ∷ absolute (Read Cmp) 4 ∷ absolute (Modify Dec) 6 ∷ none ∷
    -- D0 to DF
    relative (Branch Bne) 2 ∷ indirect_indexed (Read Cmp) 5 ∷ none ∷ none ∷ none ∷ zero_page_x (Read Cmp) 4 ∷ zero_page_x (Modify Dec) 6 ∷ none ∷
    implied (Implied Cld) 2 ∷ absolute_y (Read Cmp) 4 ∷ none ∷ none ∷ none ∷ absolute_x (Read Cmp) 4 ∷ absolute_x (Modify Dec) 7 ∷ none ∷
    -- E0 to EF
    immediate (Read Cpx) 2 ∷ indexed_indirect (Read Sbc) 6 ∷ none ∷ none ∷ zero_page (Read Cpx) 3 ∷ zero_page (Read Sbc) 3 ∷ zero_page (Modify Inc) 5 ∷ none ∷
    implied (Implied Inx) 2 ∷ immediate (Read Sbc) 2 ∷ implied (Implied Nop) 2 ∷ none ∷ absolute (Read Cpx) 4 ∷ absolute (Read Sbc) 4 ∷ absolute (Modify Inc) 6 ∷ none ∷
    -- F0 to FF
    relative (Branch Beq) 2 ∷ indirect_indexed (Read Sbc) 5 ∷ none ∷ none ∷ none ∷ zero_page_x (Read Sbc) 4 ∷ zero_page_x (Modify Inc) 6 ∷ none ∷
    implied (Implied Sed) 2 ∷ absolute_y (Read Sbc) 4 ∷ none ∷ none ∷ none ∷ absolute_x (Read Sbc) 4 ∷ absolute_x (Modify Inc) 7 ∷ none ∷
    []
