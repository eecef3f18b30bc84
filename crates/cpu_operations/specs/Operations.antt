-- What the operations of the 6502 make of registers, flags and a byte, by the data sheet's mnemonics (document 02, Wish 5).
use Rattle.std.specs.Prelude.{ℕ, ◌+◌, ◌*◌, ◌/◌, ◌%◌, Bool, true, false, eqb, ltb}
use Rattle.std.specs.Int.Bits.{bit_and, bit_or, bit_xor}
use Rattle.bits.specs.Byte.{num}
use Rattle.cpu_arithmetic.specs.declared.Flags.{Flags}
use Rattle.cpu_arithmetic.specs.declared.Computed.{Computed}
use Rattle.cpu_arithmetic.specs.Arithmetic.{computed, nz, nzc, adc, sbc, compared}
use Rattle.cpu_opcodes.specs.declared.ReadOperation.{ReadOperation}
use Rattle.cpu_opcodes.specs.declared.ReadOperation.TheVariants.{Lda, Ldx, Ldy, And, Ora, Eor, Adc, Sbc, Cmp, Cpx, Cpy, Bit}
use Rattle.cpu_opcodes.specs.declared.StoreOperation.{StoreOperation}
use Rattle.cpu_opcodes.specs.declared.StoreOperation.TheVariants.{Sta, Stx, Sty}
use Rattle.cpu_opcodes.specs.declared.ModifyOperation.{ModifyOperation}
use Rattle.cpu_opcodes.specs.declared.ModifyOperation.TheVariants.{Asl, Lsr, Rol, Ror, Inc, Dec}
use Rattle.cpu_opcodes.specs.declared.ImpliedOperation.{ImpliedOperation}
use Rattle.cpu_opcodes.specs.declared.ImpliedOperation.TheVariants.{Clc, Sec, Cli, Sei, Cld, Sed, Clv, Nop, Tax, Tay, Txa, Tya, Tsx, Txs, Inx, Iny, Dex, Dey}
use Rattle.cpu_opcodes.specs.declared.BranchOperation.{BranchOperation}
use Rattle.cpu_opcodes.specs.declared.BranchOperation.TheVariants.{Bpl, Bmi, Bvc, Bvs, Bcc, Bcs, Bne, Beq}
use Rattle.cpu_operations.specs.declared.Cpu.{Cpu}

-- ---- the CPU with a register changed, its flags too where the operation changes them

abbrev pub set_a : ℕ → Flags → Cpu → Cpu
set_a r f c = record { a = r; x = c.x; y = c.y; s = c.s; p = f; pc = c.pc; over = c.over }

abbrev pub set_x : ℕ → Flags → Cpu → Cpu
set_x r f c = record { a = c.a; x = r; y = c.y; s = c.s; p = f; pc = c.pc; over = c.over }

abbrev pub set_y : ℕ → Flags → Cpu → Cpu
set_y r f c = record { a = c.a; x = c.x; y = r; s = c.s; p = f; pc = c.pc; over = c.over }

abbrev pub set_p : Flags → Cpu → Cpu
set_p f c = record { a = c.a; x = c.x; y = c.y; s = c.s; p = f; pc = c.pc; over = c.over }

abbrev pub set_s : ℕ → Cpu → Cpu
set_s s c = record { a = c.a; x = c.x; y = c.y; s = s; p = c.p; pc = c.pc; over = c.over }

abbrev pub set_pc : ℕ → Cpu → Cpu
set_pc pc c = record { a = c.a; x = c.x; y = c.y; s = c.s; p = c.p; pc = pc; over = c.over }

-- PC, S and P at once
abbrev pub jumped : ℕ → ℕ → Flags → Cpu → Cpu
jumped pc s f c = record { a = c.a; x = c.x; y = c.y; s = s; p = f; pc = pc; over = c.over }

-- the cycles over
abbrev pub set_over : ℕ → Cpu → Cpu
set_over n c = record { a = c.a; x = c.x; y = c.y; s = c.s; p = c.p; pc = c.pc; over = n }

-- ---- the operations that read a byte

-- BIT: N and V are bits 7 and 6 of the byte, Z is that of A and the byte
abbrev pub tested : ℕ → ℕ → Flags → Flags
tested a b f = record { n = ltb 127 b; v = eqb (b / 64 % 2) 1; d = f.d; i = f.i; z = eqb (bit_and a b) 0; c = f.c }

-- a result into A, with the flags that it leaves
abbrev pub into_a : Computed → Cpu → Cpu
into_a r c = set_a r.value r.flags c

unfoldable pub read_operation : ReadOperation → ℕ → Cpu → Cpu
read_operation Lda b c = set_a b (nz b c.p) c
read_operation Ldx b c = set_x b (nz b c.p) c
read_operation Ldy b c = set_y b (nz b c.p) c
read_operation And b c = set_a (bit_and c.a b) (nz (bit_and c.a b) c.p) c
read_operation Ora b c = set_a (bit_or c.a b) (nz (bit_or c.a b) c.p) c
read_operation Eor b c = set_a (bit_xor c.a b) (nz (bit_xor c.a b) c.p) c
read_operation Adc b c = into_a (adc c.a b c.p) c
read_operation Sbc b c = into_a (sbc c.a b c.p) c
read_operation Cmp b c = set_p (compared c.a b c.p) c
read_operation Cpx b c = set_p (compared c.x b c.p) c
read_operation Cpy b c = set_p (compared c.y b c.p) c
read_operation Bit b c = set_p (tested c.a b c.p) c

-- ---- the operations that store a register: the byte that they store

unfoldable pub store_operation : StoreOperation → Cpu → ℕ
store_operation Sta c = c.a
store_operation Stx c = c.x
store_operation Sty c = c.y

-- ---- the operations that change a byte: shifts and rotations through C, and one more or one less

unfoldable pub modify_operation : ModifyOperation → ℕ → Flags → Computed
modify_operation Asl b f = computed (b * 2 % 256) (nzc (b * 2 % 256) (ltb 127 b) f)
modify_operation Lsr b f = computed (b / 2) (nzc (b / 2) (eqb (b % 2) 1) f)
modify_operation Rol b f = computed ((b * 2 + num f.c) % 256) (nzc ((b * 2 + num f.c) % 256) (ltb 127 b) f)
modify_operation Ror b f = computed (b / 2 + num f.c * 128) (nzc (b / 2 + num f.c * 128) (eqb (b % 2) 1) f)
modify_operation Inc b f = computed ((b + 1) % 256) (nz ((b + 1) % 256) f)
modify_operation Dec b f = computed ((b + 255) % 256) (nz ((b + 255) % 256) f)

-- ---- the operations on registers and flags alone

abbrev pub flags : Bool → Bool → Bool → Bool → Bool → Bool → Flags
flags n v d i z c = record { n = n; v = v; d = d; i = i; z = z; c = c }

-- one flag put to a value
abbrev pub put_c : Bool → Flags → Flags
put_c k f = flags f.n f.v f.d f.i f.z k

abbrev pub put_i : Bool → Flags → Flags
put_i k f = flags f.n f.v f.d k f.z f.c

abbrev pub put_d : Bool → Flags → Flags
put_d k f = flags f.n f.v k f.i f.z f.c

abbrev pub put_v : Bool → Flags → Flags
put_v k f = flags f.n k f.d f.i f.z f.c

-- a transfer or a count sets N and Z, TXS none
unfoldable pub implied_operation : ImpliedOperation → Cpu → Cpu
implied_operation Clc c = set_p (put_c false c.p) c
implied_operation Sec c = set_p (put_c true c.p) c
implied_operation Cli c = set_p (put_i false c.p) c
implied_operation Sei c = set_p (put_i true c.p) c
implied_operation Cld c = set_p (put_d false c.p) c
implied_operation Sed c = set_p (put_d true c.p) c
implied_operation Clv c = set_p (put_v false c.p) c
implied_operation Nop c = c
implied_operation Tax c = set_x c.a (nz c.a c.p) c
implied_operation Tay c = set_y c.a (nz c.a c.p) c
implied_operation Txa c = set_a c.x (nz c.x c.p) c
implied_operation Tya c = set_a c.y (nz c.y c.p) c
implied_operation Tsx c = set_x c.s (nz c.s c.p) c
implied_operation Txs c = set_s c.x c
implied_operation Inx c = set_x ((c.x + 1) % 256) (nz ((c.x + 1) % 256) c.p) c
implied_operation Iny c = set_y ((c.y + 1) % 256) (nz ((c.y + 1) % 256) c.p) c
implied_operation Dex c = set_x ((c.x + 255) % 256) (nz ((c.x + 255) % 256) c.p) c
implied_operation Dey c = set_y ((c.y + 255) % 256) (nz ((c.y + 255) % 256) c.p) c

-- ---- the branches: whether one is taken

abbrev pub is_clear : Bool → Bool
is_clear true = false
is_clear false = true

unfoldable pub taken : BranchOperation → Flags → Bool
taken Bpl f = is_clear f.n
taken Bmi f = f.n
taken Bvc f = is_clear f.v
taken Bvs f = f.v
taken Bcc f = is_clear f.c
taken Bcs f = f.c
taken Bne f = is_clear f.z
taken Beq f = f.z

-- ---- P as a byte

-- pushed: N V 1 B D I Z C, bit 5 set
unfoldable pub pushed_p : Flags → Bool → ℕ
pushed_p f b = num f.n * 128 + num f.v * 64 + 32 + num b * 16 + num f.d * 8 + num f.i * 4 + num f.z * 2 + num f.c

-- pulled: bits 5 and 4 are dropped
unfoldable pub pulled_p : ℕ → Flags
pulled_p b = flags (ltb 127 b) (eqb (b / 64 % 2) 1) (eqb (b / 8 % 2) 1) (eqb (b / 4 % 2) 1) (eqb (b / 2 % 2) 1) (eqb (b % 2) 1)
