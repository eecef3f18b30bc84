-- The instructions of the 6502 (document 02, Wish 5), the interrupt, and the reset.
use Rattle.std.specs.Prelude.{ℕ, ◌+◌, ◌*◌, ◌/◌, ◌%◌, Bool, true, false, List, get_or}
use Rattle.bits.specs.Byte.{num}
use Rattle.cpu_arithmetic.specs.declared.Flags.{Flags}
use Rattle.cpu_arithmetic.specs.Arithmetic.{nz}
use Rattle.cpu_opcodes.specs.Table.{opcodes}
use Rattle.cpu_opcodes.specs.Opcodes.{operation_of, mode_of, length_of, cycles_of, is_jsr}
use Rattle.cpu_opcodes.specs.declared.ReadOperation.{ReadOperation}
use Rattle.cpu_opcodes.specs.declared.StoreOperation.{StoreOperation}
use Rattle.cpu_opcodes.specs.declared.ModifyOperation.{ModifyOperation}
use Rattle.cpu_opcodes.specs.declared.Mode.{Mode}
use Rattle.cpu_opcodes.specs.declared.Operation.{Operation}
use Rattle.cpu_opcodes.specs.declared.Operation.TheVariants.{Read, Store, Modify, ModifyA, Implied, Branch, Jmp, Jsr, Rts, Rti, Brk, Pha, Php, Pla, Plp, Undocumented}
use Rattle.cpu_operations.specs.declared.Cpu.{Cpu}
use Rattle.cpu_operations.specs.Operations.{set_a, set_p, set_s, set_pc, jumped, into_a, read_operation, store_operation, modify_operation, implied_operation, put_i, taken, pushed_p, pulled_p}
use Rattle.cpu_memory.specs.declared.Store.{Store as Stored}
use Rattle.cpu_memory.specs.declared.Store.TheVariants.{Nothing, Byte, PushOne, PushTwo, PushThree}
use Rattle.cpu_memory.specs.Memory.{stack, below, above, rom_word}
use Rattle.cpu_memory.specs.Reads.{Reads, done, word}
use Rattle.cpu_addressing.specs.declared.Effective.{Effective}
use Rattle.cpu_addressing.specs.Addressing.{ahead, locate}
use Rattle.cpu_instruction.specs.declared.Effect.{Effect}
use Rattle.cpu_instruction.specs.Program.{Instruction, leaves, rejected, reads, pushes, and_then}

-- what an instruction leaves: CPU, cycles, store
abbrev pub effect : Cpu → ℕ → Stored → Effect
effect c n t = record { cpu = c; cycles = n; store = t }

-- In what follows n is the base cycles, t the effective address, and the CPU has its PC behind the instruction already.

-- ---- reads, stores, changes

-- a crossed page costs a read one cycle more; stores and changes have it in their base cycles
abbrev pub reading : ReadOperation → Effective → ℕ → Cpu → Instruction
reading o t n c = reads t.address (λ (b : ℕ). leaves (effect (read_operation o b c) (n + num t.crossed) Nothing))

abbrev pub storing : StoreOperation → Effective → ℕ → Cpu → Instruction
storing o t n c = leaves (effect c n (Byte t.address (store_operation o c)))

-- the byte is read once, and what it becomes is written once
abbrev pub modified : ModifyOperation → Effective → ℕ → Cpu → ℕ → Effect
modified o t n c b = effect (set_p (modify_operation o b c.p).flags c) n (Byte t.address (modify_operation o b c.p).value)

abbrev pub modifying : ModifyOperation → Effective → ℕ → Cpu → Instruction
modifying o t n c = reads t.address (λ (b : ℕ). leaves (modified o t n c b))

abbrev pub modifying_a : ModifyOperation → ℕ → Cpu → Instruction
modifying_a o n c = leaves (effect (into_a (modify_operation o c.a c.p) c) n Nothing)

-- ---- branches and jumps

-- a branch taken costs one cycle more, and one more where it leaves the page
abbrev pub branched : Bool → Effective → ℕ → Cpu → Effect
branched true t n c = effect (set_pc t.address c) (n + 1 + num t.crossed) Nothing
branched false t n c = effect c n Nothing

-- the address of the last byte of the instruction, which JSR pushes
abbrev pub return_address : Cpu → ℕ
return_address c = ahead c.pc 65535

-- JSR fetches its operand itself: the low byte, then PC + 2 is pushed, high byte first, and the high byte is read last. Where the
-- stack runs over the operand, the high byte read is the byte just pushed.
abbrev pub jsr_to : ℕ → Cpu → ℕ → ℕ → Effect
jsr_to n c l h =
    effect (jumped (h * 256 + l) (below (below c.s)) c.p c) n (PushTwo c.s (return_address c / 256) (return_address c % 256))

abbrev pub jsr_high : ℕ → Cpu → ℕ → Instruction
jsr_high n c l =
    pushes c.s (return_address c / 256)
    (pushes (below c.s) (return_address c % 256)
    (reads (return_address c) (λ (h : ℕ). leaves (jsr_to n c l h))))

abbrev pub jsr : ℕ → Cpu → Instruction
jsr n c = reads (ahead c.pc 65534) (λ (l : ℕ). jsr_high n c l)

-- RTS pulls the low byte, then the high byte, and goes on behind it
abbrev pub rts : ℕ → Cpu → Instruction
rts n c =
    and_then (word (stack (above c.s)) (stack (above (above c.s))))
    (λ (v : ℕ). leaves (effect (jumped (ahead v 1) (above (above c.s)) c.p c) n Nothing))

-- RTI pulls P, then PC
abbrev pub rti_with : ℕ → Cpu → ℕ → Instruction
rti_with n c b =
    and_then (word (stack (above (above c.s))) (stack (above (above (above c.s)))))
    (λ (v : ℕ). leaves (effect (jumped v (above (above (above c.s))) (pulled_p b) c) n Nothing))

abbrev pub rti : ℕ → Cpu → Instruction
rti n c = reads (stack (above c.s)) (λ (b : ℕ). rti_with n c b)

-- ---- BRK and the interrupt: PC and P are pushed, I is set, and PC is loaded from FFFE. b is B; r is the PC pushed.

abbrev pub trap_to : Bool → ℕ → ℕ → Cpu → ℕ → Effect
trap_to b r n c v =
    effect (jumped v (below (below (below c.s))) (put_i true c.p) c) n (PushThree c.s (r / 256) (r % 256) (pushed_p c.p b))

unfoldable pub trap : Bool → ℕ → ℕ → Cpu → Instruction
trap b r n c =
    pushes c.s (r / 256)
    (pushes (below c.s) (r % 256)
    (pushes (below (below c.s)) (pushed_p c.p b)
    (and_then (word 0xFFFE 0xFFFF) (λ (v : ℕ). leaves (trap_to b r n c v)))))

-- the byte behind BRK is not fetched; PC + 2 is pushed
abbrev pub brk : ℕ → Cpu → Instruction
brk n c = trap true (ahead c.pc 1) n c

-- an interrupt: seven cycles
abbrev pub interrupt : Cpu → Instruction
interrupt c = trap false c.pc 7 c

-- ---- pushes and pulls

abbrev pub pushing : ℕ → ℕ → Cpu → Instruction
pushing b n c = pushes c.s b (leaves (effect (set_s (below c.s) c) n (PushOne c.s b)))

abbrev pub pla : ℕ → Cpu → Instruction
pla n c = reads (stack (above c.s)) (λ (b : ℕ). leaves (effect (set_s (above c.s) (set_a b (nz b c.p) c)) n Nothing))

abbrev pub plp : ℕ → Cpu → Instruction
plp n c = reads (stack (above c.s)) (λ (b : ℕ). leaves (effect (set_s (above c.s) (set_p (pulled_p b) c)) n Nothing))

-- ---- the operations

unfoldable pub execute : Operation → Effective → ℕ → Cpu → Instruction
execute (Read o) t n c = reading o t n c
execute (Store o) t n c = storing o t n c
execute (Modify o) t n c = modifying o t n c
execute (ModifyA o) t n c = modifying_a o n c
execute (Implied o) t n c = leaves (effect (implied_operation o c) n Nothing)
execute (Branch o) t n c = leaves (branched (taken o c.p) t n c)
execute Jmp t n c = leaves (effect (set_pc t.address c) n Nothing)
execute Jsr t n c = jsr n c
execute Rts t n c = rts n c
execute Rti t n c = rti n c
execute Brk t n c = brk n c
execute Pha t n c = pushing c.a n c
execute Php t n c = pushing (pushed_p c.p true) n c
execute Pla t n c = pla n c
execute Plp t n c = plp n c
execute Undocumented t n c = rejected

-- an instruction whose opcode is read and has the entry e: the addressing mode, but for JSR, which fetches its operand itself, then the
-- operation
unfoldable pub instruction_of : ℕ → Cpu → Instruction
instruction_of e c =
    and_then (locate (is_jsr e) (mode_of e) c)
    (λ (t : Effective). execute (operation_of e) t (cycles_of e) (set_pc (ahead c.pc (length_of e)) c))

-- the instruction at PC, by a table of opcodes, and by that of the 6502
unfoldable pub instruction_by : List ℕ → Cpu → Instruction
instruction_by table c = reads c.pc (λ (opcode : ℕ). instruction_of (get_or table opcode 0) c)

abbrev pub instruction : Cpu → Instruction
instruction c = instruction_by opcodes c

-- ---- the reset: I is set and PC is loaded from FFFC, at no cycles; all else is kept

abbrev pub reset : Cpu → Instruction
reset c = and_then (word 0xFFFC 0xFFFD) (λ (v : ℕ). leaves (effect (jumped v c.s (put_i true c.p) c) 0 Nothing))

-- ---- interrupt and reset read ROM alone, so that they cannot fail: what they leave, by the ROM

unfoldable pub interrupted : List ℕ → Cpu → Effect
interrupted rom c = trap_to false c.pc 7 c (rom_word rom 24574)

unfoldable pub reset_cpu : List ℕ → Cpu → Cpu
reset_cpu rom c = jumped (rom_word rom 24572) c.s (put_i true c.p) c
