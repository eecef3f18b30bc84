-- What the instructions have in common: a documented one ends, keeps the cycles over and takes at most nine cycles.
use Prim.Native.Nat.{ℕ, ◌<◌, ◌≤◌}
use mathlib.Core.Path.{◌≡◌, refl, ap, sym, ◌∙◌}
use mathlib.Core.Bool.{Bool, true, false, beq, true≢false}
use mathlib.Core.Logic.{◌⊎◌, inl, inr}
use native.Mathlib.Omega.{arith}
use lib.ListN.{get_or-eq_default}
use Rattle.bits.specs.Byte.{num}
use Rattle.bits.proofs.Finite.{at_each, beq_eq, true_T, lt_or_le}
use Rattle.cpu_opcodes.specs.Table.{opcodes}
use Rattle.cpu_opcodes.specs.Opcodes.{operations, operation_numbered, modes, mode_numbered, operation_of, mode_of, length_of, cycles_of, is_jsr, entry_of, is_documented}
use Rattle.cpu_opcodes.specs.declared.ReadOperation.{ReadOperation}
use Rattle.cpu_opcodes.specs.declared.ReadOperation.TheVariants.{Lda, Ldx, Ldy, And, Ora, Eor, Adc, Sbc, Cmp, Cpx, Cpy, Bit}
use Rattle.cpu_opcodes.specs.declared.ImpliedOperation.{ImpliedOperation}
use Rattle.cpu_opcodes.specs.declared.ImpliedOperation.TheVariants.{Clc, Sec, Cli, Sei, Cld, Sed, Clv, Nop, Tax, Tay, Txa, Tya, Tsx, Txs, Inx, Iny, Dex, Dey}
use Rattle.cpu_opcodes.specs.declared.Mode.{Mode}
use Rattle.cpu_opcodes.specs.declared.Mode.TheVariants as mode
use Rattle.cpu_opcodes.specs.declared.Operation.{Operation}
use Rattle.cpu_opcodes.specs.declared.Operation.TheVariants.{Read, Store, Modify, ModifyA, Implied, Branch, Jmp, Jsr, Rts, Rti, Brk, Pha, Php, Pla, Plp, Undocumented}
use Rattle.cpu_opcodes.specs.Rules.{is_undocumented_mode}
use Rattle.cpu_opcodes.proofs.Rules.{undocumented as table_undocumented, cycles_at_most_seven}
use Rattle.cpu_operations.specs.declared.Cpu.{Cpu}
use Rattle.cpu_operations.specs.Operations.{read_operation, implied_operation, set_pc, taken}
use Rattle.cpu_memory.specs.Reads.{Reads, done, undocumented, read, then}
use Rattle.cpu_addressing.specs.declared.Effective.{Effective}
use Rattle.cpu_addressing.specs.Addressing.{ahead, locate}
use Rattle.cpu_instruction.specs.Program.{Instruction, leaves, rejected, reads, pushes, and_then}
use Rattle.cpu_instruction.specs.Instruction.{trap, branched, execute, instruction_of}

-- ---- reads that do not end at an opcode that is not documented

abbrev pub Finds : {A : Type 0} → Reads A → Type 0
Finds (done a) = Unit {0}
Finds undocumented = ⊥
Finds (read a k) = (b : ℕ) → Finds (k b)

-- ---- an instruction that ends

abbrev pub Regular : ℕ → Instruction → Type 0
Regular over (leaves e) = (e.cpu.over ≡ over) × (e.cycles < 10)
Regular over rejected = ⊥
Regular over (reads a k) = (b : ℕ) → Regular over (k b)
Regular over (pushes s b t) = Regular over t

then_regular : {A : Type 0} (over : ℕ) (r : Reads A) (g : A → Instruction) → Finds r → ((a : A) → Regular over (g a)) → Regular over (and_then r g)
unfolding and_then
then_regular over (done a) g f h = h a
then_regular over undocumented g f h = f
then_regular over (read a k) g f h = λ (b : ℕ). then_regular over (k b) g (f b) h

-- ---- the operations keep the cycles over

read_over : (o : ReadOperation) (b : ℕ) (c : Cpu) → (read_operation o b c).over ≡ c.over
unfolding read_operation
read_over Lda b c = refl
read_over Ldx b c = refl
read_over Ldy b c = refl
read_over And b c = refl
read_over Ora b c = refl
read_over Eor b c = refl
read_over Adc b c = refl
read_over Sbc b c = refl
read_over Cmp b c = refl
read_over Cpx b c = refl
read_over Cpy b c = refl
read_over Bit b c = refl

implied_over : (o : ImpliedOperation) (c : Cpu) → (implied_operation o c).over ≡ c.over
unfolding implied_operation
implied_over Clc c = refl
implied_over Sec c = refl
implied_over Cli c = refl
implied_over Sei c = refl
implied_over Cld c = refl
implied_over Sed c = refl
implied_over Clv c = refl
implied_over Nop c = refl
implied_over Tax c = refl
implied_over Tay c = refl
implied_over Txa c = refl
implied_over Tya c = refl
implied_over Tsx c = refl
implied_over Txs c = refl
implied_over Inx c = refl
implied_over Iny c = refl
implied_over Dex c = refl
implied_over Dey c = refl

num_le : (b : Bool) → num b ≤ 1
num_le true = omega arith
num_le false = omega arith

branched_regular : (b : Bool) (t : Effective) (n : ℕ) (c : Cpu) → n < 8 → Regular c.over (leaves (branched b t n c))
branched_regular true t n c h = (refl, omega (arith, num_le t.crossed))
branched_regular false t n c h = (refl, omega arith)

trap_regular : (b : Bool) (r n : ℕ) (c : Cpu) → n < 8 → Regular c.over (trap b r n c)
unfolding trap and_then
trap_regular b r n c h = λ (l k : ℕ). (refl, omega arith)

execute_regular : (o : Operation) (t : Effective) (n : ℕ) (c : Cpu) → is_documented o ≡ true → n < 8 → Regular c.over (execute o t n c)
unfolding execute and_then
execute_regular (Read o) t n c d h = λ (b : ℕ). (read_over o b c, omega (arith, num_le t.crossed))
execute_regular (Store o) t n c d h = (refl, omega arith)
execute_regular (Modify o) t n c d h = λ (b : ℕ). (refl, omega arith)
execute_regular (ModifyA o) t n c d h = (refl, omega arith)
execute_regular (Implied o) t n c d h = (implied_over o c, omega arith)
execute_regular (Branch o) t n c d h = branched_regular (taken o c.p) t n c h
execute_regular Jmp t n c d h = (refl, omega arith)
execute_regular Jsr t n c d h = λ (l k : ℕ). (refl, omega arith)
execute_regular Rts t n c d h = λ (l k : ℕ). (refl, omega arith)
execute_regular Rti t n c d h = λ (b l k : ℕ). (refl, omega arith)
execute_regular Brk t n c d h = trap_regular true (ahead c.pc 1) n c h
execute_regular Pha t n c d h = (refl, omega arith)
execute_regular Php t n c d h = (refl, omega arith)
execute_regular Pla t n c d h = λ (b : ℕ). (refl, omega arith)
execute_regular Plp t n c d h = λ (b : ℕ). (refl, omega arith)
execute_regular Undocumented t n c d h = true≢false (sym d)

-- ---- the addressing modes of documented opcodes

locate_finds : (own : Bool) (m : Mode) (c : Cpu) → is_undocumented_mode m ≡ false → Finds (locate own m c)
unfolding locate then is_undocumented_mode
locate_finds own mode.Implied c h = tt
locate_finds own mode.Accumulator c h = tt
locate_finds own mode.Immediate c h = tt
locate_finds own mode.ZeroPage c h = λ (o : ℕ). tt
locate_finds own mode.ZeroPageX c h = λ (o : ℕ). tt
locate_finds own mode.ZeroPageY c h = λ (o : ℕ). tt
locate_finds true mode.Absolute c h = tt
locate_finds false mode.Absolute c h = λ (l k : ℕ). tt
locate_finds own mode.AbsoluteX c h = λ (l k : ℕ). tt
locate_finds own mode.AbsoluteY c h = λ (l k : ℕ). tt
locate_finds own mode.AbsoluteIndirect c h = λ (l k l' k' : ℕ). tt
locate_finds own mode.IndexedIndirect c h = λ (o l k : ℕ). tt
locate_finds own mode.IndirectIndexed c h = λ (o l k : ℕ). tt
locate_finds own mode.Relative c h = λ (o : ℕ). tt
locate_finds own mode.Undocumented c h = true≢false h

-- ---- the table, past its end too: there the entry is 0

past : (opcode : ℕ) → 256 ≤ opcode → entry_of opcode ≡ 0
unfolding entry_of opcodes
past opcode h = get_or-eq_default opcodes 0 {n = opcode} h

few_past : cycles_of 0 < 8
unfolding cycles_of
few_past = omega arith

few_by : (opcode : ℕ) → (opcode < 256) ⊎ (256 ≤ opcode) → cycles_of (entry_of opcode) < 8
few_by opcode (inl h) = cycles_at_most_seven opcode h
few_by opcode (inr h) = rw (past opcode h) few_past

few : (opcode : ℕ) → cycles_of (entry_of opcode) < 8
few opcode = few_by opcode (lt_or_le opcode 256)

abbrev Marked : ℕ → Type 0
Marked e = is_undocumented_mode (mode_of e) ≡ beq (is_documented (operation_of e)) false

marked_past : Marked 0
unfolding operations operation_numbered operation_of modes mode_numbered mode_of is_undocumented_mode
marked_past = refl

marked_by : (opcode : ℕ) → (opcode < 256) ⊎ (256 ≤ opcode) → Marked (entry_of opcode)
marked_by opcode (inl h) = beq_eq _ _ (at_each (λ (k : ℕ). beq (is_undocumented_mode (mode_of (entry_of k))) (beq (is_documented (operation_of (entry_of k))) false)) 256 (true_T _ table_undocumented) opcode h)
marked_by opcode (inr h) = rw (past opcode h) marked_past

marked : (opcode : ℕ) → Marked (entry_of opcode)
marked opcode = marked_by opcode (lt_or_le opcode 256)

-- ---- an instruction whose opcode is read

pub documented_regular : (opcode : ℕ) (c : Cpu) → is_documented (operation_of (entry_of opcode)) ≡ true → Regular c.over (instruction_of (entry_of opcode) c)
unfolding instruction_of
documented_regular opcode c d =
    let e = entry_of opcode in
    let k : is_undocumented_mode (mode_of e) ≡ false = marked opcode ∙ ap (λ (b : Bool). beq b false) d in
    then_regular c.over (locate (is_jsr e) (mode_of e) c) _ (locate_finds (is_jsr e) (mode_of e) c k)
    (λ (t : Effective). execute_regular (operation_of e) t (cycles_of e) (set_pc (ahead c.pc (length_of e)) c) d (few opcode))

rejects : (own : Bool) (m : Mode) (c : Cpu) (g : Effective → Instruction) → is_undocumented_mode m ≡ true → and_then (locate own m c) g ≡ rejected
unfolding is_undocumented_mode locate and_then
rejects own mode.Implied c g h = absurd (true≢false (sym h))
rejects own mode.Accumulator c g h = absurd (true≢false (sym h))
rejects own mode.Immediate c g h = absurd (true≢false (sym h))
rejects own mode.ZeroPage c g h = absurd (true≢false (sym h))
rejects own mode.ZeroPageX c g h = absurd (true≢false (sym h))
rejects own mode.ZeroPageY c g h = absurd (true≢false (sym h))
rejects own mode.Absolute c g h = absurd (true≢false (sym h))
rejects own mode.AbsoluteX c g h = absurd (true≢false (sym h))
rejects own mode.AbsoluteY c g h = absurd (true≢false (sym h))
rejects own mode.AbsoluteIndirect c g h = absurd (true≢false (sym h))
rejects own mode.IndexedIndirect c g h = absurd (true≢false (sym h))
rejects own mode.IndirectIndexed c g h = absurd (true≢false (sym h))
rejects own mode.Relative c g h = absurd (true≢false (sym h))
rejects own mode.Undocumented c g h = refl

pub undocumented_rejected : (opcode : ℕ) (c : Cpu) → is_documented (operation_of (entry_of opcode)) ≡ false → instruction_of (entry_of opcode) c ≡ rejected
unfolding instruction_of
undocumented_rejected opcode c d =
    let e = entry_of opcode in
    let k : is_undocumented_mode (mode_of e) ≡ true = marked opcode ∙ ap (λ (b : Bool). beq b false) d in
    rejects (is_jsr e) (mode_of e) c _ k
