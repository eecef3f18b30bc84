-- The rules of the table, each one test over all 256 opcodes.
use Prim.Native.Nat.{ℕ, ◌<◌}
use mathlib.Core.Path.{◌≡◌, refl}
use mathlib.Core.Bool.{Bool, true, false, ◌||◌, beq}
use lib.Dec.{T, eqb, ltb, eqb→eq, ltb→lt}
use Rattle.bits.specs.Finite.{all_below}
use Rattle.bits.proofs.Finite.{at_each, beq_eq}
use Rattle.cpu_opcodes.specs.declared.Operation.{Operation}
use Rattle.cpu_opcodes.specs.declared.Operation.TheVariants.{Read, Store, Modify, ModifyA, Implied, Branch, Jmp, Jsr, Rts, Rti, Brk, Pha, Php, Pla, Plp, Undocumented}
use Rattle.cpu_opcodes.specs.declared.Mode.TheVariants as mode
use Rattle.cpu_opcodes.specs.Table.{opcodes}
use Rattle.cpu_opcodes.specs.Opcodes.{operations, operation_numbered, modes, mode_numbered, operation_of, mode_of, length_of, cycles_of, is_jsr, entry_of, mode_length, is_documented}
use Rattle.cpu_opcodes.specs.Rules.{count_below, is_undocumented_mode, operand_of, operand_by}

-- ---- the length follows from the addressing mode

has_mode_length : ℕ → Bool
has_mode_length k = eqb (length_of (entry_of k)) (mode_length (mode_of (entry_of k)))

lengths : T (all_below has_mode_length 256)
unfolding has_mode_length opcodes modes mode_numbered mode_of length_of entry_of mode_length
lengths = tt

pub length_by_mode : (opcode : ℕ) → opcode < 256 → length_of (entry_of opcode) ≡ mode_length (mode_of (entry_of opcode))
unfolding has_mode_length
length_by_mode opcode h = eqb→eq _ _ (at_each has_mode_length 256 lengths opcode h)

-- ---- 151 opcodes are documented

pub documented : count_below (λ (k : ℕ). is_documented (operation_of (entry_of k))) 256 ≡ 151
unfolding opcodes operations operation_numbered operation_of entry_of
documented = refl

-- those that are not have a mode of their own, the length 0 and no cycles, and no other has that mode
pub undocumented : all_below (λ (k : ℕ). beq (is_undocumented_mode (mode_of (entry_of k))) (beq (is_documented (operation_of (entry_of k))) false)) 256 ≡ true
unfolding opcodes operations operation_numbered operation_of modes mode_numbered mode_of entry_of is_undocumented_mode
undocumented = refl

pub no_cycles : all_below (λ (k : ℕ). is_documented (operation_of (entry_of k)) || eqb (cycles_of (entry_of k)) 0) 256 ≡ true
unfolding opcodes operations operation_numbered operation_of cycles_of entry_of
no_cycles = refl

-- ---- the operation says what kind of operand there is, and the mode is of that kind

-- so a mode is Implied, Accumulator or Relative exactly where the operation takes no operand, is one of A, is a branch
pub mode_fits : all_below (λ (k : ℕ). eqb (operand_by (mode_of (entry_of k))) (operand_of (operation_of (entry_of k)))) 256 ≡ true
unfolding opcodes operations operation_numbered operation_of modes mode_numbered mode_of entry_of operand_of operand_by
mode_fits = refl

-- ---- base cycles are at most seven

has_few_cycles : ℕ → Bool
has_few_cycles k = ltb (cycles_of (entry_of k)) 8

few : T (all_below has_few_cycles 256)
unfolding has_few_cycles opcodes cycles_of entry_of
few = tt

pub cycles_at_most_seven : (opcode : ℕ) → opcode < 256 → cycles_of (entry_of opcode) < 8
unfolding has_few_cycles
cycles_at_most_seven opcode h = ltb→lt _ _ (at_each has_few_cycles 256 few opcode h)

-- ---- the test for JSR finds JSR and nothing else

unfoldable pub is_jsr_operation : Operation → Bool
is_jsr_operation (Read o) = false
is_jsr_operation (Store o) = false
is_jsr_operation (Modify o) = false
is_jsr_operation (ModifyA o) = false
is_jsr_operation (Implied o) = false
is_jsr_operation (Branch o) = false
is_jsr_operation Jmp = false
is_jsr_operation Jsr = true
is_jsr_operation Rts = false
is_jsr_operation Rti = false
is_jsr_operation Brk = false
is_jsr_operation Pha = false
is_jsr_operation Php = false
is_jsr_operation Pla = false
is_jsr_operation Plp = false
is_jsr_operation Undocumented = false

pub jsr : all_below (λ (k : ℕ). beq (is_jsr (entry_of k)) (is_jsr_operation (operation_of (entry_of k)))) 256 ≡ true
unfolding opcodes operations operation_numbered operation_of is_jsr entry_of is_jsr_operation
jsr = refl

-- JSR is one opcode, 20, and its mode is absolute: there it is asked whether an instruction fetches its operand itself
pub jsr_one : count_below (λ (k : ℕ). is_jsr (entry_of k)) 256 ≡ 1
unfolding opcodes is_jsr entry_of
jsr_one = refl

pub jsr_absolute : (is_jsr (entry_of 0x20) ≡ true) × (mode_of (entry_of 0x20) ≡ mode.Absolute)
unfolding opcodes modes mode_numbered mode_of is_jsr entry_of
jsr_absolute = (refl, refl)
