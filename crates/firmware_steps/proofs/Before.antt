-- What comes before an instruction: an interrupt, where one is due, and the turn from behind it.
-- Assumes nothing.
use Prim.Native.Nat.{ℕ, ◌/◌, ◌%◌}
use mathlib.Core.Path.{◌≡◌, refl, ap, ap₂, sym, ◌∙◌}
use mathlib.Core.Bool.{Bool, true, false, not, true≢false}
use mathlib.Core.List.{List}
use lib.Dec.{eqb}
use lib.ListN.{set}
use Rattle.bits.specs.Byte.{pick}
use Rattle.chip.specs.declared.Chip.{Chip}
use Rattle.chip.specs.State.{requests}
use Rattle.cpu_operations.specs.declared.Cpu.{Cpu}
use Rattle.cpu_operations.specs.Operations.{is_clear, pushed_p}
use Rattle.cpu_memory.specs.Memory.{stack_place, below}
use Rattle.cpu_instruction.specs.declared.Effect.{Effect}
use Rattle.cpu_instruction.specs.Instruction.{interrupted}
use Rattle.cpu_execution.specs.Execution.{stored}
use Rattle.cpu_step.specs.InstructionTurn.{cycles_with, counted, is_interrupted}
use Rattle.firmware_machine.specs.Machine.{Machine, machine, clock_after, is_requesting, interrupt_taken, after_interrupt, turn}
use Rattle.firmware_machine.proofs.Interrupts.{interrupt_is, interrupt_turn}
use Rattle.firmware_steps.specs.Steps.{is_due, before_instruction, interrupted_with, interrupted_by}

-- ---- when it is due

clear_is : (b : Bool) → not b ≡ is_clear b
clear_is true = refl
clear_is false = refl

due_by : (q : Bool) (c : Cpu) → pick q false (not c.p.i) ≡ is_interrupted (not q) c
due_by true c = refl
due_by false c = clear_is c.p.i

-- as `turn` asks for it
pub due_is : (c : Cpu) (k : Chip) → is_due c k ≡ pick k.core.reset (is_interrupted (is_requesting k) c) false
unfolding is_due is_requesting
due_is c k = ap (λ (b : Bool). pick k.core.reset b false) (due_by (eqb (requests k) 0) c)

-- ---- what it leaves

taken_by : (r q : Bool) (x m : Machine) → pick r q false ≡ true → pick r (pick q x m) m ≡ x
taken_by true true x m h = refl
taken_by true false x m h = absurd (true≢false (sym h))
taken_by false q x m h = absurd (true≢false (sym h))

left_by : (r q : Bool) (x m : Machine) → pick r q false ≡ false → pick r (pick q x m) m ≡ m
left_by true true x m h = absurd (true≢false h)
left_by true false x m h = refl
left_by false q x m h = refl

module _ (rom ram : List ℕ) (c : Cpu) (k : Chip) where
  pub before_taken : is_due c k ≡ true
      → before_instruction rom (machine c ram k) ≡ machine (counted (interrupted rom c)) (stored ram (interrupted rom c).store) (clock_after (cycles_with (interrupted rom c)) k)
  unfolding before_instruction after_interrupt
  before_taken h =
      taken_by k.core.reset (is_interrupted (is_requesting k) c) (interrupt_taken rom (machine c ram k)) (machine c ram k) (sym (due_is c k) ∙ h)
      ∙ interrupt_is rom c ram k

  pub before_left : is_due c k ≡ false → before_instruction rom (machine c ram k) ≡ machine c ram k
  unfolding before_instruction after_interrupt
  before_left h =
      left_by k.core.reset (is_interrupted (is_requesting k) c) (interrupt_taken rom (machine c ram k)) (machine c ram k) (sym (due_is c k) ∙ h)

  -- the same as CPU, chip and RAM
  pub takes : is_due c k ≡ true
      → (interrupted_with (machine (counted (interrupted rom c)) ram (clock_after (cycles_with (interrupted rom c)) k)) true ≡ interrupted_by rom ram c k)
      × (stored ram (interrupted rom c).store ≡ (before_instruction rom (machine c ram k)).ram)
  takes h = (ap₂ interrupted_with (sym (before_taken h)) (sym h), ap (λ (m : Machine). m.ram) (sym (before_taken h)))

  pub leaves : is_due c k ≡ false → (interrupted_with (machine c ram k) false ≡ interrupted_by rom ram c k) × (ram ≡ (before_instruction rom (machine c ram k)).ram)
  leaves h = (ap₂ interrupted_with (sym (before_left h)) (sym h), ap (λ (m : Machine). m.ram) (sym (before_left h)))

-- the same of what the code makes, part by part
pub enters : (rom ram : List ℕ) (c : Cpu) (k : Chip) → is_due c k ≡ true
    → (e : Effect) → e ≡ interrupted rom c → (d : Cpu) → d ≡ counted e → (l : Chip) → l ≡ clock_after (cycles_with e) k
    → (r₁ : List ℕ) → r₁ ≡ set ram (stack_place c.s) (c.pc / 256)
    → (s₁ : ℕ) → s₁ ≡ below c.s → (r₂ : List ℕ) → r₂ ≡ set r₁ (stack_place s₁) (c.pc % 256)
    → (s₂ : ℕ) → s₂ ≡ below c.s → (s₃ : ℕ) → s₃ ≡ below s₂ → (p : ℕ) → p ≡ pushed_p c.p false → (r₃ : List ℕ) → r₃ ≡ set r₂ (stack_place s₃) p
    → (interrupted_with (machine d ram l) true ≡ interrupted_by rom ram c k) × (r₃ ≡ (before_instruction rom (machine c ram k)).ram)
unfolding interrupted stored
enters rom ram c k h e he d hd l hl r₁ h₁ s₁ g₁ r₂ h₂ s₂ g₂ s₃ g₃ p hp r₃ h₃ =
    let x = takes rom ram c k h in
    let y : r₃ ≡ stored ram (interrupted rom c).store = simp (h₃, hp, g₃, g₂, h₂, g₁, h₁) in (
      ap₂ (λ (d : Cpu) (l : Chip). interrupted_with (machine d ram l) true) (hd ∙ ap counted he) (hl ∙ ap (λ (e : Effect). clock_after (cycles_with e) k) he) ∙ x.0,
      y ∙ x.1,
    )

-- ---- the turn from behind it is the turn with it

turn_by : (rom ram : List ℕ) (c : Cpu) (k : Chip) (r q : Bool) → k.core.reset ≡ r → is_interrupted (is_requesting k) c ≡ q
    → turn rom (pick r (pick q (interrupt_taken rom (machine c ram k)) (machine c ram k)) (machine c ram k)) ≡ turn rom (machine c ram k)
turn_by rom ram c k true true h g = sym (interrupt_turn rom c ram k h g)
turn_by rom ram c k true false h g = refl
turn_by rom ram c k false q h g = refl

pub turn_before : (rom : List ℕ) (m : Machine) → turn rom (before_instruction rom m) ≡ turn rom m
unfolding before_instruction after_interrupt
turn_before rom m = turn_by rom m.ram m.cpu m.chip m.chip.core.reset (is_interrupted (is_requesting m.chip) m.cpu) refl refl
