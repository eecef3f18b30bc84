-- An event given: what the code makes, part by part, and that it is what `occurred` leaves.
-- Assumes nothing.
use Prim.Native.Nat.{ℕ}
use mathlib.Core.Path.{◌≡◌, refl, ap, ap₂, sym, ◌∙◌}
use mathlib.Core.Bool.{Bool}
use mathlib.Core.List.{List}
use Rattle.bits.specs.Byte.{pick}
use Rattle.events.specs.Decoded.{Decoded}
use Rattle.events.specs.Word.{decode}
use Rattle.chip.specs.declared.Chip.{Chip}
use Rattle.chip_events.specs.Outcome.{was_reset}
use Rattle.step.specs.declared.Stepped.{Stepped}
use Rattle.step.specs.Step.{advance, answered}
use Rattle.cpu_operations.specs.declared.Cpu.{Cpu}
use Rattle.cpu_instruction.specs.Instruction.{reset_cpu}
use Rattle.firmware_machine.specs.Machine.{Machine, machine}
use Rattle.firmware_machine.specs.Run.{occurred}
use Rattle.firmware_steps.specs.Steps.{given_with, given_by}

pub gives : (b : Bool) (rom : List ℕ) (c : Cpu) (k : Chip) (w : ℕ) (e : Decoded) → e ≡ decode w → (t : Bool) → t ≡ was_reset k e → t ≡ b
    → (d : Cpu) → d ≡ pick b (reset_cpu rom c) c → (s : Stepped) → s ≡ advance k e → given_with d s ≡ given_by rom c k w
unfolding given_by
gives b rom c k w e he t ht hb d hd s hs =
    let q : b ≡ was_reset k (decode w) = sym hb ∙ ht ∙ ap (was_reset k) he in
    ap₂ given_with (hd ∙ ap (λ (x : Bool). pick x (reset_cpu rom c) c) q) (hs ∙ ap (advance k) he)

-- CPU, RAM and chip as a word leaves them in a run, and its answer there
pub given_occurred : (rom ram : List ℕ) (c : Cpu) (k : Chip) (w : ℕ) → machine (given_by rom c k w).cpu ram (given_by rom c k w).chip ≡ occurred rom (machine c ram k) w
unfolding given_by occurred advance
given_occurred rom ram c k w = refl

pub given_answer : (rom : List ℕ) (c : Cpu) (k : Chip) (w : ℕ) → (given_by rom c k w).answer ≡ answered k (decode w)
unfolding given_by advance
given_answer rom c k w = refl
