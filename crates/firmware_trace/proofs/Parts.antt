-- What the code makes, part by part, is what the definitions say.
-- Assumes nothing.
use Rattle.std.proofs.Common.{◌≡◌, ℕ, ◌+◌, ◌%◌, ◌^◌, List, ap, ◌∙◌, ap₂}
use Rattle.cpu_memory.specs.declared.Loaded.{Loaded}
use Rattle.firmware_machine.specs.Machine.{machine, load}
use Rattle.firmware_run.specs.declared.FirmwareResult.{FirmwareResult}
use Rattle.firmware_steps.specs.declared.Given.{Given}
use Rattle.firmware_steps.specs.declared.Interrupted.{Interrupted}
use Rattle.firmware_steps.specs.Steps.{interrupted_by, before_instruction}
use Rattle.firmware_trace.specs.declared.Run.{Run}
use Rattle.firmware_trace.specs.declared.Fetched.{Fetched}
use Rattle.firmware_trace.specs.Trace.{result_at, with_result, given_at, with_given, fetched}

pub counts : (r : Run) (x y : FirmwareResult) → x ≡ y → (n : ℕ) → n ≡ (r.next + x.counted) % 2 ^ 32 → result_at n r x ≡ with_result r y
counts r x y h n g = ap₂ (λ (n : ℕ) (x : FirmwareResult). result_at n r x) (g ∙ ap (λ (x : FirmwareResult). (r.next + x.counted) % 2 ^ 32) h) h

pub gives : (r : Run) (x y : Given) → x ≡ y → (n : ℕ) → n ≡ (r.given + 1) % 2 ^ 64 → given_at n r x ≡ with_given r y
gives r x y h n g = ap₂ (λ (n : ℕ) (x : Given). given_at n r x) g h

abbrev shown : Interrupted → Loaded → Fetched
shown b o = record { cpu = b.cpu; taken = b.taken; high = b.chip.core.reset; opcode = o }

pub fetches : (rom ram : List ℕ) (r : Run) (b : Interrupted) → b ≡ interrupted_by rom ram r.cpu r.chip
    → (s : List ℕ) → s ≡ (before_instruction rom (machine r.cpu ram r.chip)).ram
    → (o : Loaded) → o ≡ load s b.chip rom b.cpu.pc → shown b o ≡ fetched rom ram r
fetches rom ram r b hb s hs o ho =
    ap₂ shown hb (ho ∙ ap₂ (λ (s : List ℕ) (b : Interrupted). load s b.chip rom b.cpu.pc) hs hb)
