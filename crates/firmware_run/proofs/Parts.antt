-- An event, from what the functions that give it come to.
use Prim.Native.Nat.{ℕ}
use mathlib.Core.Path.{◌≡◌, refl}
use mathlib.Core.Bool.{Bool}
use mathlib.Core.List.{List}
use Rattle.bits.specs.Byte.{pick}
use Rattle.events.specs.Decoded.{Decoded}
use Rattle.events.specs.Word.{decode}
use Rattle.chip.specs.declared.Core.{Core}
use Rattle.chip.specs.State.{chip_of}
use Rattle.chip_events.specs.Outcome.{next, was_reset}
use Rattle.step.specs.declared.CoreStepped.{CoreStepped}
use Rattle.step.specs.Step.{advance, core_of}
use Rattle.cpu_operations.specs.declared.Cpu.{Cpu}
use Rattle.cpu_instruction.specs.Instruction.{reset_cpu}
use Rattle.firmware_run.specs.declared.Occurred.{Occurred}
use Rattle.cpu_register_cache.specs.Cache.{seen_after_event}
use Rattle.firmware_run.specs.Firmware.{occurred_with}

abbrev pub occurred_as : Cpu → Core → ℕ → Occurred
occurred_as q core a = record { cpu = q; core = core; answer = a }

pub occurs : (t : Bool) (rom : List ℕ) (c q : Cpu) (registers : List ℕ) (core : Core) (w : ℕ) (e : Decoded) → e ≡ decode w
    → (b : Bool) → b ≡ was_reset (chip_of registers core) e → b ≡ t → q ≡ pick t (reset_cpu rom c) c
    → (d : CoreStepped) → d ≡ core_of (advance (chip_of registers core) e) → (r : List ℕ) → r ≡ (advance (chip_of registers core) e).chip.registers
    → (seen s' : List ℕ) → s' ≡ seen_after_event seen e
    → (occurred_as q d.core d.answer ≡ occurred_with rom c (chip_of registers core) w) × (r ≡ (next (chip_of registers core) (decode w)).registers) × (s' ≡ seen_after_event seen (decode w))
unfolding occurred_with advance
occurs t rom c q registers core w e p b s u v d x r y seen s' z = rw (v, x, y, z, ← p, ← s, u) (refl, refl, refl)
