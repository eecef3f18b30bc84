-- The steps of a firmware run: power up, an event, the interrupt before an instruction (document 02, Wish 5).
use Rattle.std.specs.Prelude.{ℕ, Bool, false, not, List, eqb, get_or}
use Rattle.bits.specs.Byte.{pick}
use Rattle.events.specs.Word.{decode}
use Rattle.chip.specs.declared.Chip.{Chip}
use Rattle.chip.specs.State.{requests}
use Rattle.chip_reads.specs.Reads.{reading}
use Rattle.chip_reads.specs.declared.Reading.{Reading}
use Rattle.chip_events.specs.Outcome.{was_reset}
use Rattle.step.specs.declared.Stepped.{Stepped}
use Rattle.step.specs.Step.{advance}
use Rattle.cpu_arithmetic.specs.declared.Flags.{Flags}
use Rattle.cpu_operations.specs.declared.Cpu.{Cpu}
use Rattle.cpu_memory.specs.declared.Place.{Place}
use Rattle.cpu_memory.specs.declared.Place.TheVariants as at
use Rattle.cpu_instruction.specs.Instruction.{reset_cpu}
use Rattle.firmware_machine.specs.Machine.{Machine, machine, after_interrupt}
use Rattle.firmware_steps.specs.declared.Given.{Given}
use Rattle.firmware_steps.specs.declared.Interrupted.{Interrupted}

-- ---- power up

abbrev pub no_flags : Flags
no_flags = record { n = false; v = false; d = false; i = false; z = false; c = false }

-- A, X, Y and cycles over are 0, S is FF; then a reset, which sets I and loads PC from FFFC
unfoldable pub power_up : List ℕ → Cpu
power_up rom = reset_cpu rom (record { a = 0; x = 0; y = 0; s = 255; p = no_flags; pc = 0; over = 0 })

-- ---- an event

abbrev pub given_with : Cpu → Stepped → Given
given_with c s = record { cpu = c; chip = s.chip; answer = s.answer }

-- CPU and chip after a word, as `occurred` leaves them, and the answer
unfoldable pub given_by : List ℕ → Cpu → Chip → ℕ → Given
given_by rom c k w = given_with (pick (was_reset k (decode w)) (reset_cpu rom c) c) (advance k (decode w))

-- ---- before an instruction

-- an interrupt is due: RESET is high, a request stands and I is clear
unfoldable pub is_due : Cpu → Chip → Bool
is_due c k = pick k.core.reset (pick (eqb (requests k) 0) false (not c.p.i)) false

-- the machine behind the interrupt, where one is due
unfoldable pub before_instruction : List ℕ → Machine → Machine
before_instruction rom m = pick m.chip.core.reset (after_interrupt rom m) m

-- its CPU and chip, and whether an interrupt was taken
abbrev pub interrupted_with : Machine → Bool → Interrupted
interrupted_with m b = record { cpu = m.cpu; chip = m.chip; taken = b }

abbrev pub interrupted_by : List ℕ → List ℕ → Cpu → Chip → Interrupted
interrupted_by rom ram c k = interrupted_with (before_instruction rom (machine c ram k)) (is_due c k)

-- ---- number and byte of a read of the CPU, of a register as the chip gives them

abbrev pub load_number : Chip → Place → ℕ
load_number k (at.Register r) = (reading k r).number
load_number k (at.Ram i) = 0
load_number k (at.Rom i) = 0
load_number k at.Unmapped = 21

abbrev pub load_byte : List ℕ → Chip → List ℕ → Place → ℕ
load_byte ram k rom (at.Register r) = (reading k r).byte
load_byte ram k rom (at.Ram i) = get_or ram i 0
load_byte ram k rom (at.Rom i) = get_or rom i 0
load_byte ram k rom at.Unmapped = 0
