-- What is computed of images/recall.rom: the fifteen instructions before its wait, and its stored run of 2138 more.
use Prim.Native.Nat.{ℕ}
use mathlib.Core.Path.{◌≡◌, refl, ap}
use mathlib.Core.Bool.{Bool, true, false}
use mathlib.Core.List.{List, [], ◌∷◌}
use lib.ListN.{get_or}
use Rattle.bits.specs.Byte.{bit}
use Rattle.bus.specs.declared.Mode.TheVariants.{Ddc2b}
use Rattle.chip.specs.State.{mode_of}
use Rattle.chip_well_formed.specs.WellFormed.{well_formed}
use Rattle.isolation_laws.specs.Foreign.{none, observer_of, Begun, bus_idle}
use Rattle.cpu_operations.specs.declared.Cpu.{Cpu}
use Rattle.cpu_operations.specs.Operations.{flags}
use Rattle.firmware_machine.specs.Run.{runs, Ended}
use Rattle.firmware_isolation_laws.specs.Words.{lists_no_data}
use Rattle.recall_laws.specs.Host.{changes}
use Rattle.recall_laws.specs.Wait.{power_up, holds_at}
use Rattle.recall_laws.proofs.Stored.{Boots, Stored, begins_at}
use Rattle.recall_laws.proofs.Computed.{happens, traced, stored_by_lem}
use Rattle.recall_laws.proofs.Quiet.{silence}
use Rattle.recall_image_laws.specs.Image.{rom, waiting, is_waiting}
use Rattle.recall_image_laws.specs.Lists.{stored, heard, foreign_events}
use Rattle.recall_image_laws.proofs.Opened.{image}

-- ---- the stored list

-- without the levels of SDA that change nothing it is images/recall-foreign.events
pub stored_is_file : changes true stored ≡ foreign_events
unfolding image
stored_is_file = refl

pub begins : begins_at 15 stored ≡ true
unfolding image
begins = refl

pub reads_no_data : lists_no_data stored ≡ true
unfolding image
reads_no_data = refl

-- ---- before the wait

pub boots : Boots 15 rom (power_up rom)
unfolding image
boots = record { unrefused = refl; uninterrupted = refl }

chip_ready : (well_formed waiting.chip ≡ true) × (mode_of waiting.chip.core ≡ Ddc2b) × Begun waiting.chip.core.bus.phase none
unfolding image
chip_ready = (refl, refl, bus_idle)

-- ---- the stored run: what happens in it, and how it ends

stored_happens : happens (observer_of waiting.chip none) (traced 2138 15 rom stored waiting) ≡ (true, stored, true, true)
unfolding image
stored_happens = refl

-- number, the test, the CPU, whether the chip is quiet, the byte at 0080, P00's latch, and the answers
abbrev how_it_ends : Ended → ℕ × Bool × Cpu × (Bool × Bool) × ℕ × Bool × List ℕ
how_it_ends e =
    (e.number, holds_at is_waiting e.machine, e.machine.cpu, silence e.machine.chip, get_or e.machine.ram 0 0, bit 0 (get_or e.machine.chip.registers 0 0), e.answers)

abbrev pub end_cpu : Cpu
end_cpu = record { a = 0x55; x = 0xFF; y = 0; s = 0xFF; p = flags false false false false false false; pc = 0xA01E; over = 0x1A }

stored_ends : how_it_ends (runs 2138 15 rom stored waiting) ≡ (0, true, end_cpu, (true, true), 0, false, heard)
unfolding image
stored_ends = refl

pub stored_run : Stored is_waiting 2138 15 rom stored waiting
stored_run =
    stored_by_lem 2138 15 rom stored waiting chip_ready stored_happens (ap (λ (x : ℕ × Bool × Cpu × (Bool × Bool) × ℕ × Bool × List ℕ). x.0) stored_ends)
    (ap (λ (x : ℕ × Bool × Cpu × (Bool × Bool) × ℕ × Bool × List ℕ). x.1) stored_ends)

pub end_cpu_lem : (runs 2138 15 rom stored waiting).machine.cpu ≡ end_cpu
end_cpu_lem = ap (λ (x : ℕ × Bool × Cpu × (Bool × Bool) × ℕ × Bool × List ℕ). x.2) stored_ends

pub end_quiet : silence (runs 2138 15 rom stored waiting).machine.chip ≡ (true, true)
end_quiet = ap (λ (x : ℕ × Bool × Cpu × (Bool × Bool) × ℕ × Bool × List ℕ). x.3) stored_ends

pub end_noted : get_or (runs 2138 15 rom stored waiting).machine.ram 0 0 ≡ 0
end_noted = ap (λ (x : ℕ × Bool × Cpu × (Bool × Bool) × ℕ × Bool × List ℕ). x.4) stored_ends

pub end_latch : bit 0 (get_or (runs 2138 15 rom stored waiting).machine.chip.registers 0 0) ≡ false
end_latch = ap (λ (x : ℕ × Bool × Cpu × (Bool × Bool) × ℕ × Bool × List ℕ). x.5) stored_ends

pub end_answers : (runs 2138 15 rom stored waiting).answers ≡ heard
end_answers = ap (λ (x : ℕ × Bool × Cpu × (Bool × Bool) × ℕ × Bool × List ℕ). x.6) stored_ends
