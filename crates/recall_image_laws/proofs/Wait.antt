-- The wait of images/recall.rom: LDA #55, STA 12 (the watchdog), LDA 80, BEQ wait, on a quiet chip with nothing noted and P00 low.
use Prim.Native.Nat.{ℕ, ◌+◌, ◌%◌}
use mathlib.Core.Path.{◌≡◌, refl, ap, sym, ◌∙◌, subst}
use mathlib.Core.Bool.{Bool, true, false}
use mathlib.Core.List.{List, [], ◌∷◌}
use lib.Dec.{ltb}
use lib.ListN.{get_or}
use Rattle.bits.specs.Byte.{pick, bit}
use Rattle.registers.specs.Names.{CLRWDT}
use Rattle.std.specs.Prelude.{Ok}
use Rattle.events.specs.declared.Event.TheVariants.{Write, Clock}
use Rattle.chip.specs.declared.Chip.{Chip}
use Rattle.chip_events.specs.Outcome.{next}
use Rattle.isolation_laws.specs.Foreign.{compared_state}
use Rattle.cpu_operations.specs.declared.Cpu.{Cpu}
use Rattle.cpu_operations.specs.Operations.{flags}
use Rattle.firmware_machine.specs.Machine.{Machine, machine, instruct}
use Rattle.firmware_machine.specs.Run.{runs}
use Rattle.firmware_isolation_laws.specs.Trace.{instruction_accesses}
use Rattle.recall_laws.specs.Wait.{is_uninterrupted, holds_at}
use Rattle.recall_laws.proofs.Forever.{TurnStays}
use Rattle.recall_laws.proofs.Quiet.{Quiet, quiet, quiet_registers, silence, quiet_of, quiet_after, quiet_cleared, quiet_turn, quiet_accesses}
use Rattle.recall_image_laws.specs.Image.{rom, waiting, is_waiting}
use Rattle.recall_image_laws.specs.Lists.{stored}
use Rattle.recall_image_laws.proofs.Opened.{image}
use Rattle.recall_image_laws.proofs.Stored.{end_cpu, end_cpu_lem, end_quiet, end_noted, end_latch}

pub data InWait : Machine → Type 0 where
  at_constant : (a x y s over : ℕ) (n v d z c : Bool) (ram rs : List ℕ) (k : Chip) → Quiet rs k → get_or ram 0 0 ≡ 0 → bit 0 (get_or rs 0 0) ≡ false
      → InWait (machine (record { a = a; x = x; y = y; s = s; p = flags n v d false z c; pc = 0xA01A; over = over }) ram k)
  at_store : (x y s over : ℕ) (n v d z c : Bool) (ram rs : List ℕ) (k : Chip) → Quiet rs k → get_or ram 0 0 ≡ 0 → bit 0 (get_or rs 0 0) ≡ false
      → InWait (machine (record { a = 0x55; x = x; y = y; s = s; p = flags n v d false z c; pc = 0xA01C; over = over }) ram k)
  at_load : (a x y s over : ℕ) (n v d z c : Bool) (ram rs : List ℕ) (k : Chip) → Quiet rs k → get_or ram 0 0 ≡ 0 → bit 0 (get_or rs 0 0) ≡ false
      → InWait (machine (record { a = a; x = x; y = y; s = s; p = flags n v d false z c; pc = 0xA01E; over = over }) ram k)
  at_branch : (a x y s over : ℕ) (n v d c : Bool) (ram rs : List ℕ) (k : Chip) → Quiet rs k → get_or ram 0 0 ≡ 0 → bit 0 (get_or rs 0 0) ≡ false
      → InWait (machine (record { a = a; x = x; y = y; s = s; p = flags n v d false true c; pc = 0xA020; over = over }) ram k)

-- an instruction of it leads to the next one
instructs : (m : Machine) → InWait m → ((instruct rom m).number ≡ 0) × (is_uninterrupted (instruction_accesses rom m) ≡ true) × InWait (instruct rom m).machine
unfolding image
instructs _ (at_constant a x y s over n v d z c ram rs k q h g) =
    (refl, refl, at_store x y s ((over + 2) % 32) false v d false c ram rs (pick (ltb (over + 2) 32) k (next k (Ok (Clock 0)))) (quiet_after k q (ltb (over + 2) 32)) h g)
instructs _ (at_store x y s over n v d z c ram rs k (quiet irqx mdcon polarity bt watchdog sync bus pins sda scl e) h g) =
    let k' = next k (Ok (Write CLRWDT 0x55)) in
    let q = quiet_cleared k (quiet irqx mdcon polarity bt watchdog sync bus pins sda scl e) in
    (refl, refl, at_load 0x55 x y s ((over + 3) % 32) n v d z c ram rs (pick (ltb (over + 3) 32) k' (next k' (Ok (Clock 0)))) (quiet_after k' q (ltb (over + 3) 32)) h g)
instructs _ (at_load a x y s over n v d z c ram rs k q h g) =
    rw h (refl, refl, at_branch 0 x y s ((over + 3) % 32) false v d c ram rs (pick (ltb (over + 3) 32) k (next k (Ok (Clock 0)))) (quiet_after k q (ltb (over + 3) 32)) h g)
instructs _ (at_branch a x y s over n v d c ram rs k q h g) =
    (refl, refl, at_constant a x y s ((over + 3) % 32) n v d true c ram rs (pick (ltb (over + 3) 32) k (next k (Ok (Clock 0)))) (quiet_after k q (ltb (over + 3) 32)) h g)

turn_by : (c : Cpu) (ram rs : List ℕ) (k : Chip) → Quiet rs k → InWait (machine c ram k) → TurnStays InWait rom (machine c ram k)
turn_by c ram rs k q w =
    let z = instructs (machine c ram k) w in
    record {
      number = rw (quiet_turn rom c ram k q) z.0;
      accesses = rw (quiet_accesses rom c ram k q) z.1;
      machine = rw (quiet_turn rom c ram k q) z.2;
    }

pub turns : (m : Machine) → InWait m → TurnStays InWait rom m
turns _ (at_constant a x y s over n v d z c ram rs k q h g) = turn_by _ ram rs k q (at_constant a x y s over n v d z c ram rs k q h g)
turns _ (at_store x y s over n v d z c ram rs k q h g) = turn_by _ ram rs k q (at_store x y s over n v d z c ram rs k q h g)
turns _ (at_load a x y s over n v d z c ram rs k q h g) = turn_by _ ram rs k q (at_load a x y s over n v d z c ram rs k q h g)
turns _ (at_branch a x y s over n v d c ram rs k q h g) = turn_by _ ram rs k q (at_branch a x y s over n v d c ram rs k q h g)

pub test_holds : (m : Machine) → InWait m → holds_at is_waiting m ≡ true
test_holds _ (at_constant a x y s over n v d z c ram rs k q h g) = rw (quiet_registers k q, h, g)
test_holds _ (at_store x y s over n v d z c ram rs k q h g) = rw (quiet_registers k q, h, g)
test_holds _ (at_load a x y s over n v d z c ram rs k q h g) = rw (quiet_registers k q, h, g)
test_holds _ (at_branch a x y s over n v d c ram rs k q h g) = rw (quiet_registers k q, h, g)

-- the end of the stored run is in it, and so is that of every run that agrees
pub reached : (m : Machine) → (runs 2138 15 rom stored waiting).machine.cpu ≡ m.cpu → (runs 2138 15 rom stored waiting).machine.ram ≡ m.ram
    → compared_state (runs 2138 15 rom stored waiting).machine.chip ≡ compared_state m.chip → InWait m
reached m c r k =
    subst (λ (x : Cpu). InWait (machine x m.ram m.chip)) (sym end_cpu_lem ∙ c)
    (at_load 0x55 0xFF 0 0xFF 0x1A false false false false false m.ram m.chip.registers m.chip (quiet_of m.chip (sym (ap silence k) ∙ end_quiet))
    (ap (λ (l : List ℕ). get_or l 0 0) (sym r) ∙ end_noted) (ap (λ (x : Chip). bit 0 (get_or x.registers 0 0)) (sym k) ∙ end_latch))
