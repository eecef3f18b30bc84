-- The short image stays in its wait through every transfer to another device, and is past it after one to the monitor.
use Prim.Native.Nat.{ℕ, ◌+◌, ◌%◌, ◌<◌}
use mathlib.Core.Path.{◌≡◌, refl, ap, sym, ◌∙◌, subst}
use mathlib.Core.Bool.{Bool, true, false, not, ◌&&◌}
use mathlib.Core.List.{List, [], ◌∷◌, ◌++◌}
use lib.Dec.{eqb, ltb}
use lib.ListN.{get_or}
use Rattle.bits.specs.Byte.{pick, bit}
use Rattle.std.specs.Prelude.{Ok}
use Rattle.events.specs.Word as word
use Rattle.events.specs.Word.{decode}
use Rattle.events.specs.declared.Event.TheVariants.{Clock}
use Rattle.bus_ddc2b.specs.Ddc2b.{matches}
use Rattle.bus.specs.declared.Mode.TheVariants.{Ddc2b}
use Rattle.chip.specs.declared.Chip.{Chip}
use Rattle.chip.specs.State.{mode_of}
use Rattle.chip_well_formed.specs.WellFormed.{well_formed}
use Rattle.chip_events.specs.Outcome.{next}
use Rattle.isolation_laws.specs.Foreign.{none, since, byte_of, observer_of, Observer, observe, permitted, untouched, Begun, bus_idle, compared_state}
use Rattle.cpu_operations.specs.declared.Cpu.{Cpu}
use Rattle.cpu_operations.specs.Operations.{flags}
use Rattle.firmware_machine.specs.Machine.{Machine, machine, instruct}
use Rattle.firmware_machine.specs.Run.{runs}
use Rattle.firmware_isolation_laws.specs.Trace.{trace, events_of, accesses_of, instruction_accesses}
use Rattle.firmware_isolation_laws.specs.Words.{is_unaddressed, keeps_address, is_foreign_list}
use Rattle.firmware_isolation_laws.proofs.Opened.{opened}
use Rattle.recall_laws.specs.Host.{sda}
use Rattle.recall_laws.specs.Wait.{power_up, Waits, Leaves, is_uninterrupted, holds_at}
use Rattle.recall_laws.specs.Short.{rom, waiting, is_waiting, has_picture, said, counting, transfer, stored, is_foreign}
use Rattle.recall_laws.proofs.Bytes.{Foreign, foreign_timed, observer, levels, one, byte, level_byte, refused}
use Rattle.recall_laws.proofs.Stored.{Boots, Stored, begins_at}
use Rattle.recall_laws.proofs.Forever.{TurnStays, stays_on}
use Rattle.recall_laws.proofs.Quiet.{Quiet, quiet, quiet_registers, silence, quiet_of, quiet_after, quiet_turn, quiet_accesses}

-- the image opened beside what a run goes through
unfoldable image : ℕ
unfolding opened power_up rom waiting said transfer stored is_foreign
image = 0

-- ---- what is computed: the instructions before the wait, and the stored run

boots : Boots 9 rom (power_up rom)
unfolding image
boots = record { unrefused = refl; uninterrupted = refl }

begins : begins_at 9 stored ≡ true
unfolding image
begins = refl

chip_ready : (well_formed waiting.chip ≡ true) × (mode_of waiting.chip.core ≡ Ddc2b) × Begun waiting.chip.core.bus.phase none
unfolding image
chip_ready = (refl, refl, bus_idle)

unaddressed : is_unaddressed (observer_of waiting.chip none) (trace 61 9 rom stored waiting) ≡ true
unfolding image
unaddressed = refl

given_all : events_of (trace 61 9 rom stored waiting) ≡ stored
unfolding image
given_all = refl

keeps_address_lem : keeps_address (trace 61 9 rom stored waiting) ≡ true
unfolding image
keeps_address_lem = refl

uninterrupted : is_uninterrupted (accesses_of (trace 61 9 rom stored waiting)) ≡ true
unfolding image
uninterrupted = refl

ends_waiting : ◌≡◌ {A = ℕ × Bool} ((runs 61 9 rom stored waiting).number, holds_at is_waiting (runs 61 9 rom stored waiting).machine) (0, true)
unfolding image
ends_waiting = refl

stored_run : Stored is_waiting 61 9 rom stored waiting
stored_run =
    record {
      well = chip_ready.0;
      ddc2b = chip_ready.1;
      idle = chip_ready.2;
      unaddressed = unaddressed;
      given_all = given_all;
      keeps_address_lem = keeps_address_lem;
      waits = record { unrefused = ap (λ (x : ℕ × Bool). x.0) ends_waiting; uninterrupted = uninterrupted; waiting = ap (λ (x : ℕ × Bool). x.1) ends_waiting };
    }

-- ---- the wait: LDA 80, BEQ wait, on a quiet chip with nothing noted and P00 low

data InWait : Machine → Type 0 where
  at_load : (a x y s over : ℕ) (n v d z c : Bool) (ram rs : List ℕ) (k : Chip) → Quiet rs k → get_or ram 0 0 ≡ 0 → bit 0 (get_or rs 0 0) ≡ false
      → InWait (machine (record { a = a; x = x; y = y; s = s; p = flags n v d false z c; pc = 0xA011; over = over }) ram k)
  at_branch : (a x y s over : ℕ) (n v d c : Bool) (ram rs : List ℕ) (k : Chip) → Quiet rs k → get_or ram 0 0 ≡ 0 → bit 0 (get_or rs 0 0) ≡ false
      → InWait (machine (record { a = a; x = x; y = y; s = s; p = flags n v d false true c; pc = 0xA013; over = over }) ram k)

instructs : (m : Machine) → InWait m → ((instruct rom m).number ≡ 0) × (is_uninterrupted (instruction_accesses rom m) ≡ true) × InWait (instruct rom m).machine
unfolding image
instructs _ (at_load a x y s over n v d z c ram rs k q h g) =
    rw h (refl, refl, at_branch 0 x y s ((over + 3) % 32) false v d c ram rs (pick (ltb (over + 3) 32) k (next k (Ok (Clock 0)))) (quiet_after k q (ltb (over + 3) 32)) h g)
instructs _ (at_branch a x y s over n v d c ram rs k q h g) =
    (refl, refl, at_load a x y s ((over + 3) % 32) n v d true c ram rs (pick (ltb (over + 3) 32) k (next k (Ok (Clock 0)))) (quiet_after k q (ltb (over + 3) 32)) h g)

turn_by : (c : Cpu) (ram rs : List ℕ) (k : Chip) → Quiet rs k → InWait (machine c ram k) → TurnStays InWait rom (machine c ram k)
turn_by c ram rs k q w =
    let z = instructs (machine c ram k) w in
    record {
      number = rw (quiet_turn rom c ram k q) z.0;
      accesses = rw (quiet_accesses rom c ram k q) z.1;
      machine = rw (quiet_turn rom c ram k q) z.2;
    }

turns : (m : Machine) → InWait m → TurnStays InWait rom m
turns _ (at_load a x y s over n v d z c ram rs k q h g) = turn_by _ ram rs k q (at_load a x y s over n v d z c ram rs k q h g)
turns _ (at_branch a x y s over n v d c ram rs k q h g) = turn_by _ ram rs k q (at_branch a x y s over n v d c ram rs k q h g)

test_holds : (m : Machine) → InWait m → holds_at is_waiting m ≡ true
test_holds _ (at_load a x y s over n v d z c ram rs k q h g) = rw (quiet_registers k q, h, g)
test_holds _ (at_branch a x y s over n v d c ram rs k q h g) = rw (quiet_registers k q, h, g)

-- ---- the end of the stored run is in it

abbrev end_cpu : Cpu
end_cpu = record { a = 0; x = 0; y = 0; s = 255; p = flags false false false false true false; pc = 0xA013; over = 14 }

end_cpu_lem : (runs 61 9 rom stored waiting).machine.cpu ≡ end_cpu
unfolding image
end_cpu_lem = refl

end_quiet : silence (runs 61 9 rom stored waiting).machine.chip ≡ (true, true)
unfolding image
end_quiet = refl

end_noted : get_or (runs 61 9 rom stored waiting).machine.ram 0 0 ≡ 0
unfolding image
end_noted = refl

end_latch : bit 0 (get_or (runs 61 9 rom stored waiting).machine.chip.registers 0 0) ≡ false
unfolding image
end_latch = refl

reached : (m : Machine) → (runs 61 9 rom stored waiting).machine.cpu ≡ m.cpu → (runs 61 9 rom stored waiting).machine.ram ≡ m.ram
    → compared_state (runs 61 9 rom stored waiting).machine.chip ≡ compared_state m.chip → InWait m
reached m c r k =
    subst (λ (x : Cpu). InWait (machine x m.ram m.chip)) (sym end_cpu_lem ∙ c)
    (at_branch 0 0 0 255 14 false false false false m.ram m.chip.registers m.chip (quiet_of m.chip (sym (ap silence k) ∙ end_quiet))
    (ap (λ (l : List ℕ). get_or l 0 0) (sym r) ∙ end_noted) (ap (λ (x : Chip). bit 0 (get_or x.registers 0 0)) (sym k) ∙ end_latch))

-- ---- EVERY list that is foreign beside the stored one, and ANY number of instructions more

pub stays_waiting : (fs : List ℕ) → is_foreign fs ≡ true → (n : ℕ) → Waits is_waiting (runs (70 + n) 0 rom fs (power_up rom)) (trace (70 + n) 0 rom fs (power_up rom))
unfolding is_foreign waiting
stays_waiting fs h n = stays_on is_waiting rom stored (power_up rom) 9 61 boots begins stored_run InWait turns test_holds reached fs h n

-- ---- every address but the chip's, and every byte after it

words_foreign : (own a c d e : ℕ) → matches own (byte_of (levels c)) ≡ false → Foreign (observer own 0 true none) (observer own 0 true none) (said a d) (said c e)
unfolding decode word.event word.no_event word.no_place word.bad_byte observe permitted untouched said
words_foreign own a c d e h =
    let q = byte own 0 false false a c [] [] _ _ refl refl refl refl refl refl refl h refl
    (byte own 0 true true d e (true ∷ (levels a ++ [])) (true ∷ (levels c ++ [])) _ _ refl refl refl refl refl refl refl refl refl
    (one own 0 true true false false (since (true ∷ (levels d ++ (true ∷ (levels a ++ []))))) (since (true ∷ (levels e ++ (true ∷ (levels c ++ []))))) (sda true ∷ []) (sda true ∷ []) refl
    (record { left_words = refl; right_words = refl; same = refl; right = refl; sda = refl }))) in
    record { left_words = q.left_words; right_words = q.right_words; same = q.same; right = q.right; sda = q.sda }

waiting_observer : observer_of waiting.chip none ≡ observer waiting.chip.core.bus.iiadr 0 true none
unfolding image
waiting_observer = refl

pub transfer_foreign : (address byte : ℕ) → address < 256 → matches waiting.chip.core.bus.iiadr address ≡ false → is_foreign (transfer address byte) ≡ true
unfolding is_foreign stored transfer said
transfer_foreign address byte l h =
    let own = waiting.chip.core.bus.iiadr in
    subst (λ (o : Observer). is_foreign_list (transfer 0x42 0x10) o (transfer address byte) ≡ true) (sym waiting_observer)
    (foreign_timed (counting 59 9) (observer own 0 true none) (said 0x42 0x10) (said address byte) refl refl
    (words_foreign own 0x42 address 0x10 byte (ap (matches own) (level_byte address l) ∙ h)))

pub transfer_waits : (address byte : ℕ) → address < 256 → matches waiting.chip.core.bus.iiadr address ≡ false
    → (n : ℕ) → Waits is_waiting (runs (70 + n) 0 rom (transfer address byte) (power_up rom)) (trace (70 + n) 0 rom (transfer address byte) (power_up rom))
transfer_waits address byte l h = stays_waiting (transfer address byte) (transfer_foreign address byte l h)

-- the monitor's own address is refused by the test, whatever follows it
pub own_refused : (byte : ℕ) → is_foreign (transfer 0xA0 byte) ≡ false
unfolding image
own_refused byte = refused stored (transfer 0xA0 byte) (observer_of waiting.chip none) refl

-- and leads past the wait
pub own_leaves : Leaves has_picture (runs 70 0 rom (transfer 0xA0 0x10) (power_up rom)) (trace 70 0 rom (transfer 0xA0 0x10) (power_up rom))
unfolding image
own_leaves = record { unrefused = refl; interrupted = refl; past = refl }
