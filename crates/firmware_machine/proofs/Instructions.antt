-- What a turn that runs without the chip says of the machine's own turn.
use Prim.Native.Nat.{ℕ, ◌+◌, ◌-◌, ◌%◌, ◌<◌}
use mathlib.Core.Path.{◌≡◌, refl, ap, sym, subst, ◌∙◌}
use mathlib.Core.Bool.{Bool, true, false}
use mathlib.Core.List.{List}
use native.Mathlib.Omega.{arith}
use lib.Dec.{eqb, ltb}
use lib.ListN.{get_or}
use borrow.Author.Tests.{lt-ltb, le-ltb}
use Rattle.bits.specs.Byte.{pick}
use Rattle.std.specs.Prelude.{Ok}
use Rattle.events.specs.Clocks as clock
use Rattle.events.specs.declared.Event.TheVariants as event
use Rattle.chip.specs.declared.Chip.{Chip}
use Rattle.chip_events.specs.Outcome.{next}
use Rattle.cpu_opcodes.specs.Table.{opcodes}
use Rattle.cpu_operations.specs.declared.Cpu.{Cpu}
use Rattle.cpu_memory.specs.declared.Place.{Place}
use Rattle.cpu_memory.specs.declared.Place.TheVariants as at
use Rattle.cpu_memory.specs.declared.Store.{Store}
use Rattle.cpu_memory.specs.declared.Store.TheVariants.{Nothing, Byte, PushOne, PushTwo, PushThree}
use Rattle.cpu_memory.specs.Memory.{place, not_seen, memory}
use Rattle.cpu_memory.specs.Reads.{Result, gives, refuses}
use Rattle.cpu_instruction.specs.declared.Effect.{Effect}
use Rattle.cpu_instruction.specs.Program.{perform}
use Rattle.cpu_instruction.specs.Instruction.{instruction}
use Rattle.cpu_execution.specs.declared.Destination.{Destination}
use Rattle.cpu_execution.specs.declared.Destination.TheVariants as to
use Rattle.cpu_step.specs.declared.Turn.TheVariants.{On, Clock, Interrupt, Refused}
use Rattle.cpu_execution.specs.Execution.{destination_at, stored_at, destination, stored, ram_with}
use Rattle.cpu_step.specs.InstructionTurn.{cycles_with, counted, is_interrupted, turn_to, turn_with, turn_of, ram_after}
use Rattle.firmware_machine.specs.Machine.{Machine, machine, Turned, turned, load, stored_to, completed, instruct, is_requesting, interrupt_taken, after_interrupt, turn}
use Rattle.firmware_machine.specs.Seen.{Knows}
use Rattle.firmware_machine.specs.Shows.{Shows}
use Rattle.firmware_machine.proofs.Loads.{sees, Gets, same, waits, gets, Numbered, LowResult, low}

module _ (seen : List ℕ) (c : Cpu) (ram : List ℕ) (k : Chip) where
  shows_done : (e : Effect) (ram' : List ℕ) (b : Bool)
      → Shows seen c ram k (pick b (On (counted e)) (Clock (counted e))) ram' (turned (machine (counted e) ram' (pick b k (next k (Ok (event.Clock clock.period))))) 0)
  shows_done e ram' true = refl
  shows_done e ram' false = refl

  -- a store that does not go to RAM leaves RAM as it was
  abbrev Leaves : Destination → List ℕ → Type 0
  Leaves to.Ram ram' = Unit {0}
  Leaves (to.Register r b) ram' = ram' ≡ ram
  Leaves (to.Refused n) ram' = (ram' ≡ ram) × Numbered n

  leaves_at : (b : ℕ) (p : Place) → Leaves (destination_at b p) (stored_at ram b p)
  leaves_at b (at.Register r) = refl
  leaves_at b (at.Ram i) = tt
  leaves_at b (at.Rom i) = (refl, (refl, omega arith))
  leaves_at b at.Unmapped = (refl, (refl, omega arith))

  leaves : (s : Store) → Leaves (destination s) (stored ram s)
  unfolding destination stored
  leaves Nothing = tt
  leaves (Byte a b) = leaves_at b (place a)
  leaves (PushOne s b) = tt
  leaves (PushTwo s b d) = tt
  leaves (PushThree s b d e) = tt

  shows_to : (e : Effect) (d : Destination) → Leaves d (stored ram e.store) → Shows seen c ram k (turn_to d e) (stored ram e.store) (stored_to d e (machine c ram k))
  unfolding turn_to
  shows_to e to.Ram h = shows_done e (stored ram e.store) (ltb (cycles_with e) 32)
  shows_to e (to.Register r b) h = (h, refl)
  shows_to e (to.Refused n) h = rw (lt-ltb n 64 h.1.1) (h.0, h.1.0, refl)

  shows_result : (x y : Result Effect) → Gets seen x y → LowResult y → Shows seen c ram k (turn_with x) (ram_with x ram) (completed y (machine c ram k))
  shows_result (gives e) y (same h) l = rw (← h) (shows_to e (destination e.store) (leaves e.store))
  shows_result (gives e) y (waits r h u g) l = absurd (let z : ◌≡◌ {A = ℕ} 0 1 = cc in omega arith)
  shows_result (refuses n) y (same h) l =
      let z : Numbered n = rw (← h) at l in
      rw (lt-ltb n 64 z.1) (refl, z.0, rw (← h))
  shows_result (refuses n) y (waits r h u g) l =
      let z : n ≡ 64 + r = cc in
      let y : n - 64 ≡ r = omega arith in
      rw (le-ltb n 64 (omega arith), y) (refl, record { below_38 = h; not_seen_lem = u })

  shows_instruct : (rom : List ℕ) → Knows seen k
      → Shows seen c ram k (turn_with (perform (memory seen ram rom) (instruction c))) (ram_with (perform (memory seen ram rom) (instruction c)) ram) (instruct rom (machine c ram k))
  unfolding instruct
  shows_instruct rom h =
      shows_result (perform (memory seen ram rom) (instruction c)) (perform (load ram k rom) (instruction c))
      (gets seen (memory seen ram rom) (load ram k rom) (sees seen ram rom k h) (instruction c)) (low ram rom k (instruction c))

  turn_by : (rom : List ℕ) (m x : Machine) (a b : Bool) → a ≡ true → b ≡ false → pick a (instruct rom (pick b x m)) (turned m 0) ≡ instruct rom m
  turn_by rom m x a b h g = rw (h, g)

  -- with RESET high and no interrupt to be taken a turn is its instruction
  pub turn_plain : (rom : List ℕ) → k.core.reset ≡ true → is_interrupted (is_requesting k) c ≡ false → turn rom (machine c ram k) ≡ instruct rom (machine c ram k)
  unfolding turn after_interrupt
  turn_plain rom h g = turn_by rom (machine c ram k) (interrupt_taken rom (machine c ram k)) k.core.reset (is_interrupted (is_requesting k) c) h g

  shows_turn : (rom : List ℕ) → Knows seen k → k.core.reset ≡ true → (b : Bool) → is_interrupted (is_requesting k) c ≡ b
      → Shows seen c ram k (pick b Interrupt (turn_with (perform (memory seen ram rom) (instruction c)))) (pick b ram (ram_with (perform (memory seen ram rom) (instruction c)) ram)) (turn rom (machine c ram k))
  shows_turn rom h r true e = (refl, e)
  shows_turn rom h r false e =
      subst (λ (t : Turned). Shows seen c ram k (turn_with (perform (memory seen ram rom) (instruction c))) (ram_with (perform (memory seen ram rom) (instruction c)) ram) t)
      (sym (turn_plain rom r e)) (shows_instruct rom h)

  pub shows : (rom : List ℕ) → Knows seen k → k.core.reset ≡ true
      → Shows seen c ram k (turn_of opcodes seen rom (is_requesting k) c ram) (ram_after opcodes seen rom (is_requesting k) c ram) (turn rom (machine c ram k))
  unfolding turn_of ram_after
  shows rom h r = shows_turn rom h r (is_interrupted (is_requesting k) c) refl
