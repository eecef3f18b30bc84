-- The loop over instructions with no events between them: what is left to do comes to the whole run.
use Prim.Native.Nat.{ℕ, zero, suc, ◌+◌, ◌-◌, ◌*◌, ◌%◌, ◌<◌, ◌≤◌}
use mathlib.Core.Path.{◌≡◌, refl, ap, sym, ◌∙◌}
use mathlib.Core.Bool.{Bool, true, false, true≢false}
use mathlib.Core.List.{List, []}
use native.Mathlib.Omega.{arith}
use lib.Dec.{eqb, ltb}
use lib.ListN.{length, set, length-set}
use Rattle.bits.specs.Byte.{pick}
use Rattle.bus.specs.declared.Phase.{Phase}
use Rattle.chip.specs.declared.Bus.{Bus}
use Rattle.bus_ddc2b.specs.Ddc2b.{phase_at_period}
use Rattle.sync.specs.declared.Sync.{Sync}
use Rattle.sync.specs.Sync.{on_period}
use Rattle.std.specs.Prelude.{Ok}
use Rattle.events.specs.Clocks as clock
use Rattle.events.specs.declared.Event.TheVariants as event
use Rattle.chip.specs.declared.Core.{Core}
use Rattle.chip.specs.declared.Chip.{Chip}
use Rattle.chip.specs.State.{chip_of, hsel_of, with_sync, with_bus}
use Rattle.chip_edges.specs.Edges.{with_phase}
use Rattle.chip_reads.specs.declared.Reading.{Reading}
use Rattle.chip_reads.specs.Reads.{reading}
use Rattle.chip_writes.specs.Writes.{write_number}
use Rattle.chip_events.specs.Outcome.{next}
use Rattle.cpu_opcodes.specs.Table.{opcodes}
use Rattle.cpu_operations.specs.declared.Cpu.{Cpu}
use Rattle.cpu_operations.specs.Operations.{set_over}
use Rattle.cpu_instruction.specs.Instruction.{interrupted}
use Rattle.cpu_execution.specs.Execution.{stored}
use Rattle.cpu_step.specs.declared.Turn.{Turn}
use Rattle.cpu_step.specs.declared.Turn.TheVariants.{On, Clock, Interrupt, Write, Refused, NotCached}
use Rattle.cpu_step.specs.InstructionTurn.{cycles_with, counted, turn_of, ram_after}
use Rattle.firmware_machine.specs.Machine.{Machine, machine, Turned, turned, clock_after, is_requesting, interrupt_taken, turn}
use Rattle.firmware_machine.specs.Run.{Ended, ended, on_turned, runs}
use Rattle.firmware_machine.specs.Seen.{Knows, known_reading}
use Rattle.firmware_machine.specs.Shows.{written, Shows}
use Rattle.firmware_machine.proofs.Instructions.{shows}
use Rattle.firmware_machine.proofs.Interrupts.{interrupt_is, interrupted_masks}
use Rattle.firmware_machine.proofs.Turns.{taken_clear, runs_first, runs_interrupt}
use Rattle.firmware_run.specs.declared.Interrupted.{Interrupted}
use Rattle.firmware_run.specs.declared.Settled.{Settled}
use Rattle.cpu_register_cache.specs.Cache.{none_seen, ticked, seen_after_clock, core_after_cycles}
use Rattle.firmware_run.specs.Instructions.{after_interrupted, settled_end}
use Rattle.cpu_register_cache.proofs.Registers.{knows_none, knows_set, unseen_of, unseen_le, unseen_set}
use Rattle.cpu_register_cache.specs.Changed.{Changed}
use Rattle.cpu_register_cache.proofs.Chips.{clock_chip, after_cycles, ticked_parts, ticked_high, after_high, clock_requests, knows_clock, clock_length}

-- the run from instruction i on; where `clocked` is false that instruction is done but for a clock of 8 µs, which is due
abbrev pub remaining : List ℕ → ℕ → Bool → Machine → ℕ → Ended
remaining rom to true m i = runs (to - i) i rom [] m
remaining rom to false m i = runs (to - (i + 1)) (i + 1) rom [] (machine m.cpu m.ram (next m.chip (Ok (event.Clock clock.period))))

pub record Running (rom : List ℕ) (from to : ℕ) (start : Machine) (ram seen registers : List ℕ) (core : Core) (c : Cpu) (i : ℕ) (clocked request : Bool) : Type 0 where
  pub small : to < 4294967296
  pub total : remaining rom to clocked (machine c ram (chip_of registers core)) i ≡ runs (to - from) from rom [] start
  pub knows : Knows seen (chip_of registers core)
  pub size : length seen ≡ 38
  pub high : core.reset ≡ true
  pub asked : request ≡ is_requesting (chip_of registers core)
  pub begun : clocked ≡ false → i < to

-- ---- what is left to do

-- an interrupt can come where I is clear
unfoldable pub clear : Cpu → ℕ
clear c = pick c.p.i 0 39

clear_by : (b : Bool) → pick b 0 39 ≤ 39
clear_by true = omega arith
clear_by false = omega arith

clear_le : (c : Cpu) → clear c ≤ 39
unfolding clear
clear_le c = clear_by c.p.i

clear_set : (c : Cpu) → c.p.i ≡ true → clear c ≡ 0
unfolding clear
clear_set c h = rw h

clear_clear : (c : Cpu) → c.p.i ≡ false → clear c ≡ 39
unfolding clear
clear_clear c h = rw h

abbrev pub measure : ℕ → ℕ → Bool → Cpu → List ℕ → ℕ
measure to i true c seen = (to - i) * 160 + (80 + (clear c + unseen_of seen))
measure to i false c seen = (to - i) * 160

unseen_38 : (seen : List ℕ) → length seen ≡ 38 → unseen_of seen ≤ 38
unseen_38 seen l = omega (arith, unseen_le seen, l)

-- ---- the steps of the loop

pub begin : (rom : List ℕ) (from to : ℕ) (ram seen registers : List ℕ) (core : Core) (c : Cpu) (request : Bool) → to < 4294967296 → Knows seen (chip_of registers core) → length seen ≡ 38 → core.reset ≡ true → request ≡ is_requesting (chip_of registers core)
    → Running rom from to (machine c ram (chip_of registers core)) ram seen registers core c from true request
begin rom from to ram seen registers core c request s u l h q =
    record { small = s; total = refl; knows = u; size = l; high = h; asked = q; begun = λ z. absurd (true≢false z) }

module _ (rom : List ℕ) (from to : ℕ) (start : Machine) (ram seen registers : List ℕ) (core : Core) (c : Cpu) (i : ℕ) (clocked request : Bool) (h : Running rom from to start ram seen registers core c i clocked request) where
  abbrev k : Chip
  k = chip_of registers core

  abbrev whole : Ended
  whole = runs (to - from) from rom [] start

  -- the end
  finish_by : (b : Bool) → clocked ≡ b → to ≤ i → ended (machine c ram k) 0 i [] ≡ whole
  unfolding runs
  finish_by true e l =
      let z : to - i ≡ 0 = omega arith in
      let w : runs (to - i) i rom [] (machine c ram k) ≡ whole = rw e at h.total in
      rw z at w
  finish_by false e l = absurd (omega (arith, h.begun e))

  pub finish : to ≤ i → ended (machine c ram k) 0 i [] ≡ whole
  finish l = finish_by clocked refl l

  module _ (l : i < to) where
    -- the clock
    module _ (e : clocked ≡ false) where
      ticks_at : Running rom from to start ram (seen_after_clock seen (hsel_of core) core.sync) registers (ticked core) c (i + 1) true request
      ticks_at =
          record {
            small = h.small;
            total = ap (λ (x : Chip). runs (to - (i + 1)) (i + 1) rom [] (machine c ram x)) (sym (clock_chip registers core)) ∙ (rw e at h.total);
            knows = knows_clock seen registers core h.high h.knows;
            size = clock_length seen (hsel_of core) core.sync h.size;
            high = ticked_high core h.high;
            asked = h.asked ∙ sym (clock_requests registers core h.high);
            begun = λ z. absurd (true≢false z);
          }

      module _ (hsel : Bool) (x : hsel ≡ hsel_of core) (seen' : List ℕ) (y : seen' ≡ seen_after_clock seen hsel core.sync) where
        -- counters and phase are put anew in the core
        pub ticks : (s : Sync) → s ≡ on_period hsel core.sync → (p : Phase) → p ≡ phase_at_period core.bus.phase → (b : Bus) → b ≡ with_phase core.bus p
            → Running rom from to start ram seen' registers (with_bus (with_sync core s) b) c (i + 1) true request
        ticks s u p v b w = rw (ticked_parts core h.high hsel x s u p v b w, y, x) ticks_at

        pub ticks_less : measure to (i + 1) true c seen' < measure to i clocked c seen
        ticks_less = rw e (omega (arith, l, clear_le c, unseen_38 seen' (rw y (clock_length seen hsel core.sync h.size))))

    -- a turn
    module _ (e : clocked ≡ true) (table : List ℕ) (tabled : table ≡ opcodes) (t : Turn) (ram' : List ℕ) (p : t ≡ turn_of table seen rom request c ram) (p' : ram' ≡ ram_after table seen rom request c ram) where
      seen_turn : Shows seen c ram k t ram' (turn rom (machine c ram k))
      seen_turn = rw (p, p', tabled, h.asked) (shows seen c ram k rom h.knows h.high)

      opened : on_turned (turn rom (machine c ram k)) i (λ (x : Machine). runs (to - (i + 1)) (i + 1) rom [] x) ≡ whole
      opened = sym (runs_first to i rom (machine c ram k) l) ∙ (rw e at h.total)

      after : (x : Turned) → turn rom (machine c ram k) ≡ x → on_turned x i (λ (x : Machine). runs (to - (i + 1)) (i + 1) rom [] x) ≡ whole
      after x z = ap (λ (x : Turned). on_turned x i (λ (x : Machine). runs (to - (i + 1)) (i + 1) rom [] x)) (sym z) ∙ opened

      pub on : (d : Cpu) → t ≡ On d → Running rom from to start ram' seen registers core d (i + 1) clocked request
      on d q =
          rw e (record { small = h.small; total = after (turned (machine d ram' k) 0) (rw q at seen_turn); knows = h.knows; size = h.size; high = h.high; asked = h.asked; begun = λ z. absurd (true≢false z) })

      pub on_less : (d : Cpu) → measure to (i + 1) clocked d seen < measure to i clocked c seen
      on_less d = rw e (omega (arith, l, clear_le d, unseen_38 seen h.size))

      pub due : (d : Cpu) → t ≡ Clock d → Running rom from to start ram' seen registers core d i false request
      due d q =
          record {
            small = h.small;
            total = after (turned (machine d ram' (next k (Ok (event.Clock clock.period)))) 0) (rw q at seen_turn);
            knows = h.knows;
            size = h.size;
            high = h.high;
            asked = h.asked;
            begun = λ z. l;
          }

      pub due_less : (to - i) * 160 < measure to i clocked c seen
      due_less = rw e (omega arith)

      -- an interrupt
      module _ (q : t ≡ Interrupt) where
        struck : Shows seen c ram k Interrupt ram' (turn rom (machine c ram k))
        struck = rw q at seen_turn

        interrupts_at : Running rom from to start (stored ram (interrupted rom c).store) none_seen registers (core_after_cycles (cycles_with (interrupted rom c)) core) (counted (interrupted rom c)) i true
            (is_requesting (chip_of registers (core_after_cycles (cycles_with (interrupted rom c)) core)))
        interrupts_at =
            record {
              small = h.small;
              total =
                  sym (runs_interrupt to i rom c ram k l h.high struck.1 ∙ ap (λ (m : Machine). runs (to - i) i rom [] m) (interrupt_is rom c ram k
                  ∙ ap (λ (x : Chip). machine (counted (interrupted rom c)) (stored ram (interrupted rom c).store) x) (after_cycles (cycles_with (interrupted rom c)) registers core)))
                  ∙ (rw e at h.total);
              knows = knows_none _;
              size = refl;
              high = after_high (cycles_with (interrupted rom c)) core h.high;
              asked = refl;
              begun = λ z. absurd (true≢false z);
            }

        pub interrupts : (x : Interrupted) → x ≡ after_interrupted rom core c → (ram₂ : List ℕ) → ram₂ ≡ stored ram' (interrupted rom c).store → (s : List ℕ) → s ≡ none_seen
            → (a : Bool) → a ≡ is_requesting (chip_of registers x.core) → Running rom from to start ram₂ s registers x.core x.cpu i clocked a
        interrupts x u ram₂ v s w a z = rw (e, z, w, v, u, struck.0) interrupts_at

        pub interrupts_less : (x : Interrupted) → x ≡ after_interrupted rom core c → (s : List ℕ) → s ≡ none_seen → measure to i clocked x.cpu s < measure to i clocked c seen
        interrupts_less x u s w =
            rw (e, u, w) (omega (arith, clear_clear c (taken_clear (is_requesting k) c struck.1), clear_set (counted (interrupted rom c)) (interrupted_masks rom c), unseen_le none_seen))

      -- a refusal
      refused_end : (v : ℕ) → eqb v 0 ≡ false → turn rom (machine c ram k) ≡ turned (machine c ram k) v → ended (machine c ram k) v i [] ≡ whole
      refused_end v z u = (let y : ended (machine c ram k) v i [] ≡ on_turned (turned (machine c ram k) v) i (λ (x : Machine). runs (to - (i + 1)) (i + 1) rom [] x) = rw z in y) ∙ after _ u

      -- a register written
      module _ (q : Cpu) (n r b : ℕ) (w : t ≡ Write q n r b) where
        writing : Shows seen c ram k (Write q n r b) ram' (turn rom (machine c ram k))
        writing = rw w at seen_turn

        written_by : (x : Bool) → eqb (write_number core.reset r) 0 ≡ x → x ≡ true → (k' : Chip) → next k (Ok (event.Write r b)) ≡ k'
            → written seen c ram k q n r b ≡ turned (machine (set_over ((q.over + n) % 32) q) ram (clock_after (q.over + n) k')) 0
        written_by true z y k' m = rw (z, m)
        written_by false z y k' m = absurd (true≢false (sym y))

        module _ (registers' : List ℕ) (core' : Core) (seen' : List ℕ) (g : Changed registers core r b registers' core' seen') where
          abbrev k' : Chip
          k' = chip_of registers' core'

          turns_to : turn rom (machine c ram k) ≡ turned (machine (set_over ((q.over + n) % 32) q) ram (clock_after (q.over + n) k')) 0
          turns_to = writing.1 ∙ written_by (eqb (write_number core.reset r) 0) refl g.taken k' g.chip

          wrote_by : (f : Bool) → ltb (q.over + n) 32 ≡ f → (a : Bool) → a ≡ is_requesting k' → Running rom from to start ram seen' registers' core' (set_over ((q.over + n) % 32) q) (pick f (i + 1) i) f a
          wrote_by true z a y =
              record { small = h.small; total = after (turned (machine (set_over ((q.over + n) % 32) q) ram k') 0) (turns_to ∙ (rw z)); knows = g.knows; size = g.size; high = g.high; asked = y; begun = λ z. absurd (true≢false z) }
          wrote_by false z a y =
              record { small = h.small; total = after (turned (machine (set_over ((q.over + n) % 32) q) ram (next k' (Ok (event.Clock clock.period)))) 0) (turns_to ∙ (rw z)); knows = g.knows; size = g.size; high = g.high; asked = y; begun = λ z. l }

          wrote_at : (x : ℕ) → x ≡ q.over + n → (f : Bool) → f ≡ ltb x 32 → (a : Bool) → a ≡ is_requesting k' → Running rom from to start ram seen' registers' core' (set_over (x % 32) q) (pick f (i + 1) i) f a
          wrote_at x u f m a y = rw u (wrote_by f (sym (m ∙ ap (λ (x : ℕ). ltb x 32) u)) a y)

          pub wrote : (x : ℕ) → x ≡ q.over + n → (d : Cpu) → d ≡ set_over (x % 32) q → (f : Bool) → f ≡ ltb x 32 → (j : ℕ) → j ≡ pick f (i + 1) i → (a : Bool) → a ≡ is_requesting k'
              → Running rom from to start ram' seen' registers' core' d j f a
          wrote x u d v f m j o a y = rw (o, v, writing.0) (wrote_at x u f m a y)

          wrote_less_by : (f : Bool) (d : Cpu) → measure to (pick f (i + 1) i) f d seen' < measure to i clocked c seen
          wrote_less_by true d = rw e (omega (arith, l, clear_le d, unseen_38 seen' g.size))
          wrote_less_by false d = rw e (omega arith)

          pub wrote_less : (x : ℕ) (d : Cpu) → d ≡ set_over (x % 32) q → (f : Bool) → f ≡ ltb x 32 → (j : ℕ) → j ≡ pick f (i + 1) i → measure to j f d seen' < measure to i clocked c seen
          wrote_less x d v f m j o = rw o (wrote_less_by f d)

        -- refused by the chip
        refused_by_lem : (x : Bool) → eqb (write_number core.reset r) 0 ≡ x → x ≡ false → written seen c ram k q n r b ≡ turned (machine c ram k) (write_number core.reset r)
        refused_by_lem true z y = absurd (true≢false y)
        refused_by_lem false z y = rw z

        pub refused_write_lem : (v : ℕ) → v ≡ write_number true r → eqb v 0 ≡ false → ended (machine c ram' k) v i [] ≡ whole
        refused_write_lem v u z =
            let o : write_number core.reset r ≡ v = (rw h.high refl) ∙ sym u in
            let y : eqb (write_number core.reset r) 0 ≡ false = rw o z in
            rw writing.0 (ap (λ (x : ℕ). ended (machine c ram k) x i []) (sym o) ∙ (refused_end (write_number core.reset r) y (writing.1 ∙ refused_by_lem _ refl y)))

      pub refuses : (n : ℕ) → t ≡ Refused n → ended (machine c ram' k) n i [] ≡ whole
      refuses n q =
          let z : Shows seen c ram k (Refused n) ram' (turn rom (machine c ram k)) = rw q at seen_turn in
          rw z.0 (refused_end n z.1 z.2)

      -- a register that was not looked at is read
      module _ (r : ℕ) (q : t ≡ NotCached r) where
        waiting : Shows seen c ram k (NotCached r) ram' (turn rom (machine c ram k))
        waiting = rw q at seen_turn

        pub waits : (x : Reading) → x ≡ reading k r → (v : ℕ) → v ≡ known_reading x → (s : List ℕ) → s ≡ set seen r v → Running rom from to start ram' s registers core c i clocked request
        waits x y v z s u =
            rw (e, u, z, y, waiting.0)
            (record {
              small = h.small;
              total = rw e at h.total;
              knows = knows_set seen k r h.size h.knows;
              size = length-set seen r _ ∙ h.size;
              high = h.high;
              asked = h.asked;
              begun = λ z. absurd (true≢false z);
            })

        pub waits_less : (x : Reading) → x ≡ reading k r → (v : ℕ) → v ≡ known_reading x → (s : List ℕ) → s ≡ set seen r v → measure to i clocked c s < measure to i clocked c seen
        waits_less x y v z s u =
            let m = waiting.1 in
            rw (u, z, y, e) (omega (arith, unseen_set seen k r (omega (arith, m.below_38, h.size)) m.not_seen_lem))
