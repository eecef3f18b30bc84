-- The interrupt and the reset of the CPU (document 02, Wish 5), in the CPU's registers and RAM.
use Rattle.std.specs.Prelude.{ℕ, ◌+◌, ◌/◌, ◌%◌, Bool, true, false, not, ◌&&◌, List, eqb, set}
use Rattle.bits.specs.Byte.{pick}
use Rattle.chip.specs.State.{requests}
use Rattle.cpu_operations.specs.declared.Cpu.{Cpu}
use Rattle.cpu_operations.specs.Operations.{put_i, pushed_p}
use Rattle.cpu_memory.specs.Memory.{below, stack_place, rom_word}
use Rattle.firmware_machine.specs.Machine.{Machine, machine, Turned, turned, clock_after, instruct}

-- one comes in front of an instruction at RESET high, I clear and a request
abbrev pub is_taken : Machine → Bool
is_taken m = m.chip.core.reset && (not (eqb (requests m.chip) 0) && not m.cpu.p.i)

-- S three less, I set, PC from FFFE, seven cycles; A, X, Y and the other flags stay, D too
abbrev pub interrupted_cpu : List ℕ → Cpu → Cpu
interrupted_cpu rom c =
    record {
      a = c.a;
      x = c.x;
      y = c.y;
      s = below (below (below c.s));
      p = put_i true c.p;
      pc = rom_word rom 24574;
      over = (c.over + 7) % 32;
    }

-- pushed are the high byte of PC, its low byte, and P with B 0
abbrev pub interrupted_ram : Cpu → List ℕ → List ℕ
interrupted_ram c ram =
    set (set (set ram (stack_place c.s) (c.pc / 256)) (stack_place (below c.s)) (c.pc % 256)) (stack_place (below (below c.s))) (pushed_p c.p false)

abbrev pub interrupted_machine : List ℕ → Machine → Machine
interrupted_machine rom m = machine (interrupted_cpu rom m.cpu) (interrupted_ram m.cpu m.ram) (clock_after (m.cpu.over + 7) m.chip)

-- a turn: while RESET is low nothing is done; else the instruction, behind the interrupt where one is taken
abbrev pub turn_of : List ℕ → Machine → Turned
turn_of rom m = pick m.chip.core.reset (instruct rom (pick (is_taken m) (interrupted_machine rom m) m)) (turned m 0)

-- after a reset of the chip: I set, PC from FFFC, every other register as it was, no cycle counted
abbrev pub restarted_cpu : List ℕ → Cpu → Cpu
restarted_cpu rom c = record { a = c.a; x = c.x; y = c.y; s = c.s; p = put_i true c.p; pc = rom_word rom 24572; over = c.over }
