-- The rules of a firmware run at small programs, computed.
use Prim.Native.Nat.{ℕ}
use mathlib.Core.Path.{◌≡◌, refl}
use mathlib.Core.Bool.{Bool, true, false}
use mathlib.Core.List.{List, [], ◌∷◌}
use native.Mathlib.Omega.{arith}
use lib.ListN.{get_or, length, drop}
use Rattle.cpu_memory.specs.declared.Loaded.TheVariants.{Byte}
use Rattle.cpu_memory.specs.declared.Place.TheVariants.{Register, Ram, Rom, Unmapped}
use Rattle.cpu_memory.specs.Memory.{place}
use Rattle.cpu_instruction.specs.Program.{Access, read_at, write_at}
use Rattle.firmware_machine.specs.Run.{runs, firmware}
use Rattle.firmware_isolation_laws.specs.Trace.{turn_accesses}
use Rattle.firmware_laws.specs.History.{Given, listed, clocked, history, cycles_counted}
use Rattle.firmware_laws.specs.Numbers.{made_by}
use Rattle.firmware_laws.specs.Parts.{renumbered}
use Rattle.firmware_laws.specs.Refusals.{turn_number, refused_past}
use Rattle.firmware_laws.proofs.Refusals.{run_refused_at}
use Rattle.firmware_cases.specs.Firmware.{cpu, ram, started_chip, started_machine, requesting_machine, working_machine, stack_machine, index_machine, over31_machine, over32_cpu, event, polling, polling_rom, resting_rom}
use Rattle.firmware_cases.specs.Rules.{number_of_run, stopping, three_events, interrupted_run, watched, clocked_run, late}
use Rattle.firmware_cases.proofs.Opened.{opened}
use Rattle.firmware_cases.proofs.Holds.{rom_length}

-- the first and the last address of each part of the map
pub map_edges : place 0x0000 ∷ place 0x0025 ∷ place 0x0026 ∷ place 0x007F ∷ place 0x0080 ∷ place 0x017F ∷ place 0x0180 ∷ place 0x01FF ∷ place 0x0200 ∷ place 0x9FFF ∷ place 0xA000 ∷ place 0xFFFF ∷ []
    ≡ Register 0 ∷ Register 0x25 ∷ Unmapped ∷ Unmapped ∷ Ram 0 ∷ Ram 255 ∷ Ram 0 ∷ Ram 127 ∷ Unmapped ∷ Unmapped ∷ Rom 0 ∷ Rom 24575 ∷ []
unfolding place
map_edges = refl

-- an opcode that is not documented; LDA 02, which is write-only; STA 10, read-only; STA A000, ROM; LDA 0300, not mapped; STA 0300
pub refusals : number_of_run (0x02 ∷ []) ∷ number_of_run (0xA5 ∷ 0x02 ∷ []) ∷ number_of_run (0x85 ∷ 0x10 ∷ []) ∷ number_of_run (0x8D ∷ 0x00 ∷ 0xA0 ∷ []) ∷ number_of_run (0xAD ∷ 0x00 ∷ 0x03 ∷ []) ∷ number_of_run (0x8D ∷ 0x00 ∷ 0x03 ∷ []) ∷ []
    ≡ 20 ∷ 5 ∷ 6 ∷ 21 ∷ 21 ∷ 21 ∷ []
unfolding opened
refusals = refl

-- INC 10 reads the flags and is refused at its write; nothing is changed
pub first_failing : ◌≡◌ {A = List Access × ℕ × ℕ} (made_by (0xE6 ∷ 0x10 ∷ []) started_machine, (runs 1 0 (0xE6 ∷ 0x10 ∷ []) [] started_machine).number, (runs 1 0 (0xE6 ∷ 0x10 ∷ []) [] started_machine).machine.cpu.pc)
    (read_at 0xA000 (Byte 0xE6) ∷ read_at 0xA001 (Byte 0x10) ∷ read_at 0x10 (Byte 0) ∷ write_at 0x10 1 ∷ [], 6, 0xA000)
unfolding opened
first_failing = refl

-- nothing behind an opcode that is not documented is fetched
pub opcode_alone : made_by (0x02 ∷ 0x00 ∷ []) started_machine ≡ read_at 0xA000 (Byte 0x02) ∷ []
unfolding opened
opcode_alone = refl

-- ---- every access in order, pushes among them (PHA, PHP, BRK, JSR, STA 00F0,X), and no others

pub pushes_a : made_by (0x48 ∷ []) started_machine ≡ read_at 0xA000 (Byte 0x48) ∷ write_at 0x1FF 0 ∷ []
unfolding opened
pushes_a = refl

pub pushes_p : made_by (0x08 ∷ []) started_machine ≡ read_at 0xA000 (Byte 0x08) ∷ write_at 0x1FF 0x34 ∷ []
unfolding opened
pushes_p = refl

-- the byte behind BRK is not fetched; its vector in this ROM is 0
pub break_accesses : made_by (0x00 ∷ 0x12 ∷ []) started_machine
    ≡ read_at 0xA000 (Byte 0) ∷ write_at 0x1FF 0xA0 ∷ write_at 0x1FE 2 ∷ write_at 0x1FD 0x34 ∷ read_at 0xFFFE (Byte 0) ∷ read_at 0xFFFF (Byte 0) ∷ []
unfolding opened
break_accesses = refl

pub call_accesses : made_by (0x20 ∷ 0x34 ∷ 0x12 ∷ []) started_machine
    ≡ read_at 0xA000 (Byte 0x20) ∷ read_at 0xA001 (Byte 0x34) ∷ write_at 0x1FF 0xA0 ∷ write_at 0x1FE 2 ∷ read_at 0xA002 (Byte 0x12) ∷ []
unfolding opened
call_accesses = refl

-- JSR in RAM under the stack: its high byte is the one just pushed
pub call_on_stack : made_by [] stack_machine
    ≡ read_at 0x1FD (Byte 0x20) ∷ read_at 0x1FE (Byte 0x34) ∷ write_at 0x1FF 1 ∷ write_at 0x1FE 0xFF ∷ read_at 0x1FF (Byte 1) ∷ []
unfolding opened
call_on_stack = refl

-- X is 20H; no read before the store
pub store_accesses : made_by (0x9D ∷ 0xF0 ∷ 0x00 ∷ []) index_machine
    ≡ read_at 0xA000 (Byte 0x9D) ∷ read_at 0xA001 (Byte 0xF0) ∷ read_at 0xA002 (Byte 0) ∷ write_at 0x110 0 ∷ []
unfolding opened
store_accesses = refl

-- an interrupt, then the opcode at 0000
pub interrupt_accesses_lem : turn_accesses [] requesting_machine
    ≡ write_at 0x1FF 0xA0 ∷ write_at 0x1FE 0 ∷ write_at 0x1FD 0x29 ∷ read_at 0xFFFE (Byte 0) ∷ read_at 0xFFFF (Byte 0) ∷ read_at 0 (Byte 0xFF) ∷ []
unfolding opened
interrupt_accesses_lem = refl

-- 8, 22 and 7 in that order, with one event and no answer place: 32 cycles over and no ROM; 31 and no ROM; 31 and a whole ROM
pub ill_formed_first : (firmware over32_cpu ram [] started_chip (event 0 0 ∷ []) [] 1).number ≡ 8
unfolding opened firmware
ill_formed_first = refl

pub rom_next : (firmware over31_machine.cpu ram [] started_chip (event 0 0 ∷ []) [] 1).number ≡ 22
unfolding opened firmware
rom_next = refl

pub places_last : (firmware over31_machine.cpu ram polling_rom started_chip (event 0 0 ∷ []) [] 1).number ≡ 7
unfolding opened firmware
places_last = rw rom_length

-- NOP with 31 cycles over: 33, of which 32 are a clock; the second NOP gives none
pub clock_given : ◌≡◌ {A = List Given × ℕ × ℕ} (history 2 0 (0xEA ∷ 0xEA ∷ []) [] over31_machine, cycles_counted 2 0 (0xEA ∷ 0xEA ∷ []) [] over31_machine, (runs 2 0 (0xEA ∷ 0xEA ∷ []) [] over31_machine).machine.cpu.over)
    (clocked ∷ [], 4, 3)
unfolding opened
clock_given = refl

-- a listed write, then STA 80 and STA 0E, which is refused: its cycles are not counted
pub refused_not_counted : ◌≡◌ {A = List Given × ℕ × ℕ} (history 2 0 (0x85 ∷ 0x80 ∷ 0x85 ∷ 0x0E ∷ []) (event 0 0x02001200 ∷ []) started_machine, cycles_counted 2 0 (0x85 ∷ 0x80 ∷ 0x85 ∷ 0x0E ∷ []) (event 0 0x02001200 ∷ []) started_machine, (runs 2 0 (0x85 ∷ 0x80 ∷ 0x85 ∷ 0x0E ∷ []) (event 0 0x02001200 ∷ []) started_machine).next)
    (listed 0x02001200 ∷ [], 3, 1)
unfolding opened
refused_not_counted = refl

-- the same with a listed write before each of three instructions: those before the refused one, number 1, are given, and longer runs stop there
pub longer_stops : runs 9 0 stopping three_events started_machine ≡ refused_past 1 0 stopping three_events started_machine
unfolding opened turn_number
longer_stops = run_refused_at 1 9 0 stopping three_events started_machine (omega arith) refl refl

pub stops_there : ((refused_past 1 0 stopping three_events started_machine).number ∷ (refused_past 1 0 stopping three_events started_machine).next ∷ length (refused_past 1 0 stopping three_events started_machine).answers ∷ [])
    ≡ 6 ∷ 1 ∷ 2 ∷ []
unfolding opened turn_number refused_past
stops_there = refl

-- an interrupt with D and C set: PC A000 and P with bit 5 are pushed, I is set and D kept, seven cycles; then the opcode at 0000, FFH by the
-- vector of this ROM, is refused, and the interrupt stays
pub interrupt_taken_lem : ◌≡◌ {A = List ℕ} ((runs 1 0 [] [] requesting_machine).number ∷ get_or interrupted_run.ram 127 0 ∷ get_or interrupted_run.ram 126 0 ∷ get_or interrupted_run.ram 125 0 ∷ interrupted_run.cpu.s ∷ interrupted_run.cpu.pc ∷ interrupted_run.cpu.over ∷ [])
    (20 ∷ 0xA0 ∷ 0x00 ∷ 0x29 ∷ 0xFC ∷ 0 ∷ 7 ∷ [])
unfolding opened
interrupt_taken_lem = refl

pub interrupt_flags : ◌≡◌ {A = Bool × Bool × Bool} (interrupted_run.cpu.p.i, interrupted_run.cpu.p.d, interrupted_run.cpu.p.c) (true, true, true)
unfolding opened
interrupt_flags = refl

-- with RESET low nothing is taken and nothing done, and the instruction counts; the event that put it low restarted the CPU
pub reset_low : ◌≡◌ {A = List ℕ × Bool} (
  (runs 2 0 (0xEA ∷ []) (event 0 0x03001C00 ∷ []) requesting_machine).number ∷ (runs 2 0 (0xEA ∷ []) (event 0 0x03001C00 ∷ []) requesting_machine).next
      ∷ (runs 2 0 (0xEA ∷ []) (event 0 0x03001C00 ∷ []) requesting_machine).machine.cpu.pc ∷ (runs 2 0 (0xEA ∷ []) (event 0 0x03001C00 ∷ []) requesting_machine).machine.cpu.a
      ∷ (runs 2 0 (0xEA ∷ []) (event 0 0x03001C00 ∷ []) requesting_machine).machine.cpu.s ∷ (runs 2 0 (0xEA ∷ []) (event 0 0x03001C00 ∷ []) requesting_machine).machine.cpu.over ∷ [],
  (runs 2 0 (0xEA ∷ []) (event 0 0x03001C00 ∷ []) requesting_machine).machine.cpu.p.i,
)
    (0 ∷ 2 ∷ 0 ∷ 7 ∷ 255 ∷ 0 ∷ [], true)
unfolding opened
reset_low = refl

-- 64 watchdog clocks reset the chip, which takes back its request: I is set, PC comes from FFFC, all else of the CPU is kept, at no cycles; then
-- the NOP at B234
pub watchdog_restarts : ◌≡◌ {A = List ℕ × (Bool × Bool × Bool × Bool × Bool × Bool)} (
  (runs 1 0 resting_rom (watched 64) working_machine).number ∷ (clocked_run 64).cpu.a ∷ (clocked_run 64).cpu.x ∷ (clocked_run 64).cpu.y ∷ (clocked_run 64).cpu.s
      ∷ (clocked_run 64).cpu.pc ∷ (clocked_run 64).cpu.over ∷ drop 62 (runs 1 0 resting_rom (watched 64) working_machine).answers,
  ((clocked_run 64).cpu.p.n, (clocked_run 64).cpu.p.v, (clocked_run 64).cpu.p.d, (clocked_run 64).cpu.p.i, (clocked_run 64).cpu.p.z, (clocked_run 64).cpu.p.c),
)
    (0 ∷ 7 ∷ 8 ∷ 9 ∷ 0x80 ∷ 0xB235 ∷ 7 ∷ 0x2000 ∷ 0x10000 ∷ [], (true, false, true, true, false, false))
unfolding opened resting_rom
watchdog_restarts = refl

-- 63 do not: the interrupt is taken
pub watchdog_waits_lem : ◌≡◌ {A = List ℕ} ((clocked_run 63).cpu.s ∷ (clocked_run 63).cpu.pc ∷ (clocked_run 63).cpu.over ∷ []) (0x7D ∷ 0xC013 ∷ 14 ∷ [])
unfolding opened resting_rom
watchdog_waits_lem = refl

-- a late event holds back the one behind it: none of the two is given before instruction 5, both are before it
pub late_event : ◌≡◌ {A = ℕ × ℕ} (length (runs 5 0 polling late started_machine).answers, length (runs 6 0 polling late started_machine).answers) (0, 2)
unfolding opened
late_event = refl

-- for a run that begins at instruction 4 their numbers are 1 and 0
pub late_renumbered : renumbered 4 late ≡ event 1 0x01001000 ∷ event 0 0x01000F00 ∷ []
late_renumbered = refl
