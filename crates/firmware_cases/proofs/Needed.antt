-- No premise on the first chip's mode and phase, on the listed events or on what happens can be left out: for each a pair of runs where it
-- fails, and something compared differs. That the chip is well formed the call tests itself.
use Prim.Native.Nat.{ℕ}
use mathlib.Core.Path.{◌≡◌, refl}
use mathlib.Core.Bool.{Bool, true, false}
use mathlib.Core.List.{List, [], ◌∷◌}
use lib.ListN.{get_or, drop}
use Rattle.bus.specs.declared.Phase.{Phase}
use Rattle.bus.specs.declared.Phase.TheVariants.{Idle, Address}
use Rattle.isolation_laws.specs.Foreign.{none, since}
use Rattle.cpu_memory.specs.declared.Loaded.TheVariants.{Byte, Refused}
use Rattle.cpu_instruction.specs.Program.{Access, read_at}
use Rattle.firmware_machine.specs.Run.{runs}
use Rattle.firmware_isolation_laws.specs.Trace.{trace, accesses_of}
use Rattle.firmware_cases.specs.Firmware.{fresh_machine, started_machine, gathering_machine, idle_machine, event, transfer, seven_bits, sda_put, times, polling, adr_writing, turning_off, asking_ddc1, port3_reading, data_reading, data_fetching, data_changing, data_pointing, data_pointing_y}
use Rattle.firmware_cases.specs.Tests.{Tested, tests}
use Rattle.firmware_cases.specs.Needed.{accumulators, bytes, listed_address, turned_off, reset_with, expired_with, with_vsync, shifted, asked_ddc1, fall_after, refused_cpu}
use Rattle.firmware_cases.proofs.Opened.{opened}

-- ---- the first chip

-- DDC off, as in a fresh chip: PT3 shows SDA
pub mode_needed : ◌≡◌ {A = Tested × (ℕ × ℕ)} (tests 1 port3_reading fresh_machine none (sda_put 0 0) (sda_put 0 1), accumulators 1 port3_reading fresh_machine (sda_put 0 0) (sda_put 0 1))
    ((true, true, true, true, true), (0, 1))
unfolding opened
mode_needed = refl

-- neither a START just seen nor an idle bus: the first bit of an address is gathered already, and seven more make A0H in one run
pub start_needed : ◌≡◌ {A = Tested × (ℕ × ℕ)} (tests 4 polling gathering_machine (since []) (seven_bits 0x20) (seven_bits 0x22), bytes 4 polling gathering_machine (seven_bits 0x20) (seven_bits 0x22))
    ((true, true, true, true, true), (0x28, 0x20))
unfolding opened
start_needed = refl

-- ---- the listed events

-- listed events that differ in the level of P00, which PT0 shows
pub events_needed : ◌≡◌ {A = Tested × (ℕ × ℕ)} (tests 1 (0xA5 ∷ 0x00 ∷ []) started_machine (since []) (event 0 0x03000000 ∷ []) (event 0 0x03000001 ∷ []), accumulators 1 (0xA5 ∷ 0x00 ∷ []) started_machine (event 0 0x03000000 ∷ []) (event 0 0x03000001 ∷ []))
    ((false, true, true, true, true), (0xFE, 0xFF))
unfolding opened
events_needed = refl

-- the instruction number that an event stands at: the fall is seen by one run alone
pub numbers_needed : ◌≡◌ {A = Tested × (ℕ × ℕ)} (tests 1 (0xA5 ∷ 0x00 ∷ []) started_machine (since []) (event 0 0x03000000 ∷ []) (event 1 0x03000000 ∷ []), accumulators 1 (0xA5 ∷ 0x00 ∷ []) started_machine (event 0 0x03000000 ∷ []) (event 1 0x03000000 ∷ []))
    ((false, true, true, true, true), (0xFE, 0xFF))
unfolding opened
numbers_needed = refl

-- ---- what happens

-- an address that matches in the first run: flag A
pub match_needed : ◌≡◌ {A = Tested × (ℕ × ℕ)} (tests 4 polling started_machine (since []) (transfer 0 0xa0) (transfer 0 0xa2), bytes 4 polling started_machine (transfer 0 0xa0) (transfer 0 0xa2))
    ((true, false, true, true, true), (0x28, 0x20))
unfolding opened
match_needed = refl

-- and in the second
pub second_match_needed : ◌≡◌ {A = Tested × (ℕ × ℕ)} (tests 4 polling started_machine (since []) (transfer 0 0xa2) (transfer 0 0xa0), bytes 4 polling started_machine (transfer 0 0xa2) (transfer 0 0xa0))
    ((true, true, false, true, true), (0x20, 0x28))
unfolding opened
second_match_needed = refl

-- an address that matches II ADR as the CPU wrote it
pub own_address_needed : ◌≡◌ {A = Tested × (ℕ × ℕ)} (tests 4 adr_writing started_machine (since []) (transfer 0 0x54) (transfer 0 0xa2), bytes 4 adr_writing started_machine (transfer 0 0x54) (transfer 0 0xa2))
    ((true, false, true, true, true), (0x28, 0x20))
unfolding opened
own_address_needed = refl

-- and as the list wrote it
pub listed_address_needed : ◌≡◌ {A = Tested × (ℕ × ℕ)} (tests 4 polling started_machine (since []) (listed_address 0x54) (listed_address 0xa2), bytes 4 polling started_machine (listed_address 0x54) (listed_address 0xa2))
    ((true, false, true, true, true), (0x28, 0x20))
unfolding opened
listed_address_needed = refl

-- DDC turned off by the CPU: PT3 shows SDA
pub ddc_needed : ◌≡◌ {A = Tested × (ℕ × ℕ)} (tests 3 turning_off started_machine (since []) (sda_put 0 0) (sda_put 0 1), accumulators 3 turning_off started_machine (sda_put 0 0) (sda_put 0 1))
    ((true, false, true, true, true), (0, 1))
unfolding opened
ddc_needed = refl

-- and by the list
pub listed_ddc_needed : ◌≡◌ {A = Tested × (ℕ × ℕ)} (tests 1 port3_reading started_machine (since []) (turned_off 0) (turned_off 1), accumulators 1 port3_reading started_machine (turned_off 0) (turned_off 1))
    ((true, false, false, true, true), (0, 1))
unfolding opened
listed_ddc_needed = refl

-- a reset by the RESET pin turns DDC off as well: a listed read of PT3 shows SDA
pub reset_needed : ◌≡◌ {A = Tested × (ℕ × ℕ)} (tests 1 polling started_machine (since []) (reset_with 0) (reset_with 1), (get_or (runs 1 0 polling (reset_with 0) started_machine).answers 4 0, get_or (runs 1 0 polling (reset_with 1) started_machine).answers 4 0))
    ((true, false, false, true, true), (0, 1))
unfolding opened
reset_needed = refl

-- so does the 64th watchdog clock
pub watchdog_needed : ◌≡◌ {A = Tested × (ℕ × ℕ)} (tests 1 polling started_machine (since []) (expired_with 0) (expired_with 1), (get_or (runs 1 0 polling (expired_with 0) started_machine).answers 66 0, get_or (runs 1 0 polling (expired_with 1) started_machine).answers 66 0))
    ((true, false, false, true, true), (0, 1))
unfolding opened
watchdog_needed = refl

-- DDC1 asked for by the CPU: the rises of VSYNCI load II DAT, which holds the foreign address
pub ddc1_needed : ◌≡◌ {A = Tested × (ℕ × ℕ)} (tests 6 asking_ddc1 started_machine (since []) (with_vsync 0xa2) (with_vsync 0x54), shifted asking_ddc1 (with_vsync 0xa2) (with_vsync 0x54))
    ((true, false, true, true, true), (0xa2, 0x54))
unfolding opened
ddc1_needed = refl

-- and by the list, the CPU doing nothing (NOP)
pub listed_ddc1_needed : ◌≡◌ {A = Tested × (ℕ × ℕ)} (tests 6 (times 6 0xEA) started_machine (since []) (asked_ddc1 0xa2) (asked_ddc1 0x54), shifted (times 6 0xEA) (asked_ddc1 0xa2) (asked_ddc1 0x54))
    ((true, false, false, true, true), (0xa2, 0x54))
unfolding opened
listed_ddc1_needed = refl

-- SDA falls in one run alone while SCL is high: a START
pub sda_needed : ◌≡◌ {A = Tested × (Phase × Phase)} (tests 1 port3_reading idle_machine none (event 0 0x03001800 ∷ []) (event 0 0x03001801 ∷ []), ((runs 1 0 port3_reading (event 0 0x03001800 ∷ []) idle_machine).machine.chip.core.bus.phase, (runs 1 0 port3_reading (event 0 0x03001801 ∷ []) idle_machine).machine.chip.core.bus.phase))
    ((true, true, true, false, true), (Address 0 0, Idle))
unfolding opened
sda_needed = refl

-- SDA falls in both runs while SCL is high, having been 0 before in one of them: a START in the other alone
pub sda_before_needed : ◌≡◌ {A = Tested × (Phase × Phase)} (tests 1 polling idle_machine none (fall_after 0) (fall_after 1), ((runs 1 0 polling (fall_after 0) idle_machine).machine.chip.core.bus.phase, (runs 1 0 polling (fall_after 1) idle_machine).machine.chip.core.bus.phase))
    ((true, true, true, false, true), (Idle, Address 0 0))
unfolding opened
sda_before_needed = refl

-- an instruction that reads II DAT
pub data_needed : ◌≡◌ {A = Tested × (ℕ × ℕ)} (tests 4 data_reading started_machine (since []) (transfer 0 0xa2) (transfer 0 0x54), accumulators 4 data_reading started_machine (transfer 0 0xa2) (transfer 0 0x54))
    ((true, true, true, true, false), (0xa2, 0x54))
unfolding opened
data_needed = refl

-- an opcode fetched from II DAT: A2H is LDX, 54H is not documented
pub opcode_needed : ◌≡◌ {A = Tested × (ℕ × ℕ)} (tests 5 data_fetching started_machine (since []) (transfer 0 0xa2) (transfer 0 0x54), ((runs 5 0 data_fetching (transfer 0 0xa2) started_machine).number, (runs 5 0 data_fetching (transfer 0 0x54) started_machine).number))
    ((true, true, true, true, false), (0, 20))
unfolding opened
opcode_needed = refl

-- INC 14 reads it too: its byte goes back to II DAT, but N tells A3H from 55H
pub changed_needed : ◌≡◌ {A = Tested × (Bool × Bool)} (tests 4 data_changing started_machine (since []) (transfer 0 0xa2) (transfer 0 0x54), ((runs 4 0 data_changing (transfer 0 0xa2) started_machine).machine.cpu.p.n, (runs 4 0 data_changing (transfer 0 0x54) started_machine).machine.cpu.p.n))
    ((true, true, true, true, false), (true, false))
unfolding opened
changed_needed = refl

-- a pointer in II DAT and II STS: to RAM at 00A2, and to the flags at 0010
pub pointer_needed : ◌≡◌ {A = Tested × (ℕ × ℕ)} (tests 4 data_pointing started_machine (since []) (transfer 0 0xa2) (transfer 0 0x10), accumulators 4 data_pointing started_machine (transfer 0 0xa2) (transfer 0 0x10))
    ((true, true, true, true, false), (0, 0x20))
unfolding opened
pointer_needed = refl

-- an instruction that is refused with 21 in both runs, its pointer leading to 0042 and to 0050: the accesses tell the runs apart
pub refused_needed : ◌≡◌ {A = Tested × (ℕ × ℕ) × (List Access × List Access)} (
  tests 4 data_pointing_y started_machine (since []) (transfer 0 0x42) (transfer 0 0x50),
  ((runs 4 0 data_pointing_y (transfer 0 0x42) started_machine).number, (runs 4 0 data_pointing_y (transfer 0 0x50) started_machine).number),
  (drop 8 (accesses_of (trace 4 0 data_pointing_y (transfer 0 0x42) started_machine)), drop 8 (accesses_of (trace 4 0 data_pointing_y (transfer 0 0x50) started_machine))),
) (
  (true, true, true, true, false),
  (21, 21),
  (read_at 0x14 (Byte 0x42) ∷ read_at 0x15 (Byte 0) ∷ read_at 0x42 (Refused 21) ∷ [], read_at 0x14 (Byte 0x50) ∷ read_at 0x15 (Byte 0) ∷ read_at 0x50 (Refused 21) ∷ []),
)
unfolding opened
refused_needed = refl

-- and not the CPU
pub refused_cpu_lem : ◌≡◌ {A = List ℕ × List ℕ} (refused_cpu 0x42, refused_cpu 0x50) (0xFF06 ∷ 0xA005 ∷ 7 ∷ [], 0xFF06 ∷ 0xA005 ∷ 7 ∷ [])
unfolding opened
refused_cpu_lem = refl
