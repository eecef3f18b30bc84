-- Small firmware and lists of events for it.
use Rattle.std.specs.Prelude.{ℕ, ◌+◌, ◌*◌, ◌/◌, ◌%◌, true, false, List, [], ◌∷◌, ◌++◌, replicate}
use Rattle.events.specs.Word.{decode}
use Rattle.chip.specs.declared.Chip.{Chip}
use Rattle.chip.specs.State.{fresh, chip_of, with_reset}
use Rattle.chip_events.specs.Outcome.{next}
use Rattle.cpu_operations.specs.declared.Cpu.{Cpu}
use Rattle.cpu_operations.specs.Operations.{flags}
use Rattle.firmware_machine.specs.Machine.{Machine, machine}

-- the CPU at A000 with I set
abbrev pub cpu : Cpu
cpu = record { a = 0; x = 0; y = 0; s = 255; p = flags false false false true false false; pc = 0xA000; over = 0 }

-- RAM of zeros
abbrev pub ram : List ℕ
ram = replicate 256 0

-- A 7, D and C set, I clear; then the first CPU with 31 cycles over, and with 32, which is ill formed
abbrev pub interruptible_cpu : Cpu
interruptible_cpu = record { a = 7; x = 0; y = 0; s = 255; p = flags false false true false false true; pc = 0xA000; over = 0 }

abbrev pub over31_cpu : Cpu
over31_cpu = record { a = 0; x = 0; y = 0; s = 255; p = flags false false false true false false; pc = 0xA000; over = 31 }

abbrev pub over32_cpu : Cpu
over32_cpu = record { a = 0; x = 0; y = 0; s = 255; p = flags false false false true false false; pc = 0xA000; over = 32 }

-- words given one after another
abbrev pub words_given : Chip → List ℕ → Chip
words_given k [] = k
words_given k (w ∷ ws) = words_given (next k (decode w)) ws

-- MDCON and II STS written 0: DDC2B, the bus idle; then a START
unfoldable pub idle_chip : Chip
idle_chip = words_given fresh (0x02000500 ∷ 0x02001500 ∷ [])

unfoldable pub started_chip : Chip
started_chip = words_given fresh (0x02000500 ∷ 0x02001500 ∷ 0x03001800 ∷ [])

unfoldable pub started_machine : Machine
unfolding started_chip
started_machine = machine cpu ram started_chip

unfoldable pub idle_machine : Machine
unfolding idle_chip
idle_machine = machine cpu ram idle_chip

-- a fresh chip, with DDC off; and a chip that has gathered one bit of an address, a 1
unfoldable pub fresh_machine : Machine
fresh_machine = machine cpu ram fresh

unfoldable pub gathering_machine : Machine
unfolding started_chip
gathering_machine = machine cpu ram (words_given started_chip (0x03001900 ∷ 0x03001801 ∷ 0x03001901 ∷ []))

-- RESET low in the middle of a transfer, which no run from a fresh chip reaches
unfoldable pub low_machine : Machine
unfolding started_chip
low_machine = machine cpu ram (chip_of started_chip.registers (with_reset started_chip.core false))

-- flag S, raised by a fall of SCL, is enabled, so that a request stands
unfoldable pub requesting_machine : Machine
unfolding started_chip
requesting_machine = machine interruptible_cpu ram (words_given started_chip (0x02000F20 ∷ 0x03001900 ∷ []))

-- a request as before; N and D set and I clear, no register at 0, five cycles over
unfoldable pub working_machine : Machine
unfolding started_chip
working_machine =
    machine (record { a = 7; x = 8; y = 9; s = 0x80; p = flags true false true false false false; pc = 0xA000; over = 5 }) ram
    (words_given started_chip (0x02000F20 ∷ 0x03001900 ∷ []))

unfoldable pub over31_machine : Machine
unfolding started_chip
over31_machine = machine over31_cpu ram started_chip

-- I clear at a START, no flag enabled yet
unfoldable pub interruptible_machine : Machine
unfolding started_chip
interruptible_machine = machine interruptible_cpu ram started_chip

-- JSR 1234 in RAM at 01FD, where the stack is
unfoldable pub stack_machine : Machine
unfolding started_chip
stack_machine =
    machine (record { a = 0; x = 0; y = 0; s = 255; p = flags false false false true false false; pc = 0x1FD; over = 0 })
    (replicate 125 0 ++ (0x20 ∷ 0x34 ∷ 0x12 ∷ replicate 128 0)) started_chip

-- the first CPU with X 20H
unfoldable pub index_machine : Machine
unfolding started_chip
index_machine = machine (record { a = 0; x = 0x20; y = 0; s = 255; p = flags false false false true false false; pc = 0xA000; over = 0 }) ram started_chip

-- a listed event for instruction i
abbrev pub event : ℕ → ℕ → ℕ
event i w = i * 4294967296 + w

-- a bit on the bus before instruction i: SCL falls, SDA is put, SCL rises
unfoldable pub clock_bit : ℕ → ℕ → List ℕ
clock_bit i level = event i 0x03001900 ∷ event i (0x03001800 + level) ∷ event i 0x03001901 ∷ []

-- a byte, top bit first, and a ninth clock with SDA high, from instruction i on, three bits before each of three; then II DAT is read
unfoldable pub transfer : ℕ → ℕ → List ℕ
unfolding clock_bit
transfer i n =
    clock_bit i (n / 128 % 2) ++ (clock_bit i (n / 64 % 2) ++ (clock_bit i (n / 32 % 2)
    ++ (clock_bit (i + 1) (n / 16 % 2) ++ (clock_bit (i + 1) (n / 8 % 2) ++ (clock_bit (i + 1) (n / 4 % 2)
    ++ (clock_bit (i + 2) (n / 2 % 2) ++ (clock_bit (i + 2) (n % 2) ++ (clock_bit (i + 2) 1 ++ (event (i + 2) 0x01001400 ∷ [])))))))))

-- seven bits before the first instruction, the top one first
unfoldable pub seven_bits : ℕ → List ℕ
unfolding clock_bit
seven_bits n =
    clock_bit 0 (n / 64 % 2) ++ (clock_bit 0 (n / 32 % 2) ++ (clock_bit 0 (n / 16 % 2) ++ (clock_bit 0 (n / 8 % 2)
    ++ (clock_bit 0 (n / 4 % 2) ++ (clock_bit 0 (n / 2 % 2) ++ clock_bit 0 (n % 2))))))

-- START, a transfer and a STOP, from instruction i on
unfoldable pub whole : ℕ → ℕ → List ℕ
unfolding clock_bit transfer
whole i n = event i 0x03001800 ∷ (transfer i n ++ (clock_bit (i + 2) 0 ++ (event (i + 2) 0x03001801 ∷ [])))

-- SCL falls and SDA is put, before instruction i
abbrev pub sda_put : ℕ → ℕ → List ℕ
sda_put i level = event i 0x03001900 ∷ event i (0x03001800 + level) ∷ []

-- n times the same event
abbrev pub times : ℕ → ℕ → List ℕ
times n e = replicate n e

-- ---- programs

-- LDA #55, STA 12 (the watchdog), LDA 10 (the flags), STA 80
abbrev pub polling : List ℕ
polling = 0xA9 ∷ 0x55 ∷ 0x85 ∷ 0x12 ∷ 0xA5 ∷ 0x10 ∷ 0x85 ∷ 0x80 ∷ []

-- the whole ROM of it
unfoldable pub polling_rom : List ℕ
polling_rom = polling ++ replicate 24568 0

-- LDA #54, STA 13 (II ADR), LDA 10, STA 80
abbrev pub adr_writing : List ℕ
adr_writing = 0xA9 ∷ 0x54 ∷ 0x85 ∷ 0x13 ∷ 0xA5 ∷ 0x10 ∷ 0x85 ∷ 0x80 ∷ []

-- LDA #08, STA 15 (DDC off), LDA 04 (PT3, which then shows SDA)
abbrev pub turning_off : List ℕ
turning_off = 0xA9 ∷ 0x08 ∷ 0x85 ∷ 0x15 ∷ 0xA5 ∷ 0x04 ∷ []

-- NOP, NOP, NOP, LDA #01, STA 05 (DDC1), NOP
abbrev pub asking_ddc1 : List ℕ
asking_ddc1 = 0xEA ∷ 0xEA ∷ 0xEA ∷ 0xA9 ∷ 0x01 ∷ 0x85 ∷ 0x05 ∷ 0xEA ∷ []

-- LDA 04
abbrev pub port3_reading : List ℕ
port3_reading = 0xA5 ∷ 0x04 ∷ []

-- NOP, NOP, NOP, LDA 14 (II DAT)
abbrev pub data_reading : List ℕ
data_reading = 0xEA ∷ 0xEA ∷ 0xEA ∷ 0xA5 ∷ 0x14 ∷ []

-- NOP, NOP, NOP, JMP 0014
abbrev pub data_fetching : List ℕ
data_fetching = 0xEA ∷ 0xEA ∷ 0xEA ∷ 0x4C ∷ 0x14 ∷ 0x00 ∷ []

-- NOP, NOP, NOP, INC 14
abbrev pub data_changing : List ℕ
data_changing = 0xEA ∷ 0xEA ∷ 0xEA ∷ 0xE6 ∷ 0x14 ∷ []

-- LDA #00, STA 15 (START cleared, so that II STS reads 00), NOP, LDA (14,X)
abbrev pub data_pointing : List ℕ
data_pointing = 0xA9 ∷ 0x00 ∷ 0x85 ∷ 0x15 ∷ 0xEA ∷ 0xA1 ∷ 0x14 ∷ []

-- the same with LDA (14),Y
abbrev pub data_pointing_y : List ℕ
data_pointing_y = 0xA9 ∷ 0x00 ∷ 0x85 ∷ 0x15 ∷ 0xEA ∷ 0xB1 ∷ 0x14 ∷ []

-- LDA #20, STA 0F (flag S enabled), LDA #54, STA 13 (II ADR), STA 14 (II DAT), LDA #00, STA 15 (II STS, ENDDC 0), STA 05 (MDCON, MD1/2 0),
-- LDA 04 (PT3); from A012 on an interrupt routine: LDA 15, LDA 04, LDA #3F, STA 11 (the flags cleared), RTI
abbrev pub servicing : List ℕ
servicing =
    0xA9 ∷ 0x20 ∷ 0x85 ∷ 0x0F ∷ 0xA9 ∷ 0x54 ∷ 0x85 ∷ 0x13 ∷ 0x85 ∷ 0x14 ∷ 0xA9 ∷ 0x00 ∷ 0x85 ∷ 0x15 ∷ 0x85 ∷ 0x05 ∷ 0xA5 ∷ 0x04
    ∷ 0xA5 ∷ 0x15 ∷ 0xA5 ∷ 0x04 ∷ 0xA9 ∷ 0x3F ∷ 0x85 ∷ 0x11 ∷ 0x40 ∷ []

-- the whole ROM of it, with the vector of the interrupt
unfoldable pub servicing_rom : List ℕ
servicing_rom = servicing ++ (replicate 24547 0 ++ (0x12 ∷ 0xA0 ∷ []))

-- a whole ROM of NOPs: a reset leads to B234, an interrupt to C012
unfoldable pub resting_rom : List ℕ
resting_rom = replicate 24572 0xEA ++ (0x34 ∷ 0xB2 ∷ 0x12 ∷ 0xC0 ∷ [])
