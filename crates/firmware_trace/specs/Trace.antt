-- A firmware run from power up, step by step, with its counts, and what a trace shows of the instruction to come (document 02, Wish 5).
use Rattle.std.specs.Prelude.{ℕ, ◌+◌, ◌%◌, ◌^◌, Bool, true, ◌&&◌, List, [], ◌==◌, nat_lt}
use Rattle.chip.specs.declared.Chip.{Chip}
use Rattle.chip.specs.State.{fresh}
use Rattle.cpu_operations.specs.declared.Cpu.{Cpu}
use Rattle.firmware_machine.specs.Machine.{Machine, machine, load}
use Rattle.firmware_machine.specs.Run.{firmware}
use Rattle.firmware_run.specs.declared.FirmwareResult.{FirmwareResult}
use Rattle.firmware_run.specs.Firmware.{result_of}
use Rattle.firmware_steps.specs.declared.Given.{Given}
use Rattle.firmware_steps.specs.Steps.{power_up, given_by, is_due, before_instruction}
use Rattle.firmware_trace.specs.declared.Run.{Run}
use Rattle.firmware_trace.specs.declared.Fetched.{Fetched}

-- ---- power up: nothing is counted

abbrev pub started : Cpu → Chip → Run
started c k = record { cpu = c; chip = k; next = 0; number = 0; given = 0; answer = 0; printed = true }

abbrev pub powered_up : List ℕ → Run
powered_up rom = started (power_up rom) fresh

-- ---- whether another instruction may follow: none was refused, all is printed, and fewer than `count` are done

unfoldable pub goes_on : ℕ → Bool → ℕ → ℕ → Bool
goes_on number printed next count = (number == 0 && printed) && nat_lt next count

-- ---- instructions with no event between, as a firmware call with an empty list does them

-- the next instruction is the one of number n
abbrev pub result_at : ℕ → Run → FirmwareResult → Run
result_at n r x =
    record { cpu = x.cpu; chip = x.chip; next = n; number = x.number; given = r.given; answer = r.answer; printed = r.printed }

-- those done are counted, in 32 bits
abbrev pub with_result : Run → FirmwareResult → Run
with_result r x = result_at ((r.next + x.counted) % 2 ^ 32) r x

abbrev pub ran_on : List ℕ → List ℕ → Run → ℕ → Run
ran_on rom ram r n = with_result r (result_of (firmware r.cpu ram rom r.chip [] [] n))

-- RAM after them
abbrev pub ram_on : List ℕ → List ℕ → Run → ℕ → List ℕ
ram_on rom ram r n = (firmware r.cpu ram rom r.chip [] [] n).ram

-- ---- an event, the n-th one

abbrev pub given_at : ℕ → Run → Given → Run
given_at n r g =
    record { cpu = g.cpu; chip = g.chip; next = r.next; number = r.number; given = n; answer = g.answer; printed = r.printed }

-- counted in 64 bits
abbrev pub with_given : Run → Given → Run
with_given r g = given_at ((r.given + 1) % 2 ^ 64) r g

abbrev pub given_to : List ℕ → Run → ℕ → Run
given_to rom r w = with_given r (given_by rom r.cpu r.chip w)

-- ---- before an instruction

-- the CPU behind the interrupt, whether one is taken, whether RESET is high, and what is read at PC
abbrev pub fetched_from : List ℕ → Machine → Bool → Fetched
fetched_from rom m taken =
    record { cpu = m.cpu; taken = taken; high = m.chip.core.reset; opcode = load m.ram m.chip rom m.cpu.pc }

abbrev pub fetched : List ℕ → List ℕ → Run → Fetched
fetched rom ram r = fetched_from rom (before_instruction rom (machine r.cpu ram r.chip)) (is_due r.cpu r.chip)
