-- The theorem at work: firmware that polls the flags while a host talks to another device, and firmware that sets up DDC and is interrupted.
use Prim.Native.Nat.{ℕ, ◌+◌}
use mathlib.Core.Path.{◌≡◌, refl, ap, ◌∙◌}
use mathlib.Core.Bool.{true}
use mathlib.Core.List.{List, [], ◌∷◌, ◌++◌}
use lib.ListN.{length, replicate, length-append, length-replicate}
use Rattle.bus.specs.declared.Phase.{Phase}
use Rattle.bus.specs.declared.Phase.TheVariants.{Ignoring}
use Rattle.isolation_laws.specs.Foreign.{since, start_seen, bus_idle}
use Rattle.cpu_memory.specs.declared.Loaded.TheVariants.{Byte}
use Rattle.cpu_instruction.specs.Program.{read_at, write_at}
use Rattle.firmware_machine.specs.Run.{runs, firmware}
use Rattle.firmware_isolation_laws.specs.Trace.{trace, accesses_of}
use Rattle.firmware_isolation_laws.specs.Transfers.{RunsAgree, CallsAgree}
use Rattle.firmware_isolation_laws.proofs.Runs.{firmware_runs_listed, firmware_runs, foreign_of, firmware_calls_listed}
use Rattle.firmware_cases.specs.Firmware.{cpu, ram, started_chip, started_machine, idle_machine, low_machine, interruptible_machine, event, transfer, whole, sda_put, times, polling, polling_rom, servicing_rom}
use Rattle.firmware_cases.specs.Tests.{tests}
use Rattle.firmware_cases.specs.Holds.{refusing, serviced, after_low}
use Rattle.firmware_cases.proofs.Opened.{opened}

-- ---- one transfer: A2H and 54H are not for this chip

pub rom_length : length polling_rom ≡ 24576
unfolding polling_rom
rom_length = length-append polling (replicate 24568 0) ∙ ap (λ (n : ℕ). 8 + n) (length-replicate {A = ℕ} 24568 0)

pub transfers_agree : CallsAgree (firmware cpu ram polling_rom started_chip (transfer 0 0xa2) (replicate 28 0) 4) (firmware cpu ram polling_rom started_chip (transfer 0 0x54) (replicate 28 0) 4)
    (trace 4 0 polling_rom (transfer 0 0xa2) started_machine) (trace 4 0 polling_rom (transfer 0 0x54) started_machine)
unfolding opened polling_rom
transfers_agree =
    firmware_calls_listed cpu ram polling_rom started_chip 4 refl rom_length refl start_seen (transfer 0 0xa2) (transfer 0 0x54) (replicate 28 0) (replicate 28 0) refl refl
    (record { events = refl; left = refl; right = refl; sda = refl; unread = refl })

-- SDA is left alone in them while SCL is high
pub one_transfer_agrees : RunsAgree (runs 4 0 polling (transfer 0 0xa2) started_machine) (runs 4 0 polling (transfer 0 0x54) started_machine) (trace 4 0 polling (transfer 0 0xa2) started_machine) (trace 4 0 polling (transfer 0 0x54) started_machine)
unfolding opened
one_transfer_agrees = firmware_runs_listed 4 polling started_machine refl refl start_seen (transfer 0 0xa2) (transfer 0 0x54) (foreign_of (record { events = refl; left = refl; right = refl; sda = refl; unread = refl }))

-- the accesses of both
pub accesses_made : accesses_of (trace 4 0 polling (transfer 0 0xa2) started_machine)
    ≡ read_at 0xA000 (Byte 0xA9) ∷ read_at 0xA001 (Byte 0x55) ∷ read_at 0xA002 (Byte 0x85) ∷ read_at 0xA003 (Byte 0x12) ∷ write_at 0x12 0x55
    ∷ read_at 0xA004 (Byte 0xA5) ∷ read_at 0xA005 (Byte 0x10) ∷ read_at 0x10 (Byte 0x20) ∷ read_at 0xA006 (Byte 0x85) ∷ read_at 0xA007 (Byte 0x80) ∷ write_at 0x80 0x20 ∷ []
unfolding opened
accesses_made = refl

-- both chips end ignoring, and II DAT is what differs
pub data_differs : ◌≡◌ {A = Phase × ℕ × ℕ} ((runs 4 0 polling (transfer 0 0xa2) started_machine).machine.chip.core.bus.phase, (runs 4 0 polling (transfer 0 0xa2) started_machine).machine.chip.core.bus.iidat, (runs 4 0 polling (transfer 0 0x54) started_machine).machine.chip.core.bus.iidat)
    (Ignoring, 0xa2, 0x54)
unfolding opened
data_differs = refl

-- ---- several transfers from an idle bus

pub several_agree : RunsAgree (runs 4 0 polling (whole 0 0xa2 ++ whole 2 0x10) idle_machine) (runs 4 0 polling (whole 0 0x54 ++ whole 2 0xee) idle_machine)
    (trace 4 0 polling (whole 0 0xa2 ++ whole 2 0x10) idle_machine) (trace 4 0 polling (whole 0 0x54 ++ whole 2 0xee) idle_machine)
unfolding opened
several_agree = firmware_runs_listed 4 polling idle_machine refl refl bus_idle (whole 0 0xa2 ++ whole 2 0x10) (whole 0 0x54 ++ whole 2 0xee) (record { events = refl; left = refl; right = refl; sda = refl; unread = refl })

-- ---- an instruction that is refused: NOP, then an opcode that is not documented

-- the lists agree, so that equally many of their events are given: the 18 before the two instructions, of 28
pub refused_agree : RunsAgree (runs 4 0 refusing (transfer 0 0xa2) started_machine) (runs 4 0 refusing (transfer 0 0x54) started_machine) (trace 4 0 refusing (transfer 0 0xa2) started_machine) (trace 4 0 refusing (transfer 0 0x54) started_machine)
unfolding opened
refused_agree = firmware_runs_listed 4 refusing started_machine refl refl start_seen (transfer 0 0xa2) (transfer 0 0x54) (record { events = refl; left = refl; right = refl; sda = refl; unread = refl })

pub refused_given : ◌≡◌ {A = List ℕ} (length (transfer 0 0xa2) ∷ length (runs 4 0 refusing (transfer 0 0xa2) started_machine).answers ∷ length (runs 4 0 refusing (transfer 0 0x54) started_machine).answers ∷ [])
    (28 ∷ 18 ∷ 18 ∷ [])
unfolding opened
refused_given = refl

-- what is listed past the run need not agree, nor what is listed behind a refused instruction where those given agree: an event before the
-- fifth instruction, and another before the third
pub past_agree : RunsAgree (runs 4 0 polling (transfer 0 0xa2 ++ (event 4 0x03000000 ∷ [])) started_machine) (runs 4 0 polling (transfer 0 0x54) started_machine)
    (trace 4 0 polling (transfer 0 0xa2 ++ (event 4 0x03000000 ∷ [])) started_machine) (trace 4 0 polling (transfer 0 0x54) started_machine)
unfolding opened
past_agree = firmware_runs_listed 4 polling started_machine refl refl start_seen (transfer 0 0xa2 ++ (event 4 0x03000000 ∷ [])) (transfer 0 0x54) (record { events = refl; left = refl; right = refl; sda = refl; unread = refl })

pub behind_agree : RunsAgree (runs 4 0 refusing (sda_put 0 0 ++ (event 2 0x03000000 ∷ [])) started_machine) (runs 4 0 refusing (sda_put 0 1) started_machine)
    (trace 4 0 refusing (sda_put 0 0 ++ (event 2 0x03000000 ∷ [])) started_machine) (trace 4 0 refusing (sda_put 0 1) started_machine)
unfolding opened
behind_agree = firmware_runs 4 refusing started_machine refl refl start_seen (sda_put 0 0 ++ (event 2 0x03000000 ∷ [])) (sda_put 0 1) (record { events = refl; left = refl; right = refl; sda = refl; unread = refl })

-- ---- an interrupt is taken, and registers of DDC are read and written as the premises allow

-- the list too writes II ADR, II DAT, II STS and MDCON, before the eighth instruction; then comes an address, and flag S with its first fall of
-- SCL. FEH would match II ADR as it was at first, and 54H as the CPU wrote it.
pub interrupted_agree : RunsAgree (runs 14 0 servicing_rom (serviced 0x54) interruptible_machine) (runs 14 0 servicing_rom (serviced 0xfe) interruptible_machine)
    (trace 14 0 servicing_rom (serviced 0x54) interruptible_machine) (trace 14 0 servicing_rom (serviced 0xfe) interruptible_machine)
unfolding opened servicing_rom
interrupted_agree = firmware_runs_listed 14 servicing_rom interruptible_machine refl refl start_seen (serviced 0x54) (serviced 0xfe) (record { events = refl; left = refl; right = refl; sda = refl; unread = refl })

-- the interrupt stands between STA 05 and LDA 15, and RTI leads back to LDA 04
pub interrupted_accesses : accesses_of (trace 14 0 servicing_rom (serviced 0x54) interruptible_machine)
    ≡ read_at 0xA000 (Byte 0xA9) ∷ read_at 0xA001 (Byte 0x20) ∷ read_at 0xA002 (Byte 0x85) ∷ read_at 0xA003 (Byte 0x0F) ∷ write_at 0x0F 0x20
    ∷ read_at 0xA004 (Byte 0xA9) ∷ read_at 0xA005 (Byte 0x54) ∷ read_at 0xA006 (Byte 0x85) ∷ read_at 0xA007 (Byte 0x13) ∷ write_at 0x13 0x54
    ∷ read_at 0xA008 (Byte 0x85) ∷ read_at 0xA009 (Byte 0x14) ∷ write_at 0x14 0x54 ∷ read_at 0xA00A (Byte 0xA9) ∷ read_at 0xA00B (Byte 0x00)
    ∷ read_at 0xA00C (Byte 0x85) ∷ read_at 0xA00D (Byte 0x15) ∷ write_at 0x15 0x00 ∷ read_at 0xA00E (Byte 0x85) ∷ read_at 0xA00F (Byte 0x05) ∷ write_at 0x05 0x00
    ∷ write_at 0x1FF 0xA0 ∷ write_at 0x1FE 0x10 ∷ write_at 0x1FD 0x2B ∷ read_at 0xFFFE (Byte 0x12) ∷ read_at 0xFFFF (Byte 0xA0)
    ∷ read_at 0xA012 (Byte 0xA5) ∷ read_at 0xA013 (Byte 0x15) ∷ read_at 0x15 (Byte 0x00) ∷ read_at 0xA014 (Byte 0xA5) ∷ read_at 0xA015 (Byte 0x04) ∷ read_at 0x04 (Byte 0x03)
    ∷ read_at 0xA016 (Byte 0xA9) ∷ read_at 0xA017 (Byte 0x3F) ∷ read_at 0xA018 (Byte 0x85) ∷ read_at 0xA019 (Byte 0x11) ∷ write_at 0x11 0x3F
    ∷ read_at 0xA01A (Byte 0x40) ∷ read_at 0x1FD (Byte 0x2B) ∷ read_at 0x1FE (Byte 0x10) ∷ read_at 0x1FF (Byte 0xA0)
    ∷ read_at 0xA010 (Byte 0xA5) ∷ read_at 0xA011 (Byte 0x04) ∷ read_at 0x04 (Byte 0x03) ∷ []
unfolding opened servicing_rom
interrupted_accesses = refl

-- ---- RESET low at first: the first instruction does nothing, writes that would turn DDC off or ask for DDC1 are refused, a clock then is not
-- gathered, and the transfer begins once RESET is high

pub low_agrees : RunsAgree (runs 5 0 polling (after_low 0xa2) low_machine) (runs 5 0 polling (after_low 0x55) low_machine) (trace 5 0 polling (after_low 0xa2) low_machine) (trace 5 0 polling (after_low 0x55) low_machine)
unfolding opened
low_agrees = firmware_runs 5 polling low_machine refl refl start_seen (after_low 0xa2) (after_low 0x55) (record { events = refl; left = refl; right = refl; sda = refl; unread = refl })

-- ---- the CPU clears the watchdog: 40 clocks before it does and 40 after are no reset

pub watchdog_cleared : tests 4 polling started_machine (since []) (times 40 (event 0 0x04000300) ++ times 40 (event 3 0x04000300)) (times 40 (event 0 0x04000300) ++ times 40 (event 3 0x04000300))
    ≡ (true, true, true, true, true)
unfolding opened
watchdog_cleared = refl
