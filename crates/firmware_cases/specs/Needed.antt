-- Lists of events for the runs that differ once a premise is dropped, and what is compared of two runs.
use Rattle.std.specs.Prelude.{ℕ, List, [], ◌∷◌, ◌++◌, get_or}
use Rattle.firmware_machine.specs.Machine.{Machine}
use Rattle.firmware_machine.specs.Run.{runs}
use Rattle.firmware_cases.specs.Firmware.{started_machine, event, transfer, sda_put, times, data_pointing_y}
use Rattle.firmware_cases.specs.Instructions.{registers_of}

-- A after n instructions in each run
abbrev pub accumulators : ℕ → List ℕ → Machine → List ℕ → List ℕ → ℕ × ℕ
accumulators n rom m es fs = ((runs n 0 rom es m).machine.cpu.a, (runs n 0 rom fs m).machine.cpu.a)

-- and the byte at 0080
abbrev pub bytes : ℕ → List ℕ → Machine → List ℕ → List ℕ → ℕ × ℕ
bytes n rom m es fs = (get_or (runs n 0 rom es m).machine.ram 0 0, get_or (runs n 0 rom fs m).machine.ram 0 0)

-- II ADR written with 54H by the list, then an address
abbrev pub listed_address : ℕ → List ℕ
listed_address n = event 0 0x02001354 ∷ transfer 0 n

-- SDA put, and ENDDC written 1 by the list
abbrev pub turned_off : ℕ → List ℕ
turned_off level = sda_put 0 level ++ (event 0 0x02001508 ∷ [])

-- SDA put, RESET low and high again, and PT3 read
abbrev pub reset_with : ℕ → List ℕ
reset_with level = sda_put 0 level ++ (event 0 0x03001C00 ∷ event 0 0x03001C01 ∷ event 0 0x01000400 ∷ [])

-- SDA put, 64 watchdog clocks, and PT3 read
abbrev pub expired_with : ℕ → List ℕ
expired_with level = sda_put 0 level ++ (times 64 (event 0 0x04000300) ++ (event 0 0x01000400 ∷ []))

-- VSYNCI low and high, once and ten times
abbrev pub pulse : List ℕ
pulse = event 5 0x03001B00 ∷ event 5 0x03001B01 ∷ []

abbrev pub pulses : List ℕ
pulses = pulse ++ (pulse ++ (pulse ++ (pulse ++ (pulse ++ (pulse ++ (pulse ++ (pulse ++ (pulse ++ pulse))))))))

-- an address, then the pulses
abbrev pub with_vsync : ℕ → List ℕ
with_vsync n = transfer 0 n ++ pulses

-- what the shift register holds after six instructions in each run
abbrev pub shifted : List ℕ → List ℕ → List ℕ → ℕ × ℕ
shifted rom es fs = ((runs 6 0 rom es started_machine).machine.chip.core.bus.shifter.register, (runs 6 0 rom fs started_machine).machine.chip.core.bus.shifter.register)

-- an address, MD1/2 written 1 by the list, then the pulses
abbrev pub asked_ddc1 : ℕ → List ℕ
asked_ddc1 n = transfer 0 n ++ (event 5 0x02000501 ∷ pulses)

-- SDA put, SCL high, and SDA put to 0
abbrev pub fall_after : ℕ → List ℕ
fall_after level = sda_put 0 level ++ (event 0 0x03001901 ∷ event 0 0x03001800 ∷ [])

-- registers, PC and cycles over after a run that is refused
abbrev pub refused_cpu : ℕ → List ℕ
refused_cpu n = registers_of (runs 4 0 data_pointing_y (transfer 0 n) started_machine).machine.cpu ∷ (runs 4 0 data_pointing_y (transfer 0 n) started_machine).machine.cpu.pc ∷ (runs 4 0 data_pointing_y (transfer 0 n) started_machine).machine.cpu.over ∷ []
