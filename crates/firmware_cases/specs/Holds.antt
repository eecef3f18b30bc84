-- Lists of events for the runs in which demand 3 for firmware holds.
use Rattle.std.specs.Prelude.{ℕ, ◌%◌, List, [], ◌∷◌, ◌++◌}
use Rattle.firmware_cases.specs.Firmware.{clock_bit, event, transfer}

-- NOP, and an opcode that is not documented
abbrev pub refusing : List ℕ
refusing = 0xEA ∷ 0x02 ∷ []

-- II ADR, II DAT, II STS and MDCON written before the eighth instruction, then an address
abbrev pub serviced : ℕ → List ℕ
serviced n = event 7 0x02001356 ∷ event 7 0x02001412 ∷ event 7 0x02001530 ∷ event 7 0x02000502 ∷ transfer 8 n

-- ENDDC and MD1/2 written while RESET is low, a bit, and an address once RESET is high
abbrev pub after_low : ℕ → List ℕ
after_low n = event 0 0x02001508 ∷ event 0 0x02000501 ∷ (clock_bit 0 (n % 2) ++ (event 1 0x03001C01 ∷ transfer 1 n))
