-- Runs by which the rules of a firmware run are computed.
use Rattle.std.specs.Prelude.{ℕ, List, [], ◌∷◌}
use Rattle.firmware_machine.specs.Machine.{Machine}
use Rattle.firmware_machine.specs.Run.{runs}
use Rattle.firmware_cases.specs.Firmware.{started_machine, requesting_machine, working_machine, event, times, resting_rom}

-- the number of one instruction
abbrev pub number_of_run : List ℕ → ℕ
number_of_run rom = (runs 1 0 rom [] started_machine).number

-- STA 80, then STA 0E, which is refused; and a listed write before each of three instructions
abbrev pub stopping : List ℕ
stopping = 0x85 ∷ 0x80 ∷ 0x85 ∷ 0x0E ∷ []

abbrev pub three_events : List ℕ
three_events = event 0 0x02001200 ∷ event 1 0x02001200 ∷ event 2 0x02001200 ∷ []

-- an interrupt, and the instruction behind it
abbrev pub interrupted_run : Machine
interrupted_run = (runs 1 0 [] [] requesting_machine).machine

-- n watchdog clocks, and a run of one instruction with them
abbrev pub watched : ℕ → List ℕ
watched n = times n (event 0 0x04000300)

abbrev pub clocked_run : ℕ → Machine
clocked_run n = (runs 1 0 resting_rom (watched n) working_machine).machine

-- two events, of which the second has the smaller number
abbrev pub late : List ℕ
late = event 5 0x01001000 ∷ event 3 0x01000F00 ∷ []
