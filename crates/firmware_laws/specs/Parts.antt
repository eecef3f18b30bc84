-- A firmware run taken in two parts (document 02, Wish 5): n instructions, then k more with the events that are left, renumbered.
use Rattle.std.specs.Prelude.{ℕ, ◌+◌, ◌-◌, ◌*◌, List, [], ◌∷◌, ◌++◌, eqb, length, take, drop}
use Rattle.bits.specs.Byte.{pick}
use Rattle.chip.specs.declared.Chip.{Chip}
use Rattle.cpu_operations.specs.declared.Cpu.{Cpu}
use Rattle.firmware_machine.specs.Machine.{Machine}
use Rattle.firmware_machine.specs.Run.{number_of, word_of, Ended, ended, runs, Called, firmware}

-- an event for a run that begins n instructions later; where its number is past, it is 0
abbrev pub earlier : ℕ → ℕ → ℕ
earlier n e = (number_of e - n) * 4294967296 + word_of e

abbrev pub renumbered : ℕ → List ℕ → List ℕ
renumbered n [] = []
renumbered n (e ∷ es) = earlier n e ∷ renumbered n es

-- one run and then another: the state of the second, the answers of both
abbrev pub followed : Ended → Ended → Ended
followed a b = ended b.machine b.number (a.next + b.next) (a.answers ++ b.answers)

-- after a run that ended in a: k instructions more, unless it was refused
abbrev pub going_on : Ended → ℕ → ℕ → List ℕ → List ℕ → Ended
going_on a n k rom es = pick (eqb a.number 0) (followed a (runs k 0 rom (renumbered n (drop (length a.answers) es)) a.machine)) a

abbrev pub run_in_parts : ℕ → ℕ → List ℕ → List ℕ → Machine → Ended
run_in_parts n k rom es m = going_on (runs n 0 rom es m) n k rom es

-- the same of the firmware call, the second with the answer places that are left
abbrev pub followed_call : Called → Called → Called
followed_call a b =
    record {
      number = b.number;
      cpu = b.cpu;
      ram = b.ram;
      chip = b.chip;
      answers = take a.given a.answers ++ b.answers;
      counted = a.counted + b.counted;
      given = a.given + b.given;
    }

abbrev pub calling_on : Called → ℕ → ℕ → List ℕ → List ℕ → List ℕ → Called
calling_on a n k rom es places =
    pick (eqb a.number 0) (followed_call a (firmware a.cpu a.ram rom a.chip (renumbered n (drop a.given es)) (drop a.given places) k)) a

abbrev pub call_in_parts : ℕ → ℕ → Cpu → List ℕ → List ℕ → Chip → List ℕ → List ℕ → Called
call_in_parts n k c ram rom chip es places = calling_on (firmware c ram rom chip es places n) n k rom es places
