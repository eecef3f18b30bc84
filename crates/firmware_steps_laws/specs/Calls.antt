-- The same steps by firmware calls, each with an empty list and counted from 0, as the program takes them (document 02, Wish 5).
use Rattle.std.specs.Prelude.{ℕ, ◌+◌, ◌-◌, List, [], ◌∷◌}
use Rattle.events.specs.Word.{decode}
use Rattle.step.specs.Step.{answered}
use Rattle.firmware_machine.specs.Machine.{Machine, machine}
use Rattle.firmware_machine.specs.Run.{number_of, word_of, occurred, Ended, ended, prepended, Called, firmware}
use Rattle.firmware_steps_laws.specs.Steps.{least, on_event}

-- what a call leaves, the instructions before it counted
abbrev pub ended_by : ℕ → Called → Ended
ended_by i r = ended (machine r.cpu r.ram r.chip) r.number (i + r.counted) r.answers

-- instructions from number i up to the one of number t
abbrev pub call_to : ℕ → ℕ → List ℕ → Machine → Ended
call_to t i rom m = ended_by i (firmware m.cpu m.ram rom m.chip [] [] (t - i))

unfoldable pub in_calls : ℕ → ℕ → List ℕ → List ℕ → Machine → Ended
in_calls n i rom [] m = call_to n i rom m
in_calls n i rom (e ∷ es) m =
    on_event (call_to (least n (number_of e)) i rom m) n
    (λ (r : Ended). prepended (answered r.machine.chip (decode (word_of e)) ∷ []) (in_calls n r.next rom es (occurred rom r.machine (word_of e))))
