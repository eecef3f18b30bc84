-- A firmware run in steps: the instructions up to each listed event, with no event between them, and the event (document 02, Wish 5).
use Rattle.std.specs.Prelude.{ℕ, zero, suc, ◌+◌, ◌-◌, List, [], ◌∷◌, eqb, ltb}
use Rattle.bits.specs.Byte.{pick}
use Rattle.events.specs.Word.{decode}
use Rattle.step.specs.Step.{answered}
use Rattle.firmware_machine.specs.Machine.{Machine}
use Rattle.firmware_machine.specs.Run.{number_of, word_of, occurred, Ended, ended, prepended, runs}

-- instructions from number i up to the one of number t
abbrev pub up_to : ℕ → ℕ → List ℕ → Machine → Ended
up_to t i rom m = runs (t - i) i rom [] m

abbrev pub least : ℕ → ℕ → ℕ
least n q = pick (ltb q n) q n

-- after the instructions before an event: it is given where none of them was refused and one more is to come
abbrev pub on_event : Ended → ℕ → (Ended → Ended) → Ended
on_event r n f = pick (eqb r.number 0) (pick (ltb r.next n) (f r) r) r

-- a run from number i up to the instruction of number n: for each event the instructions before it, the event with its answer, and so on; at
-- last the instructions that remain
unfoldable pub in_steps : ℕ → ℕ → List ℕ → List ℕ → Machine → Ended
in_steps n i rom [] m = up_to n i rom m
in_steps n i rom (e ∷ es) m =
    on_event (up_to (least n (number_of e)) i rom m) n
    (λ (r : Ended). prepended (answered r.machine.chip (decode (word_of e)) ∷ []) (in_steps n r.next rom es (occurred rom r.machine (word_of e))))

-- n instructions from number i as a trace does them: one at a time, up to the first that is refused
unfoldable pub traced : ℕ → ℕ → List ℕ → Machine → Ended
traced zero i rom m = ended m 0 i []
traced (suc n) i rom m =
    pick (eqb (runs 1 i rom [] m).number 0) (traced n (i + 1) rom (runs 1 i rom [] m).machine) (runs 1 i rom [] m)
