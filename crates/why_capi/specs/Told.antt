-- Why request lines are up, in numbers (document 02, Wish 3), from a state in a lent area (Wish 14).
use Rattle.std.specs.Prelude.{ℕ, List, [], ◌∷◌, eqb, Ok, Err}
use Rattle.bits.specs.Byte.{pick}
use Rattle.bus.specs.declared.OwnAddress.{OwnAddress}
use Rattle.bus.specs.declared.OwnAddress.TheVariants.{A0, IiAdr, Both}
use Rattle.why_last_set.specs.declared.Sort.{Sort}
use Rattle.why_last_set.specs.declared.Sort.TheVariants.{VsyncRise, P16Rise, Timer, MatchedAddress, NinthClock, Ddc1Load, SclFall}
use Rattle.why_reasons.specs.declared.Reason.{Reason}
use Rattle.why_reasons.specs.declared.Reason.TheVariants.{NotRequested, AlreadySet, Event}
use Rattle.why_reasons.specs.declared.Reasons.{Reasons}
use Rattle.why_reasons.specs.Explain.{Explanation, why, why_number}
use Rattle.state_area.specs.Area.{number_in, state_in}

-- the code of an answer: 0 not requested, 1 set at the start and never cleared, and the sorts from 2 on, a matched address by its outcome
unfoldable pub own_code : OwnAddress → ℕ
own_code A0 = 5
own_code IiAdr = 6
own_code Both = 7

unfoldable pub sort_code : Sort → ℕ
sort_code VsyncRise = 2
sort_code P16Rise = 3
sort_code Timer = 4
sort_code (MatchedAddress own) = own_code own
sort_code NinthClock = 8
sort_code Ddc1Load = 9
sort_code SclFall = 10

unfoldable pub reason_code : Reason → ℕ
reason_code NotRequested = 0
reason_code AlreadySet = 1
reason_code (Event place sort) = sort_code sort

-- the place that it names, else 0
unfoldable pub reason_place : Reason → ℕ
reason_place NotRequested = 0
reason_place AlreadySet = 0
reason_place (Event place sort) = place

-- code and place of each source, in the order V, E, R, A, D, S
unfoldable pub numbers_of : Reasons → List ℕ
numbers_of r =
    reason_code r.v ∷ reason_place r.v
    ∷ reason_code r.e ∷ reason_place r.e
    ∷ reason_code r.r ∷ reason_place r.r
    ∷ reason_code r.a ∷ reason_place r.a
    ∷ reason_code r.d ∷ reason_place r.d
    ∷ reason_code r.s ∷ reason_place r.s ∷ []

-- what is left in the places of an answer: nothing is written where the state is ill formed
abbrev pub told_by : Explanation → List ℕ → List ℕ
told_by (Err e) places = places
told_by (Ok reasons) places = numbers_of reasons

-- the number given back: 15, then 8, for the area
unfoldable pub why_number_in : List ℕ → List ℕ → ℕ
why_number_in area words = pick (eqb (number_in area) 0) (why_number (why (state_in area) words)) (number_in area)

-- and what is left in the places
unfoldable pub told_in : List ℕ → List ℕ → List ℕ → List ℕ
told_in area words places = pick (eqb (number_in area) 0) (told_by (why (state_in area) words) places) places
