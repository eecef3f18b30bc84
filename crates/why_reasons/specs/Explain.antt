-- Why a request line is up (document 02, Wish 3): for a state and a list of words, a reason for each of the six sources.
use Rattle.std.specs.Prelude.{ℕ, ◌+◌, ◌≡◌, Bool, true, false, List, [], ◌∷◌, ltb, Ok, Err}
use Rattle.std.specs.declared.result.Result.{Result}
use Rattle.bits.specs.Byte.{pick, bit}
use Rattle.events.specs.Word.{decode}
use Rattle.chip.specs.declared.Chip.{Chip}
use Rattle.chip.specs.State.{mode_of, requests}
use Rattle.chip_well_formed.specs.declared.IllFormed.{IllFormed}
use Rattle.chip_well_formed.specs.WellFormed.{well_formed}
use Rattle.step.specs.Step.{advance}
use Rattle.list_call.specs.Run.{advanced}
use Rattle.why_last_set.specs.declared.Sort.{Sort}
use Rattle.why_last_set.specs.declared.Last.{Last}
use Rattle.why_last_set.specs.declared.Last.TheVariants.{Never, At}
use Rattle.why_last_set.specs.LastSet.{Source, bit_of, noted, none_set, all_noted}
use Rattle.why_last_set.specs.LastSet.Source.{IntV, IntE, IntR, IntA, IntD, IntS}
use Rattle.why_reasons.specs.declared.Reason.{Reason}
use Rattle.why_reasons.specs.declared.Reason.TheVariants.{NotRequested, AlreadySet, Event}
use Rattle.why_reasons.specs.declared.Reasons.{Reasons}
use Rattle.why_reasons.specs.declared.Followed.{Followed}

-- ---- over the whole list

-- the later of two changes: the first where there is one, else the second
abbrev pub later : Last → Last → Last
later Never before = before
later (At place sort) before = At place sort

-- the last change of a source's flag from 0 to 1 in the words, told by the chips before and after each word; every word of the list
-- has a place, one that is refused or no event too
unfoldable pub last_set : Source → Chip → List ℕ → ℕ → Last
last_set s c [] place = Never
last_set s c (w ∷ ws) place =
    later (last_set s (advance c (decode w)).chip ws (place + 1))
    (noted s place c.core.irqx (mode_of c.core) (advance c (decode w)).chip.core Never)

-- the first of the three that holds: the line is not up; no word set the flag, so that it stands since the start; or the last word
-- that set it
unfoldable pub reason_by : Bool → Last → Reason
reason_by false last = NotRequested
reason_by true Never = AlreadySet
reason_by true (At place sort) = Event place sort

-- a source requests: its flag is set in IRQX and enabled in IEX
abbrev pub requesting : Source → Chip → Bool
requesting s c = bit (bit_of s) (requests c)

-- the reason of a source after the words, with places from 0
unfoldable pub reason_of : Source → Chip → List ℕ → Reason
reason_of s c words = reason_by (requesting s (advanced c words)) (last_set s c words 0)

-- the six reasons after the words, in the order V, E, R, A, D, S
abbrev pub reasons_after : Chip → List ℕ → Reasons
reasons_after c words =
    record {
      v = reason_of IntV c words;
      e = reason_of IntE c words;
      r = reason_of IntR c words;
      a = reason_of IntA c words;
      d = reason_of IntD c words;
      s = reason_of IntS c words;
    }

-- what is told of a state and a list: the six reasons, or that the state is ill formed
abbrev pub Explanation : Type 0
Explanation = Result Reasons IllFormed

-- an ill formed state is told before all else, else the six reasons
unfoldable pub why : Chip → List ℕ → Explanation
why c words = pick (well_formed c) (Ok (reasons_after c words)) (Err (record {}))

-- document 01's number of each case
abbrev pub why_number : Explanation → ℕ
why_number (Err e) = 8
why_number (Ok reasons) = 0

-- what a case says of the state and the words
unfoldable pub WhyValues : Chip → List ℕ → Explanation → Type 0
WhyValues c words (Err e) = well_formed c ≡ false
WhyValues c words (Ok reasons) = (well_formed c ≡ true) × (reasons ≡ reasons_after c words)

-- the number that is told: 8 where the state is ill formed, and no other
abbrev pub number_at : Chip → ℕ
number_at c = pick (well_formed c) 0 8

-- the number and the values of a case
pub record WhyCase (c : Chip) (words : List ℕ) (r : Explanation) : Type 0 where
  pub number : why_number r ≡ number_at c
  pub values : WhyValues c words r

-- ---- word by word, as a list is gone through once

-- the place behind another, up to the last that 64 bits tell
unfoldable pub next_place : ℕ → ℕ
next_place place = pick (ltb place 18446744073709551615) (place + 1) place

unfoldable pub start : Chip → Followed
start c = record { chip = c; place = 0; last = none_set }

unfoldable pub followed_by : Followed → ℕ → Followed
followed_by f w =
    record {
      chip = (advance f.chip (decode w)).chip;
      place = next_place f.place;
      last = all_noted f.place f.chip.core.irqx (mode_of f.chip.core) (advance f.chip (decode w)).chip.core f.last;
    }

abbrev pub followed : Followed → List ℕ → Followed
followed f [] = f
followed f (w ∷ ws) = followed (followed_by f w) ws

-- the reasons after the words followed
unfoldable pub reasons_of : Followed → Reasons
reasons_of f =
    record {
      v = reason_by (requesting IntV f.chip) f.last.v;
      e = reason_by (requesting IntE f.chip) f.last.e;
      r = reason_by (requesting IntR f.chip) f.last.r;
      a = reason_by (requesting IntA f.chip) f.last.a;
      d = reason_by (requesting IntD f.chip) f.last.d;
      s = reason_by (requesting IntS f.chip) f.last.s;
    }
