-- Two firmware runs through transfers that are not for this chip (document 02, Wish 5, with Wish 13): what is presumed of what happens in
-- them, and what is then the same.
use Rattle.std.specs.Prelude.{ℕ, ◌≡◌, Bool, true, false, not, ◌&&◌, List, [], ◌∷◌, length, eqb, ltb, Ok}
use Rattle.bits.specs.Byte.{pick}
use Rattle.registers.specs.Names.{IIDAT}
use Rattle.events.specs.Decoded.{Decoded}
use Rattle.events.specs.declared.Event.TheVariants.{Read, Write}
use Rattle.events.specs.Word.{decode}
use Rattle.isolation_laws.specs.Foreign.{Observer, observe, permitted, untouched, same_but_sda, equal_at_high, compared_answer, compared_answers, compared_state}
use Rattle.cpu_instruction.specs.Program.{read_at, write_at}
use Rattle.firmware_machine.specs.Run.{Ended, Called, number_of, word_of}
use Rattle.firmware_isolation_laws.specs.Trace.{Entry, given, made, words_of, events_of, accesses_of}

-- ---- the listed events

-- events that may stand at one place of the two lists: for the same instruction, and the same word, or both touching SDA
abbrev pub same_event : ℕ → ℕ → Bool
same_event e f = eqb (number_of e) (number_of f) && same_but_sda (word_of e) (word_of f)

abbrev pub alike_events : List ℕ → List ℕ → Bool
alike_events [] [] = true
alike_events [] (f ∷ fs) = false
alike_events (e ∷ es) [] = false
alike_events (e ∷ es) (f ∷ fs) = same_event e f && alike_events es fs

-- of a list, the events that a run of n instructions gives where none of them is refused: one with number n or more is not given, nor is any
-- behind it
abbrev pub within : ℕ → List ℕ → List ℕ
within n [] = []
within n (e ∷ es) = pick (ltb (number_of e) n) (e ∷ within n es) []

-- ---- what each run may not do

-- an entry as an event: the CPU reads and writes registers as listed words do; its accesses to RAM and ROM lead to no register
abbrev pub happening : Entry → Decoded
happening (given e x) = decode (word_of e)
happening (made (read_at a l)) = Ok (Read a)
happening (made (write_at a b)) = Ok (Write a b)

-- DDC2B stays selected, no address is the chip's, nothing resets it: by listed events
abbrev pub may_be_listed : Observer → Entry → Bool
may_be_listed o (given e x) = permitted o (decode (word_of e))
may_be_listed o (made a) = true

-- and by the CPU's writes too
abbrev pub may_happen : Observer → Entry → Bool
may_happen o x = permitted o (happening x)

-- the CPU does not read II DAT
abbrev pub leaves_data : Observer → Entry → Bool
leaves_data o (given e x) = true
leaves_data o (made (read_at a l)) = not (eqb a IIDAT)
leaves_data o (made (write_at a b)) = true

-- a test holds at each entry; what the observer knows of II ADR and the watchdog follows listed events and the CPU's writes alike
abbrev pub throughout : (Observer → Entry → Bool) → Observer → List Entry → Bool
throughout test o [] = true
throughout test o (x ∷ s) = test o x && throughout test (observe o (happening x)) s

-- SDA touched while SCL is high: equally in both runs
abbrev pub equal_entry : Observer → Observer → Entry → Entry → Bool
equal_entry o p (given e x) (given f y) = equal_at_high o p (word_of e) (word_of f)
equal_entry o p (given e x) (made b) = true
equal_entry o p (made a) y = true

abbrev pub equal_throughout : Observer → Observer → List Entry → List Entry → Bool
equal_throughout o p [] t = true
equal_throughout o p (x ∷ s) [] = true
equal_throughout o p (x ∷ s) (y ∷ t) = equal_entry o p x y && equal_throughout (observe o (happening x)) (observe p (happening y)) s t

-- what is presumed of two runs of n instructions with the lists es and fs, in which s and t happen: that the listed events agree. How many are
-- given is not presumed. Of the second run nothing is asked about what its CPU does.
pub record ForeignLists (n : ℕ) (es fs : List ℕ) (o p : Observer) (s t : List Entry) : Type 0 where
  pub events : alike_events (within n es) (within n fs) ≡ true
  pub left : throughout may_happen o s ≡ true
  pub right : throughout may_be_listed p t ≡ true
  pub sda : equal_throughout o p s t ≡ true
  pub unread : throughout leaves_data o s ≡ true

-- the same for lists that differ behind a refused instruction: the events given agree
pub record ForeignRuns (o p : Observer) (s t : List Entry) : Type 0 where
  pub events : alike_events (events_of s) (events_of t) ≡ true
  pub left : throughout may_happen o s ≡ true
  pub right : throughout may_be_listed p t ≡ true
  pub sda : equal_throughout o p s t ≡ true
  pub unread : throughout leaves_data o s ≡ true

-- one transfer: SDA is left alone while SCL is high. One run is enough for that: the other touches SDA at the same places.
abbrev pub leaves_sda : Observer → Entry → Bool
leaves_sda o (given e x) = untouched o (decode (word_of e))
leaves_sda o (made a) = true

pub record OneForeignTransfer (n : ℕ) (es fs : List ℕ) (o p : Observer) (s t : List Entry) : Type 0 where
  pub events : alike_events (within n es) (within n fs) ≡ true
  pub left : throughout may_happen o s ≡ true
  pub right : throughout may_be_listed p t ≡ true
  pub sda : throughout leaves_sda o s ≡ true
  pub unread : throughout leaves_data o s ≡ true

-- ---- what is the same

-- of a listed event: the number of its instruction and the compared part of its answer; of an access: all
abbrev pub compared_entry : Entry → Entry
compared_entry (given e x) = given (number_of e) (compared_answer (decode (word_of e)) x)
compared_entry (made a) = made a

abbrev pub compared_trace : List Entry → List Entry
compared_trace [] = []
compared_trace (x ∷ s) = compared_entry x ∷ compared_trace s

-- two runs that end in a and b agree
pub record RunsAgree (a b : Ended) (s t : List Entry) : Type 0 where
  pub number : a.number ≡ b.number
  pub counted : a.next ≡ b.next
  pub events_given : length a.answers ≡ length b.answers
  pub answers : compared_answers (words_of s) a.answers ≡ compared_answers (words_of t) b.answers
  pub accesses : accesses_of s ≡ accesses_of t
  pub order : compared_trace s ≡ compared_trace t
  pub cpu : a.machine.cpu ≡ b.machine.cpu
  pub ram : a.machine.ram ≡ b.machine.ram
  pub chip : compared_state a.machine.chip ≡ compared_state b.machine.chip

-- two calls that gave a and b agree; answer places past the events given are not compared
pub record CallsAgree (a b : Called) (s t : List Entry) : Type 0 where
  pub number : a.number ≡ b.number
  pub counted : a.counted ≡ b.counted
  pub events_given : a.given ≡ b.given
  pub answers : compared_answers (words_of s) a.answers ≡ compared_answers (words_of t) b.answers
  pub accesses : accesses_of s ≡ accesses_of t
  pub order : compared_trace s ≡ compared_trace t
  pub cpu : a.cpu ≡ b.cpu
  pub ram : a.ram ≡ b.ram
  pub chip : compared_state a.chip ≡ compared_state b.chip
