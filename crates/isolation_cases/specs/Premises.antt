-- What is presumed of two runs through transfers to other devices (document 01, demand 3; document 02, Wish 13), premise by
-- premise, each a test that can be computed by itself.
use Rattle.std.specs.Prelude.{ℕ, ◌≡◌, List, [], ◌∷◌, Bool, true, false, not, ◌&&◌, ◌||◌, eqb}
use Rattle.std.specs.Bool.{beq}
use Rattle.bits.specs.Byte.{pick}
use Rattle.events.specs.Pins as pin
use Rattle.events.specs.Decoded.{Decoded}
use Rattle.events.specs.Kinds.{on_write, on_pin, on_clock}
use Rattle.events.specs.Word.{decode}
use Rattle.bus.specs.declared.Mode.{Mode}
use Rattle.bus.specs.declared.Mode.TheVariants.{Off, Ddc1, Ddc2b}
use Rattle.bus.specs.declared.Phase.{Phase}
use Rattle.bus.specs.declared.Phase.TheVariants.{Idle, Address, Addressed, Ignoring, Receive, Transmit, Held}
use Rattle.chip.specs.declared.Chip.{Chip}
use Rattle.chip.specs.State.{mode_of}
use Rattle.chip_well_formed.specs.WellFormed.{is_idle}
use Rattle.isolation_laws.specs.Foreign.{Trace, none, since, Observer, observer_of, observe, same_but_sda, accepted, turns_off, asks_ddc1, scl_rises, completes_match, reset_falls, watchdog_expires, untouched, throughout, RunsAgree}

-- a first state, and the words of the two runs
pub record Pair : Type 0 where
  pub first : Chip
  pub left : List ℕ
  pub right : List ℕ

-- ---- the first state

abbrev pub is_ddc2b : Mode → Bool
is_ddc2b Off = false
is_ddc2b Ddc1 = false
is_ddc2b Ddc2b = true

-- a START just seen, or a bus found idle
abbrev pub begun : Phase → Bool
begun Idle = true
begun (Address count bits) = eqb count 0 && eqb bits 0
begun (Addressed matched bits ninth) = false
begun Ignoring = false
begun (Receive matched count bits) = false
begun (Transmit matched count byte) = false
begun (Held matched clocks) = false

-- on a bus found idle no address is under way
abbrev pub trace_at : Phase → Trace
trace_at phase = pick (is_idle phase) none (since [])

-- what both observers begin with
abbrev pub observer_at : Chip → Observer
observer_at c = observer_of c (trace_at c.core.bus.phase)

-- ---- the two lists

abbrev pub equally_long : List ℕ → List ℕ → Bool
equally_long [] [] = true
equally_long [] (v ∷ vs) = false
equally_long (w ∷ ws) [] = false
equally_long (w ∷ ws) (v ∷ vs) = equally_long ws vs

-- at each place the same word, or two that touch SDA
abbrev pub same_words : List ℕ → List ℕ → Bool
same_words [] vs = true
same_words (w ∷ ws) [] = true
same_words (w ∷ ws) (v ∷ vs) = same_but_sda w v && same_words ws vs

-- ---- each run by itself

-- no write that is carried out turns DDC off
unfoldable pub keeps_on : Observer → Decoded → Bool
keeps_on o = on_write true (λ a b. not (accepted o a && turns_off a b))

-- no write that is carried out asks for DDC1
unfoldable pub keeps_ddc2b : Observer → Decoded → Bool
keeps_ddc2b o = on_write true (λ a b. not (accepted o a && asks_ddc1 a b))

-- no address that is completed matches
unfoldable pub matches_none : Observer → Decoded → Bool
matches_none o = on_pin true (λ p level. not (eqb p pin.SCL && (scl_rises o level && completes_match o.own o.sda o.trace)))

-- RESET does not go low
unfoldable pub keeps_reset : Observer → Decoded → Bool
keeps_reset o = on_pin true (λ p level. not (eqb p pin.RESET && reset_falls o level))

-- no watchdog clock is the 64th
unfoldable pub watchdog_waits : Observer → Decoded → Bool
watchdog_waits o = on_clock true (λ k. not (watchdog_expires o k))

abbrev pub in_both : (Observer → Decoded → Bool) → Pair → Bool
in_both test p = throughout test (observer_at p.first) p.left && throughout test (observer_at p.first) p.right

-- ---- the two runs side by side, where SDA is touched while SCL is high

abbrev pub alongside : (Observer → Observer → ℕ → ℕ → Bool) → Observer → Observer → List ℕ → List ℕ → Bool
alongside test o p [] vs = true
alongside test o p (w ∷ ws) [] = true
alongside test o p (w ∷ ws) (v ∷ vs) = test o p w v && alongside test (observe o (decode w)) (observe p (decode v)) ws vs

-- the event is the same in both runs
abbrev pub same_event : Observer → Observer → ℕ → ℕ → Bool
same_event o p w v = untouched o (decode w) || eqb w v

-- SDA is equal in both runs just before it
abbrev pub equal_before : Observer → Observer → ℕ → ℕ → Bool
equal_before o p w v = untouched o (decode w) || beq o.sda p.sda

abbrev pub at_high : (Observer → Observer → ℕ → ℕ → Bool) → Pair → Bool
at_high test p = alongside test (observer_at p.first) (observer_at p.first) p.left p.right

-- ---- all of them

pub data Premise : Type 0 where
  -- the first state
  in_ddc2b_lem : Premise
  start_or_idle : Premise
  -- the two lists
  equal_lengths : Premise
  equal_words : Premise
  -- each run by itself
  ddc_on_lem : Premise
  no_ddc1 : Premise
  no_match : Premise
  no_reset : Premise
  no_watchdog : Premise
  -- SDA while SCL is high
  same_events : Premise
  equal_sda : Premise

abbrev pub premises : List Premise
premises =
    in_ddc2b_lem ∷ start_or_idle ∷ equal_lengths ∷ equal_words ∷ ddc_on_lem ∷ no_ddc1 ∷ no_match ∷ no_reset ∷ no_watchdog ∷ same_events ∷ equal_sda ∷ []

abbrev pub holds : Pair → Premise → Bool
holds p in_ddc2b_lem = is_ddc2b (mode_of p.first.core)
holds p start_or_idle = begun p.first.core.bus.phase
holds p equal_lengths = equally_long p.left p.right
holds p equal_words = same_words p.left p.right
holds p ddc_on_lem = in_both keeps_on p
holds p no_ddc1 = in_both keeps_ddc2b p
holds p no_match = in_both matches_none p
holds p no_reset = in_both keeps_reset p
holds p no_watchdog = in_both watchdog_waits p
holds p same_events = at_high same_event p
holds p equal_sda = at_high equal_before p

-- those of some premises that do not hold of a pair
abbrev pub failing_of : Pair → List Premise → List Premise
failing_of p [] = []
failing_of p (k ∷ ks) = pick (holds p k) (failing_of p ks) (k ∷ failing_of p ks)

abbrev pub failing : Pair → List Premise
failing p = failing_of p premises

-- demand 3's conclusion
abbrev pub Agreeing : Pair → Type 0
Agreeing p = RunsAgree p.first p.left p.right

-- a premise is needed: of this pair all others hold, it does not, and the runs do not agree
pub record Needed (k : Premise) (p : Pair) : Type 0 where
  pub alone : failing p ≡ k ∷ []
  pub differ : Agreeing p → ⊥
