-- The plain reading lists what the stepping engine completes, up to the stop (document 02, Wish 11).
-- Assumes nothing.
use Prim.Native.Nat.{ℕ, zero, suc, ◌+◌, ◌-◌, ◌<◌, ◌≤◌}
use mathlib.Core.Path.{◌≡◌, refl, ap, ap₂, sym, ◌∙◌}
use mathlib.Core.List.{List, [], ◌∷◌, ◌++◌}
use mathlib.Core.Bool.{Bool, true, false, ◌||◌}
use native.Mathlib.Omega.{arith}
use lib.ListN.{length, get_or, take, drop}
use lib.Seq.{drop-cons}
use lib.Dec.{eqb, ltb}
use borrow.Author.Tests.{ltb-false, eqb-true}
use Rattle.bits.specs.Byte.{pick, num}
use Rattle.bits.proofs.Level.{num_eqb}
use Rattle.std.specs.Prelude.{Ok}
use Rattle.events.specs.Decoded.{Decoded}
use Rattle.events.specs.declared.Event.TheVariants.{Pin}
use Rattle.events.specs.Word.{decode, event, no_event, no_place, bad_byte, event_word}
use Rattle.bus.specs.declared.Phase.{Phase}
use Rattle.bus.specs.declared.Phase.TheVariants.{Idle}
use Rattle.chip.specs.declared.Core.{Core}
use Rattle.chip.specs.declared.Chip.{Chip}
use Rattle.chip_edges.specs.Edges.{scl_moved, sda_moved}
use Rattle.chip_pins.specs.Pins.{pin_kind, pin_moved_as, pin_moved}
use Rattle.chip_events.specs.Outcome.{core_after, next}
use Rattle.chip_well_formed.specs.WellFormed.{well_formed}
use Rattle.step.specs.Step.{advance, step}
use Rattle.chip_laws.proofs.WellFormed.{step_well_formed}
use Rattle.isolation_laws.specs.Related.{frame}
use Rattle.isolation_laws.proofs.Theorems.{flags_lt}
use Rattle.std.specs.Prelude.{Some, None}
use Rattle.std.specs.declared.option.Option.{Option}
use Rattle.plain_bus.specs.declared.Fault.{Fault}
use Rattle.plain_bus.specs.declared.Fault.TheVariants.{OtherLine, OtherLevel}
use Rattle.events.specs.Pins.{SDA, SCL}
use Rattle.plain_bus.specs.Plain.{line_of, level_of, line_at, high_at, level_before, scl_before, sda_before, Found, addresses, changes_to_stop}
use Rattle.plain_bus.specs.Reading.{fault_of, or_else, first_fault}
use Rattle.plain_bus_laws.specs.Stepping.{event_of, completed_by, Begins}
use Rattle.plain_bus_laws.proofs.Sampled.{Kind, At, sda_kind, scl_kind, at_sda, at_scl, Sampled, nothing, sampled_next, found_next, stops_next, found_in, read_in, turn, last_turn, Few, end_found, end_reads}
use Rattle.plain_bus_laws.proofs.Follows.{idle, few, Follows, follows, completes_core, Moved, sda_follows, scl_follows, stop_completes}

-- ---- a change with no fault

pub data Good (change : ℕ) : Type 0 where
  on_sda_lem : line_of change ≡ SDA → level_of change < 2 → Good change
  on_scl_lem : line_of change ≡ SCL → level_of change < 2 → Good change

good_by : (change : ℕ) (a b t : Bool) → eqb (line_of change) SDA ≡ a → eqb (line_of change) SCL ≡ b → ltb 1 (level_of change) ≡ t
    → pick (a || b) (pick t (Some OtherLevel) None) (Some OtherLine) ≡ None → Good change
good_by change true b false p q r e = on_sda_lem (eqb-true (line_of change) SDA p) (omega (arith, ltb-false 1 (level_of change) r))
good_by change false true false p q r e = on_scl_lem (eqb-true (line_of change) SCL q) (omega (arith, ltb-false 1 (level_of change) r))
good_by change true b true p q r e = absurd (let z : ◌≡◌ {A = ℕ} 0 1 = cc in omega arith)
good_by change false true true p q r e = absurd (let z : ◌≡◌ {A = ℕ} 0 1 = cc in omega arith)
good_by change false false t p q r e = absurd (let z : ◌≡◌ {A = ℕ} 0 1 = cc in omega arith)

good : (change : ℕ) → fault_of change ≡ None → Good change
unfolding fault_of
good change e = good_by change _ _ _ refl refl refl e

first_good : (f g : Option Fault) → or_else f g ≡ None → (f ≡ None) × (g ≡ None)
first_good None g e = (refl, e)
first_good (Some fault) g e = absurd (let z : ◌≡◌ {A = ℕ} 0 1 = cc in omega arith)

all_good : (change : ℕ) (cs : List ℕ) → first_fault (change ∷ cs) ≡ None → Good change × (first_fault cs ≡ None)
unfolding first_fault
all_good change cs e = let both = first_good (fault_of change) (first_fault cs) e in (good change both.0, both.1)

-- ---- the step at a change

decode_sda : (l : Bool) → decode (event_word 3 SDA (num l)) ≡ Ok (Pin SDA l)
unfolding decode no_event no_place bad_byte event
decode_sda true = refl
decode_sda false = refl

decode_scl : (l : Bool) → decode (event_word 3 SCL (num l)) ≡ Ok (Pin SCL l)
unfolding decode no_event no_place bad_byte event
decode_scl true = refl
decode_scl false = refl

next_sda : (c : Chip) (l : Bool) → (next c (Ok (Pin SDA l))).core ≡ sda_moved c.core l
unfolding next core_after pin_moved pin_moved_as pin_kind
next_sda c l = refl

next_scl : (c : Chip) (l : Bool) → (next c (Ok (Pin SCL l))).core ≡ scl_moved c.core l
unfolding next core_after pin_moved pin_moved_as pin_kind
next_scl c l = refl

module _ (c : Chip) (w : well_formed c ≡ true) (change : ℕ) where
  stepped : (e : Decoded) → decode (event_of change) ≡ e → (step c (event_of change)).chip ≡ next c e
  unfolding step advance
  stepped e d = rw (w, d)

  step_sda : line_of change ≡ SDA → level_of change < 2 → (step c (event_of change)).chip.core ≡ sda_moved c.core (eqb (level_of change) 1)
  step_sda e h =
      let level : level_of change ≡ num (eqb (level_of change) 1) = sym (num_eqb (level_of change) h) in
      ap (λ (d : Chip). d.core) (stepped (Ok (Pin SDA (eqb (level_of change) 1))) (ap₂ (λ a b. decode (event_word 3 a b)) e level ∙ decode_sda (eqb (level_of change) 1)))
      ∙ next_sda c (eqb (level_of change) 1)

  step_scl : line_of change ≡ SCL → level_of change < 2 → (step c (event_of change)).chip.core ≡ scl_moved c.core (eqb (level_of change) 1)
  step_scl e h =
      let level : level_of change ≡ num (eqb (level_of change) 1) = sym (num_eqb (level_of change) h) in
      ap (λ (d : Chip). d.core) (stepped (Ok (Pin SCL (eqb (level_of change) 1))) (ap₂ (λ a b. decode (event_word 3 a b)) e level ∙ decode_scl (eqb (level_of change) 1)))
      ∙ next_scl c (eqb (level_of change) 1)

-- ---- from place to place

sda_moved_lem : {own : ℕ} {c : Core} {s x : Bool} {h : Sampled} (l : Bool) → Follows own c s x h
    → Moved own c (sda_moved c l) s l (sampled_next own (sda_kind s x l) h) (found_next own (sda_kind s x l) h)
sda_moved_lem l (follows g s x y p k) = sda_follows g y k s x l p

scl_moved_lem : {own : ℕ} {c : Core} {s x : Bool} {h : Sampled} (l : Bool) → Follows own c s x h → stops_next (scl_kind s x l) h ≡ false
    → Moved own c (scl_moved c l) l x (sampled_next own (scl_kind s x l) h) (found_next own (scl_kind s x l) h)
scl_moved_lem l (follows g s x y p k) e = scl_follows g x y k s l p e

follows_few : {own : ℕ} {c : Core} {s x : Bool} {h : Sampled} → Follows own c s x h → Few h
follows_few (follows g s x y p k) = few p

stop_none : {own : ℕ} {c : Core} {s x : Bool} {h : Sampled} → Follows own c s x h → (k : Kind) → stops_next k h ≡ true → (d : Core) → [] ≡ completes_core c d
stop_none (follows g s x y p j) k e d = rw (stop_completes p k e)

-- the chip after a change at place i follows the list before place i + 1
abbrev Goes : ℕ → List ℕ → ℕ → Chip → Kind → Sampled → Type 0
Goes own cs i c k h =
    stops_next k h ≡ false
    → Moved own c.core (step c (event_of (get_or cs i 0))).chip.core (scl_before cs (suc i)) (sda_before cs (suc i)) (sampled_next own k h) (found_next own k h)

module _ (own : ℕ) (cs : List ℕ) (i : ℕ) (c : Chip) (w : well_formed c ≡ true) {h : Sampled} (f : Follows own c.core (scl_before cs i) (sda_before cs i) h) where
  goes_sda : line_at cs i ≡ SDA → level_of (get_or cs i 0) < 2 → Goes own cs i c (sda_kind (scl_before cs i) (sda_before cs i) (high_at cs i)) h
  unfolding level_before
  goes_sda e l s = rw (step_sda c w (get_or cs i 0) e l, e) (sda_moved_lem (high_at cs i) f)

  goes_scl : line_at cs i ≡ SCL → level_of (get_or cs i 0) < 2 → Goes own cs i c (scl_kind (scl_before cs i) (sda_before cs i) (high_at cs i)) h
  unfolding level_before
  goes_scl e l s = rw (step_scl c w (get_or cs i 0) e l, e) (scl_moved_lem (high_at cs i) f s)

-- ---- the list

pub record Agrees (own : ℕ) (cs : List ℕ) (i n : ℕ) (c : Chip) (h : Sampled) : Type 0 where
  pub within : i ≤ read_in own cs i n h
  pub same : found_in own cs i n h ≡ completed_by c (take (read_in own cs i n h - i) (drop i cs))

-- changes from place i on, one of them taken
taken : (cs : List ℕ) (i m : ℕ) → i < length cs → suc i ≤ m → take (m - i) (drop i cs) ≡ get_or cs i 0 ∷ take (m - suc i) (drop (suc i) cs)
taken cs i m h l =
    let e : m - i ≡ suc (m - suc i) = omega arith in
    rw (e, drop-cons cs i 0 h)

module _ (own : ℕ) (cs : List ℕ) (i n : ℕ) (c : Chip) {h : Sampled} (m : length cs ≡ i + suc n) (f : Follows own c.core (scl_before cs i) (sda_before cs i) h) where
  agrees_by : (k : Kind) → At cs i k → Goes own cs i c k h → (t : Bool) → stops_next k h ≡ t
      → (Follows own (step c (event_of (get_or cs i 0))).chip.core (scl_before cs (suc i)) (sda_before cs (suc i)) (sampled_next own k h)
      → Agrees own cs (suc i) n (step c (event_of (get_or cs i 0))).chip (sampled_next own k h))
      → Agrees own cs i (suc n) c h
  agrees_by k a go true s rest =
      let last = last_turn own cs i n h a s in
      record {
        within = omega (arith, last.1);
        same =
            last.0
            ∙ rw (last.1, taken cs i (suc i) (omega arith) (omega arith))
            (let none : suc i - suc i ≡ 0 = omega arith in rw none (ap (λ (l : List Found). l ++ []) (stop_none f k s (step c (event_of (get_or cs i 0))).chip.core)));
      }
  agrees_by k a go false s rest =
      let place = turn own cs i n h m a (follows_few f) s in
      let moved = go s in
      let later = rest moved.core in
      record {
        within = omega (arith, place.reads, later.within);
        same =
            place.same
            ∙ ap₂ (λ (a b : List Found). a ++ b) moved.same later.same
            ∙ rw (place.reads, taken cs i (read_in own cs (suc i) n (sampled_next own k h)) (omega arith) later.within);
      }

  -- for either line, what is sampled next being told by the change
  agrees_good : well_formed c ≡ true → Good (get_or cs i 0)
      → ((later : Sampled) → Follows own (step c (event_of (get_or cs i 0))).chip.core (scl_before cs (suc i)) (sda_before cs (suc i)) later
      → Agrees own cs (suc i) n (step c (event_of (get_or cs i 0))).chip later)
      → Agrees own cs i (suc n) c h
  agrees_good w (on_sda_lem e l) rest = agrees_by _ (at_sda cs i e) (goes_sda own cs i c w f e l) _ refl (rest _)
  agrees_good w (on_scl_lem e l) rest = agrees_by _ (at_scl cs i e) (goes_scl own cs i c w f e l) _ refl (rest _)

agrees : (own : ℕ) (cs : List ℕ) (n i : ℕ) (c : Chip) (h : Sampled) → length cs ≡ i + n → well_formed c ≡ true → first_fault (drop i cs) ≡ None
    → Follows own c.core (scl_before cs i) (sda_before cs i) h → Agrees own cs i n c h
agrees own cs zero i c h m w g f =
    let ends = end_reads own cs i h (follows_few f) in
    let none : i - i ≡ 0 = omega arith in
    record { within = omega (arith, ends); same = end_found own cs i h (follows_few f) ∙ rw (ends, none) }
agrees own cs (suc n) i c h m w g f =
    let changes = all_good (get_or cs i 0) (drop (suc i) cs) (rw (drop-cons cs i 0 (omega arith)) at g) in
    agrees_good own cs i n c m f w changes.0
    (λ later f'. agrees own cs n (suc i) (step c (event_of (get_or cs i 0))).chip later (omega arith) (step_well_formed c (event_of (get_or cs i 0)) w) changes.1 f')

-- ---- the first place

first_by : {own : ℕ} (c : Chip) (q : Phase) (s x z : Bool) → Begins own c → q ≡ Idle → s ≡ true → x ≡ true → z ≡ true
    → Follows own (frame c.core z s x q c.core.bus.iidat) true true nothing
first_by c q s x z b e h i j =
    rw (e, h, i, j)
    (follows c.core true true c.core.bus.iidat (idle true) (record { ddc2b = b.ddc2b; address_bits_lem = b.address; flags = flags_lt c b.well }))

first : {own : ℕ} (c : Chip) → Begins own c → Follows own c.core true true nothing
first c b = first_by c c.core.bus.phase c.core.scl c.core.sda c.core.reset b b.idle b.scl_high_lem b.sda_high b.reset_high

-- the addresses that the plain reading lists, their order and their outcomes are those that the stepping engine completes, up to the stop
pub agree : (own : ℕ) (c : Chip) → Begins own c → (cs : List ℕ) → first_fault cs ≡ None
    → addresses own cs ≡ completed_by c (take (changes_to_stop own cs) cs)
unfolding level_before
agree own c b cs g =
    let all = agrees own cs (length cs) 0 c nothing (omega arith) b.well g (first c b) in
    let whole : changes_to_stop own cs - 0 ≡ changes_to_stop own cs = omega arith in
    all.same ∙ ap (λ (m : ℕ). completed_by c (take m cs)) whole
