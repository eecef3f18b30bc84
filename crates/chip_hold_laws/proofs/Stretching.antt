-- How long SCL has been held: a hold begins with a count of 0, each 8 µs clock adds one up to 65,535, and what lets SCL go ends it.
-- Assumes nothing.
use mathlib.Core.Path.{◌≡◌, refl, sym, ap, ◌∙◌}
use mathlib.Core.Bool.{Bool, true, false, not, ◌&&◌, ◌||◌, or-false}
use mathlib.Core.List.{List, [], ◌∷◌}
use Prim.Native.Nat.{ℕ, ◌+◌, ◌<◌, ◌≤◌}
use native.Mathlib.Omega.{arith}
use native.Mathlib.Nat.{add-zero, zero-add}
use borrow.Author.Tests.{eqb-true, ltb-true, ltb-false, lt-ltb, le-ltb, not-true}
use lib.Dec.{ltb}
use Rattle.bits.specs.Byte.{pick, num, bit}
use Rattle.bits.proofs.Finite.{both}
use Rattle.bits.proofs.Level.{pick_by}
use Rattle.std.specs.Prelude.{Ok, Err}
use Rattle.events.specs.Clocks as clock
use Rattle.events.specs.Decoded.{Decoded}
use Rattle.events.specs.declared.Event.TheVariants.{Read, Write, Pin, Clock, Polarity}
use Rattle.events.specs.Word.{decode}
use Rattle.bus.specs.declared.Mode.TheVariants.{Ddc2b}
use Rattle.bus.specs.declared.OwnAddress.{OwnAddress}
use Rattle.bus.specs.declared.Phase.{Phase}
use Rattle.bus.specs.declared.Phase.TheVariants.{Idle, Address, Addressed, Ignoring, Receive, Transmit, Held}
use Rattle.bus.specs.Bus.{line, mode, mode_by, pulls_scl}
use Rattle.bus_ddc2b.specs.Ddc2b.{held_longer}
use Rattle.chip.specs.declared.Chip.{Chip}
use Rattle.chip.specs.State.{mode_of}
use Rattle.chip_well_formed.specs.WellFormed.{well_formed}
use Rattle.chip_pins.specs.Pins.{pin_kind, pin_moved_as, pin_moved}
use Rattle.chip_events.specs.Outcome.{core_after, next}
use Rattle.step.specs.Step.{advance}
use Rattle.list_call.specs.Run.{advanced}
use Rattle.chip_flag_laws.specs.Causes.{raises, is_clock, rises_vsynci, in_ddc2b, falls_scl, in_ninth_clock}
use Rattle.chip_flag_laws.specs.Causes.Source.{DataByte}
use Rattle.chip_count_laws.specs.Counting.{level_after, period_clocks}
use Rattle.chip_count_laws.proofs.Events.{effect as level_effect}
use Rattle.chip_laws.proofs.Formed.{formed}
use Rattle.chip_laws.proofs.Bus.{held_in_ddc2b}
use Rattle.chip_hold_laws.specs.Stretching.{holds_scl, HeldFor, takes_scl, lets_go, lasts, periods_given, bounded}
use Rattle.chip_hold_laws.proofs.Holds.{clash, Holds, effect, held_pulls}
use Rattle.chip_hold_laws.proofs.Begins.{takes, taken}

-- ---- DDC2B by its two bits

low_both : (x y : Bool) → (not x && not y) ≡ true → (x ≡ false) × (y ≡ false)
low_both true y h = clash _ h refl
low_both false true h = clash _ h refl
low_both false false h = (refl, refl)

holds : {n : ℕ} {c : Chip} → HeldFor n c → Holds n c.core
holds {c = c} h =
    let k = low_both (bit 3 c.core.bus.iists) (bit 0 c.core.mdcon) h.ddc2b in
    record { enddc = k.0; md = k.1; matched = h.matched; held = h.held }

held_for : {n : ℕ} {c : Chip} → Holds n c.core → HeldFor n c
held_for h = record { ddc2b = rw (h.enddc, h.md); matched = h.matched; held = h.held }

-- a hold by another name of its count
recounted : {n m : ℕ} {c : Chip} → n ≡ m → HeldFor n c → HeldFor m c
recounted e h = record { ddc2b = h.ddc2b; matched = h.matched; held = h.held ∙ ap (λ (k : ℕ). Held h.matched k) e }

-- ---- a hold begins

not_and : (x y : Bool) → x ≡ true → not (x && y) ≡ true → y ≡ false
not_and x y h k = not-true y (rw h at k)

taken_at : (c : Chip) (p : ℕ) (level : Bool) → takes_scl c (Ok (Pin p level)) ≡ true → Holds 0 (next c (Ok (Pin p level))).core
unfolding takes_scl next core_after pin_moved pin_moved_as pin_kind
taken_at c p level h =
    let x = both _ _ h in
    let put = both _ _ x.0 in
    let pin = both _ _ put.0 in
    let levels = both _ _ put.1 in
    let line = both _ _ levels.1 in
    let byte = both _ _ x.1 in
    let bits = low_both (bit 3 c.core.bus.iists) (bit 0 c.core.mdcon) byte.0 in
    rw (eqb-true p 25 pin.0, not-true level pin.1)
    (taken c.core bits.0 bits.1 levels.0 line.0 (not_and _ (pulls_scl c.core.bus.phase) byte.0 line.1) byte.1)

-- the step that takes SCL low leaves a count of 0
pub hold_begins : (c : Chip) (e : Decoded) → takes_scl c e ≡ true → HeldFor 0 (next c e)
unfolding takes_scl
hold_begins c (Ok (Read a)) h = clash _ h refl
hold_begins c (Ok (Write a b)) h = clash _ h refl
hold_begins c (Ok (Pin p level)) h = held_for (taken_at c p level h)
hold_begins c (Ok (Clock k)) h = clash _ h refl
hold_begins c (Ok (Polarity vertical level)) h = clash _ h refl
hold_begins c (Err r) h = clash _ h refl

-- where SCL is not held no other step takes it low
pub begins_exactly : (c : Chip) (e : Decoded) → holds_scl c ≡ false → holds_scl (next c e) ≡ takes_scl c e
begins_exactly c e h = takes c e h

-- in DDC2B it is the step that sets flag D
pub begins_with_data : (c : Chip) (e : Decoded) → in_ddc2b c ≡ true → raises DataByte c e ≡ takes_scl c e
unfolding raises takes_scl
begins_with_data c e h =
    let bits = low_both (bit 3 c.core.bus.iists) (bit 0 c.core.mdcon) h in
    rw (bits.0, bits.1) (not_ddc1 (rises_vsynci c e) _)
  where
    not_ddc1 : (x y : Bool) → ((x && false) || y) ≡ y
    not_ddc1 true y = refl
    not_ddc1 false y = refl

-- ---- a hold goes on

-- the count after an event, in the model's terms
goes_on : (n : ℕ) (c : Chip) (e : Decoded) → HeldFor n c → lets_go c e ≡ false → HeldFor (pick (is_clock clock.period e && c.core.reset) (held_longer n) n) (next c e)
goes_on n c e h t = held_for ((effect n c e (holds h)).kept t)

no_clock : (c : Chip) → lets_go c (Ok (Clock clock.period)) ≡ false
unfolding lets_go
no_clock c = refl

longer : (n : ℕ) → n < 65535 → held_longer n ≡ n + 1
unfolding held_longer
longer n h = rw (lt-ltb n 65535 h)

full : held_longer 65535 ≡ 65535
unfolding held_longer
full = refl

-- an 8 µs clock adds one
pub hold_counts : (n : ℕ) (c : Chip) → HeldFor n c → c.core.reset ≡ true → n < 65535 → HeldFor (n + 1) (next c (Ok (Clock clock.period)))
hold_counts n c h r l = recounted (rw r (longer n l)) (goes_on n c (Ok (Clock clock.period)) h (no_clock c))

-- at 65,535 the count stands
pub hold_stands : (c : Chip) → HeldFor 65535 c → HeldFor 65535 (next c (Ok (Clock clock.period)))
hold_stands c h = recounted (pick_by (λ (n : ℕ). n ≡ 65535) c.core.reset (λ _. full) (λ _. refl)) (goes_on 65535 c (Ok (Clock clock.period)) h (no_clock c))

-- no other event that leaves SCL held moves the count, and none does while RESET is low
pub hold_kept : (n : ℕ) (c : Chip) (e : Decoded) → HeldFor n c → lets_go c e ≡ false → (is_clock clock.period e && c.core.reset) ≡ false → HeldFor n (next c e)
hold_kept n c e h t k = recounted (rw k) (goes_on n c e h t)

-- ---- a hold ends

-- by what lets SCL go, and by nothing else
pub hold_ends : (n : ℕ) (c : Chip) (e : Decoded) → HeldFor n c → holds_scl (next c e) ≡ not (lets_go c e)
hold_ends n c e h = by_test (lets_go c e) refl
  where
    by_test : (t : Bool) → lets_go c e ≡ t → holds_scl (next c e) ≡ not t
    by_test true t = (effect n c e (holds h)).over t
    by_test false t = held_pulls (next c e).core.bus.phase ((effect n c e (holds h)).kept t).held

-- ---- over a list of words

-- one count of up to 65,535 after another
stops : (n : ℕ) → n ≤ 65535 → bounded n ≡ n
unfolding bounded
stops n h = by_test (ltb n 65535) refl
  where
    by_test : (t : Bool) → ltb n 65535 ≡ t → pick t n 65535 ≡ n
    by_test true e = refl
    by_test false e = omega (arith, ltb-false n 65535 e)

past : (n : ℕ) → 65535 ≤ n → bounded n ≡ 65535
unfolding bounded
past n h = rw (le-ltb n 65535 h)

counts_on : (t : Bool) (n k : ℕ) → n ≤ 65535 → bounded (pick t (held_longer n) n + k) ≡ bounded (n + (num t + k))
counts_on false n k h = rw (zero-add k)
counts_on true n k h = by_test (ltb n 65535) refl
  where
    by_test : (t : Bool) → ltb n 65535 ≡ t → bounded (held_longer n + k) ≡ bounded (n + (1 + k))
    by_test true e = rw (longer n (ltb-true n 65535 e)) (ap bounded (omega arith))
    by_test false e = let last : n ≡ 65535 = omega (arith, ltb-false n 65535 e) in rw (last, full) (past (65535 + k) (omega arith) ∙ sym (past (65535 + (1 + k)) (omega arith)))

within : (t : Bool) (n : ℕ) → n ≤ 65535 → pick t (held_longer n) n ≤ 65535
unfolding held_longer
within true n h = pick_by (λ (m : ℕ). m ≤ 65535) (ltb n 65535) (λ e. omega (arith, ltb-true n 65535 e)) (λ _. h)
within false n h = h

apart : (x y : Bool) → (not x && y) ≡ true → (x ≡ false) × (y ≡ true)
apart true y h = clash _ h refl
apart false y h = (refl, h)

-- while a hold lasts the count grows by the 8 µs clocks given, and stops at 65,535
pub held_since : (n : ℕ) (c : Chip) (ws : List ℕ) → n ≤ 65535 → HeldFor n c → lasts c ws ≡ true → HeldFor (bounded (n + periods_given c ws)) (advanced c ws)
unfolding advance
held_since n c [] l h q = recounted (sym (rw (add-zero n) (stops n l))) h
held_since n c (w ∷ ws) l h q =
    let e : Decoded = decode w in
    let k = apart (lets_go c e) _ q in
    let t : Bool = is_clock clock.period e && c.core.reset in
    recounted
    (ap (λ (r : Bool). bounded (pick t (held_longer n) n + period_clocks r ws)) (level_effect c e).reset ∙ counts_on t n (period_clocks (level_after 28 e c.core.reset) ws) l)
    (held_since (pick t (held_longer n) n) (next c e) ws (within t n l) (goes_on n c e h k.0) k.1)

-- the count held is that of the 8 µs clocks from the fall on, and stops at 65,535
pub held_since_taken : (c : Chip) (w : ℕ) (ws : List ℕ) → takes_scl c (decode w) ≡ true → lasts (next c (decode w)) ws ≡ true →
    HeldFor (bounded (periods_given (next c (decode w)) ws)) (advanced c (w ∷ ws))
unfolding advance
held_since_taken c w ws t q =
    recounted (ap bounded (zero-add (periods_given (next c (decode w)) ws)))
    (held_since 0 (next c (decode w)) ws (omega arith) (hold_begins c (decode w) t) q)

-- ---- well formed states

mode_bits : (enddc md : Bool) → mode_by enddc md ≡ Ddc2b → (not enddc && not md) ≡ true
mode_bits true md h = cc
mode_bits false true h = cc
mode_bits false false h = refl

-- a well formed state that holds SCL does so in DDC2B
pub well_held : (m : OwnAddress) (n : ℕ) (c : Chip) → well_formed c ≡ true → c.core.bus.phase ≡ Held m n → HeldFor n c
unfolding mode
well_held m n c w h =
    let in_mode = held_in_ddc2b (mode_of c.core) c.core.bus.phase c.core.bus.shifter (formed c w).core.bus.fits (held_pulls c.core.bus.phase h) in
    record { ddc2b = mode_bits (bit 3 c.core.bus.iists) (bit 0 c.core.mdcon) in_mode; matched = m; held = h }

held_as : (p : Phase) → pulls_scl p ≡ true → (m : OwnAddress) × (n : ℕ) × (p ≡ Held m n)
unfolding pulls_scl
held_as Idle h = clash _ h refl
held_as (Address count bits) h = clash _ h refl
held_as (Addressed matched bits ninth) h = clash _ h refl
held_as Ignoring h = clash _ h refl
held_as (Receive matched count bits) h = clash _ h refl
held_as (Transmit matched count byte) h = clash _ h refl
held_as (Held matched clocks) h = (matched, clocks, refl)

-- while SCL is held it cannot be taken again: the line does not fall
not_taken : (n : ℕ) (c : Chip) (e : Decoded) → HeldFor n c → takes_scl c e ≡ false
unfolding takes_scl
not_taken n c e h = let past : in_ninth_clock c.core.bus.phase ≡ false = rw h.held in rw past (never (falls_scl c e) (in_ddc2b c))
  where
    never : (x y : Bool) → (x && (y && false)) ≡ false
    never true true = refl
    never true false = refl
    never false y = refl

-- SCL is held after an event where it takes SCL low, or SCL was held and the event does not let it go
pub held_exactly : (c : Chip) (e : Decoded) → well_formed c ≡ true → holds_scl (next c e) ≡ (takes_scl c e || (holds_scl c && not (lets_go c e)))
held_exactly c e w = by_test (holds_scl c) refl
  where
    by_test : (t : Bool) → holds_scl c ≡ t → holds_scl (next c e) ≡ (takes_scl c e || (t && not (lets_go c e)))
    by_test true t =
        let p = held_as c.core.bus.phase t in
        let h = well_held p.0 p.1 c w p.2 in
        hold_ends p.1 c e h ∙ rw (not_taken p.1 c e h)
    by_test false t = begins_exactly c e t ∙ sym (or-false (takes_scl c e))
