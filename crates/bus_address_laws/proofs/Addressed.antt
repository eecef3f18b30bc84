-- The outcome that the state keeps is that of the last address completed, compared with II ADR as it was then, until the transfer ends; flag A is set with it.
-- Assumes nothing.
use mathlib.Core.Path.{◌≡◌, refl, ◌∙◌}
use mathlib.Core.Bool.{Bool, true, false, not, ◌&&◌, ◌||◌, and-false}
use mathlib.Core.List.{List, [], ◌∷◌, ◌++◌}
use Prim.Native.Nat.{ℕ, ◌+◌}
use lib.Dec.{eqb, ltb}
use Rattle.bits.specs.Byte.{pick}
use Rattle.bits.proofs.Finite.{both, neither}
use Rattle.events.specs.Decoded.{Decoded}
use Rattle.events.specs.Word.{decode}
use Rattle.bus.specs.declared.Comparison.{Comparison}
use Rattle.bus.specs.declared.Comparison.TheVariants.{None, Own}
use Rattle.bus.specs.declared.Phase.{Phase}
use Rattle.bus.specs.declared.Phase.TheVariants.{Idle, Address, Addressed as CalledAddress, Ignoring, Receive, Transmit, Held}
use Rattle.bus.specs.Bus.{compared_in, is_own}
use Rattle.bus_ddc2b.specs.Ddc2b.{compared, gathered, addressed, phase_at_rise}
use Rattle.bus_ddc2b.proofs.Own.{own_matches}
use Rattle.chip.specs.declared.Core.{Core}
use Rattle.chip.specs.declared.Chip.{Chip}
use Rattle.chip_events.specs.Outcome.{next}
use Rattle.step.specs.Step.{advance}
use Rattle.list_call.specs.Run.{advanced}
use Rattle.chip_flag_laws.specs.Causes.{raises, clears, flag, completes_match, rises_scl, in_ddc2b}
use Rattle.chip_flag_laws.specs.Causes.Source.{AddressMatch}
use Rattle.chip_flag_laws.proofs.Causes.{causes_of_word}
use Rattle.chip_count_laws.specs.Counting.{never}
use Rattle.bus_address_laws.specs.Addressed.{outcome_in, sda_level, takes_level, awaits_eighth, address_so_far, completes, address_at, ends, compared_by, moves, LastAddress}
use Rattle.bus_address_laws.proofs.Events.{clash, addressing, Effect, over, taken, still, effect}

-- ---- a rise of the SCL line

outcome_addressed : (k : Comparison) (byte : ℕ) → compared_in (addressed k byte) ≡ k
unfolding compared_in
outcome_addressed None byte = refl
outcome_addressed (Own matched) byte = refl

-- the outcome is compared at the eighth bit of an address, and stays else
rise_outcome : (own : ℕ) (sda : Bool) (p : Phase) → compared_in (phase_at_rise own sda p) ≡ pick (awaits_eighth p) (compared own (gathered (address_so_far p) sda)) (compared_in p)
unfolding compared_in phase_at_rise
rise_outcome own sda Idle = refl
rise_outcome own sda (Address count bits) = by_count (ltb count 7)
  where
    by_count : (few : Bool) → compared_in (pick few (Address (count + 1) (gathered bits sda)) (addressed (compared own (gathered bits sda)) (gathered bits sda))) ≡ pick (not few) (compared own (gathered bits sda)) None
    by_count true = refl
    by_count false = outcome_addressed (compared own (gathered bits sda)) (gathered bits sda)
rise_outcome own sda (CalledAddress matched bits ninth) = refl
rise_outcome own sda Ignoring = refl
rise_outcome own sda (Receive matched count bits) = by_count (ltb count 8)
  where
    by_count : (few : Bool) → compared_in (pick few (Receive matched (count + 1) (gathered bits sda)) (Receive matched count bits)) ≡ Own matched
    by_count true = refl
    by_count false = refl
rise_outcome own sda (Transmit matched count byte) = by_count (eqb count 9)
  where
    by_count : (ninth : Bool) → compared_in (pick ninth (Transmit matched 10 byte) (Transmit matched count byte)) ≡ Own matched
    by_count true = refl
    by_count false = refl
rise_outcome own sda (Held matched clocks) = refl

-- ---- every event

by_effect : (c : Chip) (e : Decoded) (after : Core) → Effect c e after → compared_in after.bus.phase ≡ compared_by c e (outcome_in c)
by_effect c e after (over n t o) = o ∙ rw (t, n)
by_effect c e after (taken n t q s) = rw (t, n, q) (rise_outcome c.core.bus.iiadr (sda_level c) c.core.bus.phase)
by_effect c e after (still n t k s) = k.outcome ∙ rw (t, n)

-- the outcome after each event, at every chip, well formed or not
pub outcome_after_lem : (c : Chip) (e : Decoded) → outcome_in (next c e) ≡ compared_by c e (outcome_in c)
outcome_after_lem c e = by_effect c e (next c e).core (effect c e)

pub compared_then : (c : Chip) (e : Decoded) → completes c e ≡ true → outcome_in (next c e) ≡ compared c.core.bus.iiadr (address_at c)
compared_then c e h = outcome_after_lem c e ∙ rw h

-- nothing does both
pub apart : (c : Chip) (e : Decoded) → completes c e ≡ true → ends c e ≡ false
apart c e h = by_parts (effect c e)
  where
    by_parts : Effect c e (next c e).core → ends c e ≡ false
    by_parts (over n t o) = clash _ (both (takes_level c e) _ h).0 t
    by_parts (taken n t q s) = n
    by_parts (still n t k s) = n

-- ---- over a list of words

pub parts : (x y : Bool) → (not x && y) ≡ true → (x ≡ false) × (y ≡ true)
parts true y h = clash _ h refl
parts false y h = (refl, h)

pub advanced_append : (c : Chip) (us vs : List ℕ) → advanced c (us ++ vs) ≡ advanced (advanced c us) vs
advanced_append c [] vs = refl
advanced_append c (u ∷ us) vs = advanced_append (advance c (decode u)).chip us vs

-- where no word completes an address or ends the transfer the outcome stays: writes of II ADR and II DAT, data bytes and holds move nothing
pub outcome_kept : (c : Chip) (ws : List ℕ) → never moves c ws ≡ true → outcome_in (advanced c ws) ≡ outcome_in c
unfolding advance
outcome_kept c [] q = refl
outcome_kept c (w ∷ ws) q =
    let e : Decoded = decode w in
    let k = parts (moves c e) _ q in
    let n = neither (completes c e) (ends c e) k.0 in
    outcome_kept (next c e) ws k.1 ∙ outcome_after_lem c e ∙ rw (n.0, n.1)

-- from its end on there is none until an address is completed
none_kept : (c : Chip) (ws : List ℕ) → outcome_in c ≡ None → never completes c ws ≡ true → outcome_in (advanced c ws) ≡ None
unfolding advance
none_kept c [] h q = h
none_kept c (w ∷ ws) h q =
    let e : Decoded = decode w in
    let k = parts (completes c e) _ q in
    none_kept (next c e) ws (outcome_after_lem c e ∙ rw (k.0, h) (either (ends c e))) k.1
  where
    either : (t : Bool) → pick t None None ≡ None
    either true = refl
    either false = refl

pub none_since : (c : Chip) (us : List ℕ) (w : ℕ) (vs : List ℕ) → ends (advanced c us) (decode w) ≡ true → never completes (advanced c us) (w ∷ vs) ≡ true →
    outcome_in (advanced c (us ++ (w ∷ vs))) ≡ None
unfolding advance
none_since c us w vs n q =
    let x : Chip = advanced c us in
    let k = parts (completes x (decode w)) _ q in
    rw (advanced_append c us (w ∷ vs)) (none_kept (next x (decode w)) vs (outcome_after_lem x (decode w) ∙ rw (k.0, n)) k.1)

-- ---- compared once

-- no address is gathered: none is completed, and a rise begins none
not_awaiting : (p : Phase) → addressing p ≡ false → awaits_eighth p ≡ false
not_awaiting Idle h = refl
not_awaiting (Address count bits) h = clash _ refl h
not_awaiting (CalledAddress matched bits ninth) h = refl
not_awaiting Ignoring h = refl
not_awaiting (Receive matched count bits) h = refl
not_awaiting (Transmit matched count byte) h = refl
not_awaiting (Held matched clocks) h = refl

called : (k : Comparison) (byte : ℕ) → addressing (addressed k byte) ≡ false
called None byte = refl
called (Own matched) byte = refl

choose : (t : Bool) (x y : Phase) → addressing x ≡ false → addressing y ≡ false → addressing (pick t x y) ≡ false
choose true x y h k = h
choose false x y h k = k

rise_other : (own : ℕ) (sda : Bool) (p : Phase) → addressing p ≡ false → addressing (phase_at_rise own sda p) ≡ false
unfolding phase_at_rise
rise_other own sda Idle h = refl
rise_other own sda (Address count bits) h = clash _ refl h
rise_other own sda (CalledAddress matched bits ninth) h = refl
rise_other own sda Ignoring h = refl
rise_other own sda (Receive matched count bits) h = choose (ltb count 8) (Receive matched (count + 1) (gathered bits sda)) (Receive matched count bits) refl refl
rise_other own sda (Transmit matched count byte) h = choose (eqb count 9) (Transmit matched 10 byte) (Transmit matched count byte) refl refl
rise_other own sda (Held matched clocks) h = refl

rise_completes : (own : ℕ) (sda : Bool) (p : Phase) → awaits_eighth p ≡ true → addressing (phase_at_rise own sda p) ≡ false
unfolding phase_at_rise
rise_completes own sda Idle h = refl
rise_completes own sda (Address count bits) h = by_count (ltb count 7) h
  where
    by_count : (few : Bool) → not few ≡ true → addressing (pick few (Address (count + 1) (gathered bits sda)) (addressed (compared own (gathered bits sda)) (gathered bits sda))) ≡ false
    by_count true h = clash _ h refl
    by_count false h = called (compared own (gathered bits sda)) (gathered bits sda)
rise_completes own sda (CalledAddress matched bits ninth) h = refl
rise_completes own sda Ignoring h = refl
rise_completes own sda (Receive matched count bits) h = clash _ h refl
rise_completes own sda (Transmit matched count byte) h = clash _ h refl
rise_completes own sda (Held matched clocks) h = refl

module _ (c : Chip) (e : Decoded) where
  stays_other : addressing c.core.bus.phase ≡ false → ends c e ≡ false → addressing (next c e).core.bus.phase ≡ false
  stays_other h n = by_parts (effect c e)
    where
      by_parts : Effect c e (next c e).core → addressing (next c e).core.bus.phase ≡ false
      by_parts (over m t o) = clash _ m n
      by_parts (taken m t q s) = rw q (rise_other c.core.bus.iiadr (sda_level c) c.core.bus.phase h)
      by_parts (still m t k s) = k.other h

  then_other : completes c e ≡ true → addressing (next c e).core.bus.phase ≡ false
  then_other h = by_parts (effect c e)
    where
      by_parts : Effect c e (next c e).core → addressing (next c e).core.bus.phase ≡ false
      by_parts (over m t o) = clash _ (both (takes_level c e) _ h).0 t
      by_parts (taken m t q s) = rw q (rise_completes c.core.bus.iiadr (sda_level c) c.core.bus.phase (both (takes_level c e) _ h).1)
      by_parts (still m t k s) = clash _ (both (takes_level c e) _ h).0 t

  none_completes : addressing c.core.bus.phase ≡ false → completes c e ≡ false
  none_completes h = rw (not_awaiting c.core.bus.phase h) (and-false (takes_level c e))

pub not_yet : (x y : Bool) → x ≡ false → y ≡ true → (not x && y) ≡ true
not_yet x y h k = rw (h, k)

never_completes : (c : Chip) (ws : List ℕ) → addressing c.core.bus.phase ≡ false → never ends c ws ≡ true → (never completes c ws ≡ true) × (never moves c ws ≡ true)
never_completes c [] h q = (refl, refl)
never_completes c (w ∷ ws) h q =
    let e : Decoded = decode w in
    let k = parts (ends c e) _ q in
    let none = none_completes c e h in
    let rest = never_completes (next c e) ws (stays_other c e h k.0) k.1 in
    (not_yet (completes c e) (never completes (next c e) ws) none rest.0, not_yet (moves c e) (never moves (next c e) ws) (rw (none, k.0)) rest.1)

-- once an address is completed none is until the transfer ends
pub compared_once : (c : Chip) (w : ℕ) (ws : List ℕ) → completes c (decode w) ≡ true → never ends (next c (decode w)) ws ≡ true → never completes (next c (decode w)) ws ≡ true
compared_once c w ws h q = (never_completes (next c (decode w)) ws (then_other c (decode w) h) q).0

-- until the transfer ends the outcome is that of the last address completed, compared with II ADR as it was then
pub compared_last : (c : Chip) (us : List ℕ) (w : ℕ) (vs : List ℕ) → LastAddress c us w vs
unfolding advance
compared_last c us w vs h q =
    let x : Chip = advanced c us in
    rw (advanced_append c us (w ∷ vs))
    (outcome_kept (next x (decode w)) vs (never_completes (next x (decode w)) vs (then_other x (decode w) h) q).1 ∙ compared_then x (decode w) h)

-- ---- flag A

match_is : (own : ℕ) (sda : Bool) (p : Phase) → completes_match own sda p ≡ (awaits_eighth p && is_own (compared own (gathered (address_so_far p) sda)))
match_is own sda Idle = refl
match_is own sda (Address count bits) = rw (own_matches own (gathered bits sda))
match_is own sda (CalledAddress matched bits ninth) = refl
match_is own sda Ignoring = refl
match_is own sda (Receive matched count bits) = refl
match_is own sda (Transmit matched count byte) = refl
match_is own sda (Held matched clocks) = refl

grouped : (x y z v : Bool) → (x && (y && (z && v))) ≡ (((x && y) && z) && v)
grouped true true z v = refl
grouped true false z v = refl
grouped false y z v = refl

-- it is raised where an address is completed that is one of the chip's, and nowhere else
pub raised_exactly : (c : Chip) (e : Decoded) → raises AddressMatch c e ≡ (completes c e && is_own (compared c.core.bus.iiadr (address_at c)))
unfolding raises takes_level
raised_exactly c e =
    rw (match_is c.core.bus.iiadr (sda_level c) c.core.bus.phase)
    (grouped (rises_scl c e) (in_ddc2b c) (awaits_eighth c.core.bus.phase) _)

-- so for the three outcomes and not for none
pub raised_by_outcome : (c : Chip) (e : Decoded) → completes c e ≡ true → raises AddressMatch c e ≡ is_own (outcome_in (next c e))
raised_by_outcome c e h = raised_exactly c e ∙ rw (h, compared_then c e h)

-- the flag after each word
pub flag_after : (c : Chip) (w : ℕ) →
    flag AddressMatch (next c (decode w))
    ≡ ((completes c (decode w) && is_own (compared c.core.bus.iiadr (address_at c))) || (flag AddressMatch c && not (clears AddressMatch c (decode w))))
flag_after c w = causes_of_word AddressMatch c w ∙ rw (raised_exactly c (decode w))
