-- From a START the levels of SDA at the rises of SCL are gathered, and the eighth rise alone decides the match.
-- Assumes nothing.
use mathlib.Core.Path.{◌≡◌, refl, sym, ap, ◌∙◌}
use mathlib.Core.Bool.{Bool, true, false, not, ◌&&◌, and-false, or-false}
use mathlib.Core.List.{List, [], ◌∷◌, ◌++◌}
use Prim.Native.Nat.{ℕ, ◌+◌, ◌<◌, ◌≤◌}
use native.Mathlib.Omega.{arith}
use native.Mathlib.Nat.{add-zero, zero-add}
use borrow.Author.Tests.{eqb-true, lt-ltb, not-true}
use lib.Dec.{ltb}
use lib.ListN.{length}
use Rattle.bits.specs.Byte.{pick, bit}
use Rattle.bits.proofs.Finite.{both}
use Rattle.bits.proofs.Bitwise.{bit_or_lem}
use Rattle.std.specs.Prelude.{Ok, Err}
use Rattle.events.specs.Decoded.{Decoded}
use Rattle.events.specs.declared.Event.TheVariants.{Read, Write, Pin, Clock, Polarity}
use Rattle.events.specs.Word.{decode}
use Rattle.bus.specs.declared.Phase.{Phase}
use Rattle.bus.specs.declared.Phase.TheVariants.{Address}
use Rattle.bus.specs.Bus.{mode, pulls_sda, pulls_scl, sda_pulled, scl_pulled}
use Rattle.bus_ddc2b.specs.Ddc2b.{start_status, matches, gathered, phase_at_rise}
use Rattle.bus_ddc2b.proofs.Own.{own_matches}
use Rattle.chip.specs.declared.Core.{Core}
use Rattle.chip.specs.declared.Chip.{Chip}
use Rattle.chip_edges.specs.Edges.{on_sda, on_sda_ddc2b, started, sda_moved}
use Rattle.chip_pins.specs.Pins.{pin_kind, pin_moved_as, pin_moved}
use Rattle.chip_events.specs.Outcome.{core_after, next}
use Rattle.step.specs.Step.{advance}
use Rattle.list_call.specs.Run.{advanced}
use Rattle.chip_flag_laws.specs.Causes.{raises, flag}
use Rattle.chip_flag_laws.specs.Causes.Source.{AddressMatch}
use Rattle.chip_count_laws.specs.Counting.{never}
use Rattle.bus_address_laws.specs.Addressed.{sda_level, takes_level, awaits_eighth, completes, address_at, starts, ends, levels_taken, gathered_all}
use Rattle.bus_address_laws.specs.Gathered.{Gathers}
use Rattle.bus_address_laws.proofs.Events.{clash, Effect, over, taken, still, effect}
use Rattle.bus_address_laws.proofs.Addressed.{apart, raised_exactly, flag_after, advanced_append, parts, not_yet}

regathered : {n m bits : ℕ} {c : Chip} → n ≡ m → Gathers n bits c → Gathers m bits c
regathered {bits = bits} e g = record { ddc2b = g.ddc2b; phase = g.phase ∙ ap (λ (k : ℕ). Address k bits) e }

-- ---- START

pub start_bit : (status : ℕ) → bit 3 (start_status status) ≡ bit 3 status
unfolding bit
start_bit status = bit_or_lem 3 status 0x20 ∙ or-false (bit 3 status)

start_core : (c : Core) → bit 3 c.bus.iists ≡ false → bit 0 c.mdcon ≡ false → c.reset ≡ true → c.scl ≡ true → c.sda ≡ true → pulls_sda c.bus.phase ≡ false → pulls_scl c.bus.phase ≡ false →
    ((sda_moved c false).bus.phase ≡ Address 0 0) × ((not (bit 3 (sda_moved c false).bus.iists) && not (bit 0 (sda_moved c false).mdcon)) ≡ true)
unfolding sda_moved mode on_sda on_sda_ddc2b started scl_pulled sda_pulled
start_core c e m r s d p f = rw (r, e, m, s, d, p, f) (refl, rw (start_bit c.bus.iists, e, m))

pub low_both : (x y : Bool) → (not x && not y) ≡ true → (x ≡ false) × (y ≡ false)
low_both true y h = clash _ h refl
low_both false true h = clash _ h refl
low_both false false h = (refl, refl)

pub not_and : (x y : Bool) → x ≡ true → not (x && y) ≡ true → y ≡ false
not_and x y h k = not-true y (rw h at k)

start_pin : (c : Chip) (p : ℕ) (level : Bool) → starts c (Ok (Pin p level)) ≡ true → Gathers 0 0 (next c (Ok (Pin p level)))
unfolding next core_after pin_moved pin_moved_as pin_kind
start_pin c p level h =
    let x = both _ _ h in
    let put = both _ _ x.0 in
    let levels = both _ _ x.1 in
    let lines = both _ _ levels.1 in
    let sda = both _ _ lines.0 in
    let high = both _ _ lines.1 in
    let scl = both _ _ high.1 in
    let bits = low_both (bit 3 c.core.bus.iists) (bit 0 c.core.mdcon) high.0 in
    let k = start_core c.core bits.0 bits.1 levels.0 scl.0 sda.0 (not-true (pulls_sda c.core.bus.phase) sda.1) (not_and _ (pulls_scl c.core.bus.phase) high.0 scl.1) in
    rw (eqb-true p 24 put.0, not-true level put.1) (record { ddc2b = k.1; phase = k.0 })

start_begins : (c : Chip) (e : Decoded) → starts c e ≡ true → Gathers 0 0 (next c e)
start_begins c (Ok (Read a)) h = clash _ h refl
start_begins c (Ok (Write a b)) h = clash _ h refl
start_begins c (Ok (Pin p level)) h = start_pin c p level h
start_begins c (Ok (Clock k)) h = clash _ h refl
start_begins c (Ok (Polarity vertical level)) h = clash _ h refl
start_begins c (Err r) h = clash _ h refl

-- a START completes no address
started_none : (c : Chip) (e : Decoded) → starts c e ≡ true → completes c e ≡ false
unfolding ends
started_none c e s = by_test (completes c e) refl
  where
    by_test : (t : Bool) → completes c e ≡ t → t ≡ false
    by_test true h = clash (ends c e) (rw s) (apart c e h)
    by_test false h = refl

-- ---- one event

rise_gathers : (own : ℕ) (sda : Bool) (n bits : ℕ) → n < 7 → phase_at_rise own sda (Address n bits) ≡ Address (n + 1) (gathered bits sda)
unfolding phase_at_rise
rise_gathers own sda n bits h = rw (lt-ltb n 7 h)

module _ (c : Chip) (e : Decoded) {n bits : ℕ} (g : Gathers n bits c) (stays : ends c e ≡ false) where
  level_taken : takes_level c e ≡ true → n < 7 → Gathers (n + 1) (gathered bits (sda_level c)) (next c e)
  level_taken h l = by_parts (effect c e)
    where
      by_parts : Effect c e (next c e).core → Gathers (n + 1) (gathered bits (sda_level c)) (next c e)
      by_parts (over m t o) = clash _ m stays
      by_parts (taken m t q s) =
          record { ddc2b = s g.ddc2b; phase = q ∙ ap (phase_at_rise c.core.bus.iiadr (sda_level c)) g.phase ∙ rise_gathers c.core.bus.iiadr (sda_level c) n bits l }
      by_parts (still m t k s) = clash _ h t

  level_kept : takes_level c e ≡ false → Gathers n bits (next c e)
  level_kept h = by_parts (effect c e)
    where
      by_parts : Effect c e (next c e).core → Gathers n bits (next c e)
      by_parts (over m t o) = clash _ m stays
      by_parts (taken m t q s) = clash _ t h
      by_parts (still m t k s) = record { ddc2b = s g.ddc2b; phase = k.address (rw g.phase) ∙ g.phase }

-- ---- over a list of words

abbrev Claim : Chip → List ℕ → Type 0
Claim c ws =
    (n bits : ℕ) → Gathers n bits c → never ends c ws ≡ true → n + length (levels_taken c ws) ≤ 7 →
    Gathers (n + length (levels_taken c ws)) (gathered_all bits (levels_taken c ws)) (advanced c ws)

by_level : (c : Chip) (e : Decoded) (ws : List ℕ) → Claim (next c e) ws → (n bits : ℕ) (t : Bool) → takes_level c e ≡ t → Gathers n bits c → ends c e ≡ false → never ends (next c e) ws ≡ true →
    let levels : List Bool = pick t (sda_level c ∷ levels_taken (next c e) ws) (levels_taken (next c e) ws) in
    n + length levels ≤ 7 → Gathers (n + length levels) (gathered_all bits levels) (advanced (next c e) ws)
by_level c e ws rest n bits true t g stays q l =
    regathered (omega arith) (rest (n + 1) (gathered bits (sda_level c)) (level_taken c e g stays t (omega arith)) q (omega arith))
by_level c e ws rest n bits false t g stays q l = rest n bits (level_kept c e g stays t) q l

gathered_over : (c : Chip) (ws : List ℕ) → Claim c ws
unfolding advance
gathered_over c [] n bits g q l = regathered (sym (add-zero n)) g
gathered_over c (w ∷ ws) n bits g q l =
    let k = parts (ends c (decode w)) _ q in
    by_level c (decode w) ws (gathered_over (next c (decode w)) ws) n bits (takes_level c (decode w)) refl g k.0 k.1 l

-- and none of these words completes an address
abbrev NoneYet : Chip → List ℕ → Type 0
NoneYet c ws = (n bits : ℕ) → Gathers n bits c → never ends c ws ≡ true → n + length (levels_taken c ws) ≤ 7 → never completes c ws ≡ true

awaits_at : {n bits : ℕ} (p : Phase) → p ≡ Address n bits → awaits_eighth p ≡ not (ltb n 7)
awaits_at p h = rw h

few_await : {n bits : ℕ} (c : Chip) (e : Decoded) → Gathers n bits c → n < 7 → completes c e ≡ false
few_await {n} c e g l = rw (awaits_at c.core.bus.phase g.phase, lt-ltb n 7 l) (and-false (takes_level c e))

none_by : (c : Chip) (e : Decoded) (ws : List ℕ) → NoneYet (next c e) ws → (n bits : ℕ) (t : Bool) → takes_level c e ≡ t → Gathers n bits c → ends c e ≡ false → never ends (next c e) ws ≡ true →
    n + length (pick t (sda_level c ∷ levels_taken (next c e) ws) (levels_taken (next c e) ws)) ≤ 7 → (not (completes c e) && never completes (next c e) ws) ≡ true
none_by c e ws rest n bits true t g stays q l =
    not_yet (completes c e) _ (few_await c e g (omega arith)) (rest (n + 1) (gathered bits (sda_level c)) (level_taken c e g stays t (omega arith)) q (omega arith))
none_by c e ws rest n bits false t g stays q l = not_yet (completes c e) _ (rw t) (rest n bits (level_kept c e g stays t) q l)

none_over : (c : Chip) (ws : List ℕ) → NoneYet c ws
none_over c [] n bits g q l = refl
none_over c (w ∷ ws) n bits g q l =
    let k = parts (ends c (decode w)) _ q in
    none_by c (decode w) ws (none_over (next c (decode w)) ws) n bits (takes_level c (decode w)) refl g k.0 k.1 l

-- flag A stays 0 while no address is completed
flag_low : (c : Chip) (ws : List ℕ) → flag AddressMatch c ≡ false → never completes c ws ≡ true → flag AddressMatch (advanced c ws) ≡ false
unfolding advance
flag_low c [] f q = f
flag_low c (w ∷ ws) f q =
    let k = parts (completes c (decode w)) _ q in
    flag_low (next c (decode w)) ws (flag_after c w ∙ rw (k.0, f)) k.1

-- after a START, with up to seven rises, the levels taken are the bits gathered
pub gathered_since : (c : Chip) (w : ℕ) (us : List ℕ) → starts c (decode w) ≡ true → never ends (next c (decode w)) us ≡ true → length (levels_taken (next c (decode w)) us) ≤ 7 →
    Gathers (length (levels_taken (next c (decode w)) us)) (gathered_all 0 (levels_taken (next c (decode w)) us)) (advanced c (w ∷ us))
unfolding advance
gathered_since c w us s q l =
    regathered (zero-add _) (gathered_over (next c (decode w)) us 0 0 (start_begins c (decode w) s) q (omega arith))

-- ---- the eighth rise

gathered_append : (bits : ℕ) (xs : List Bool) (level : Bool) → gathered_all bits (xs ++ (level ∷ [])) ≡ gathered (gathered_all bits xs) level
gathered_append bits [] level = refl
gathered_append bits (x ∷ xs) level = gathered_append (gathered bits x) xs level

pick_append : (t : Bool) (x : Bool) (xs ys : List Bool) → pick t (x ∷ (xs ++ ys)) (xs ++ ys) ≡ pick t (x ∷ xs) xs ++ ys
pick_append true x xs ys = refl
pick_append false x xs ys = refl

pub levels_append : (c : Chip) (us : List ℕ) (v : ℕ) → takes_level (advanced c us) (decode v) ≡ true → levels_taken c (us ++ (v ∷ [])) ≡ levels_taken c us ++ (sda_level (advanced c us) ∷ [])
unfolding advance
levels_append c [] v t = rw t
levels_append c (u ∷ us) v t = rw (levels_append (next c (decode u)) us v t) (pick_append (takes_level c (decode u)) (sda_level c) (levels_taken (next c (decode u)) us) _)

module _ (c : Chip) (w : ℕ) (us : List ℕ) (s : starts c (decode w) ≡ true) (q : never ends (next c (decode w)) us ≡ true) where
  -- with fewer than seven rises before it no event completes an address
  pub undecided : length (levels_taken (next c (decode w)) us) < 7 → (e : Decoded) → raises AddressMatch (advanced c (w ∷ us)) e ≡ false
  undecided l e =
      let x : Chip = advanced c (w ∷ us) in
      let g = gathered_since c w us s q (omega arith) in
      raised_exactly x e ∙ rw (awaits_at x.core.bus.phase g.phase, lt-ltb _ 7 l) (none (takes_level x e) _)
    where
      none : (x y : Bool) → ((x && false) && y) ≡ false
      none true y = refl
      none false y = refl

  module _ (seven : length (levels_taken (next c (decode w)) us) ≡ 7) (v : ℕ) (t : takes_level (advanced c (w ∷ us)) (decode v) ≡ true) where
    -- the eighth rise completes the address of the eight levels
    pub eighth_completes : (completes (advanced c (w ∷ us)) (decode v) ≡ true) × (address_at (advanced c (w ∷ us)) ≡ gathered_all 0 (levels_taken (next c (decode w)) (us ++ (v ∷ []))))
    unfolding advance
    eighth_completes =
        let x : Chip = advanced c (w ∷ us) in
        let g = gathered_since c w us s q (omega arith) in (
          rw (t, awaits_at x.core.bus.phase g.phase, seven),
          rw (levels_append (next c (decode w)) us v t, gathered_append 0 (levels_taken (next c (decode w)) us) (sda_level x), g.phase),
        )

    -- flag A, if it was 0 before the START, is set by the eighth rise exactly where the byte of these levels matches A0H or II ADR as it is then
    pub decided_at_eighth : flag AddressMatch c ≡ false →
        flag AddressMatch (advanced c (w ∷ (us ++ (v ∷ []))))
        ≡ matches (advanced c (w ∷ us)).core.bus.iiadr (gathered_all 0 (levels_taken (next c (decode w)) (us ++ (v ∷ []))))
    unfolding advance
    decided_at_eighth f =
        let x : Chip = advanced c (w ∷ us) in
        let k = eighth_completes in
        let low = flag_low (next c (decode w)) us (flag_after c w ∙ rw (started_none c (decode w) s, f)) (none_over (next c (decode w)) us 0 0 (start_begins c (decode w) s) q (omega arith)) in
        rw (advanced_append (next c (decode w)) us (v ∷ []))
        (flag_after x v ∙ rw (low, k.0, k.1) (or-false _ ∙ own_matches x.core.bus.iiadr _))
