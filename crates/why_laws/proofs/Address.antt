-- The outcome that the phase keeps after an event that sets flag A is that of the address which the event completed.
-- Assumes nothing.
use mathlib.Core.Path.{◌≡◌, refl, sym, ◌∙◌}
use mathlib.Core.Bool.{Bool, true, false, not, ◌&&◌, true≢false}
use Prim.Native.Nat.{ℕ}
use borrow.Author.Tests.{eqb-true, not-true}
use lib.Dec.{eqb, ltb}
use Rattle.bits.specs.Byte.{pick, bit}
use Rattle.bits.proofs.Finite.{both}
use Rattle.std.specs.Prelude.{Ok, Err}
use Rattle.events.specs.Decoded.{Decoded}
use Rattle.events.specs.declared.Event.TheVariants.{Read, Write, Pin, Clock, Polarity}
use Rattle.bus.specs.declared.Comparison.{Comparison}
use Rattle.bus.specs.declared.Comparison.TheVariants.{None, Own}
use Rattle.bus.specs.declared.Phase.{Phase}
use Rattle.bus.specs.declared.Phase.TheVariants.{Idle, Address, Addressed, Ignoring, Receive, Transmit, Held}
use Rattle.bus.specs.Bus.{line, edge, mode, mode_by, pulls_sda, pulls_scl, scl_pulled, compared_in, is_own}
use Rattle.bus_ddc2b.specs.Ddc2b.{matches, gathered, compared, addressed, phase_at_rise}
use Rattle.bus_ddc2b.proofs.Own.{own_matches}
use Rattle.chip.specs.declared.Chip.{Chip}
use Rattle.chip_edges.specs.Edges.{bus_at_rise, scl_rise, on_scl, on_scl_ddc2b, scl_moved}
use Rattle.chip_pins.specs.Pins.{pin_kind, pin_moved_as, pin_moved}
use Rattle.chip_events.specs.Outcome.{core_after, next}
use Rattle.chip_flag_laws.specs.Causes.{raises, completes_match}
use Rattle.chip_flag_laws.specs.Causes.Source.{AddressMatch}
use Rattle.why_laws.specs.Due.{completed, address_outcome}

pub false_true : {A : Type 0} → ◌≡◌ {A = Bool} false true → A
false_true h = absurd (true≢false (sym h))

-- ---- by the phase

kept_outcome : (k : Comparison) (byte : ℕ) → compared_in (addressed k byte) ≡ k
unfolding compared_in
kept_outcome None byte = refl
kept_outcome (Own matched) byte = refl

at_phase_lem : (own : ℕ) (sda : Bool) (p : Phase) → completes_match own sda p ≡ true
    → (compared_in (phase_at_rise own sda p) ≡ completed own sda p) × (is_own (completed own sda p) ≡ true)
unfolding phase_at_rise
at_phase_lem own sda Idle h = false_true h
at_phase_lem own sda (Address count bits) h =
    let k = both (not (ltb count 7)) (matches own (gathered bits sda)) h in (
      rw (not-true (ltb count 7) k.0) (kept_outcome (compared own (gathered bits sda)) (gathered bits sda)),
      own_matches own (gathered bits sda) ∙ k.1,
    )
at_phase_lem own sda (Addressed matched bits ninth) h = false_true h
at_phase_lem own sda Ignoring h = false_true h
at_phase_lem own sda (Receive matched count bits) h = false_true h
at_phase_lem own sda (Transmit matched count byte) h = false_true h
at_phase_lem own sda (Held matched clocks) h = false_true h

-- a phase that completes an address does not hold SCL
not_held : (own : ℕ) (sda : Bool) (p : Phase) → completes_match own sda p ≡ true → pulls_scl p ≡ false
unfolding pulls_scl
not_held own sda Idle h = refl
not_held own sda (Address count bits) h = refl
not_held own sda (Addressed matched bits ninth) h = refl
not_held own sda Ignoring h = refl
not_held own sda (Receive matched count bits) h = refl
not_held own sda (Transmit matched count byte) h = refl
not_held own sda (Held matched clocks) h = false_true h

-- ---- the rise of SCL

rise_phase : (c : Chip) → c.core.reset ≡ true → bit 3 c.core.bus.iists ≡ false → bit 0 c.core.mdcon ≡ false
    → pulls_scl c.core.bus.phase ≡ false → c.core.scl ≡ false
    → (next c (Ok (Pin 25 true))).core.bus.phase ≡ phase_at_rise c.core.bus.iiadr (line (pulls_sda c.core.bus.phase) c.core.sda) c.core.bus.phase
unfolding next core_after pin_moved pin_moved_as pin_kind scl_moved on_scl on_scl_ddc2b mode scl_pulled scl_rise bus_at_rise
rise_phase c r e m f s = rw (r, e, m, f, s)

-- what an event that sets A does
pub outcome_told : (c : Chip) (e : Decoded) → raises AddressMatch c e ≡ true
    → (compared_in (next c e).core.bus.phase ≡ address_outcome c) × (is_own (address_outcome c) ≡ true)
unfolding raises
outcome_told c (Ok (Read a)) h = false_true h
outcome_told c (Ok (Write a b)) h = false_true h
outcome_told c (Ok (Pin p level)) h =
    let scl = both ((eqb p 25 && level) && (c.core.reset && (not c.core.scl && _))) _ h in
    let put = both (eqb p 25 && level) (c.core.reset && (not c.core.scl && _)) scl.0 in
    let pin = both (eqb p 25) level put.0 in
    let high = both c.core.reset (not c.core.scl && _) put.1 in
    let low = both (not c.core.scl) _ high.1 in
    let hit = both (not (bit 3 c.core.bus.iists) && not (bit 0 c.core.mdcon)) _ scl.1 in
    let on = both (not (bit 3 c.core.bus.iists)) (not (bit 0 c.core.mdcon)) hit.0 in
    let free = not_held c.core.bus.iiadr (line (pulls_sda c.core.bus.phase) c.core.sda) c.core.bus.phase hit.1 in
    let done = at_phase_lem c.core.bus.iiadr (line (pulls_sda c.core.bus.phase) c.core.sda) c.core.bus.phase hit.1 in
    let phase = rise_phase c high.0 (not-true (bit 3 c.core.bus.iists) on.0) (not-true (bit 0 c.core.mdcon) on.1) free (not-true c.core.scl low.0) in
    (rw (eqb-true p 25 pin.0, pin.1, phase) done.0, done.1)
outcome_told c (Ok (Clock k)) h = false_true h
outcome_told c (Ok (Polarity vertical level)) h = false_true h
outcome_told c (Err r) h = false_true h
