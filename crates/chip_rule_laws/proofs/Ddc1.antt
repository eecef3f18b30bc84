-- A fall of SCL in DDC1 leads to DDC2B, a change of mode (document 01, "The bus").
use mathlib.Core.Path.{◌≡◌, refl, sym}
use mathlib.Core.Bool.{true, false, not, true≢false}
use native.Mathlib.Omega.{arith}
use borrow.Author.Tests.{eqb-true, not-true}
use lib.Dec.{eqb}
use Rattle.bits.specs.Byte.{bit}
use Rattle.bits.proofs.Bitwise.{bit_with_bit}
use Rattle.bits.proofs.Finite.{both}
use Rattle.std.specs.Prelude.{Ok, Err}
use Rattle.events.specs.Pins.{SCL}
use Rattle.events.specs.Decoded.{Decoded}
use Rattle.events.specs.declared.Event.TheVariants.{Read, Write, Pin, Clock, Polarity}
use Rattle.bus.specs.Bus.{mode, scl_pulled}
use Rattle.chip.specs.declared.Chip.{Chip}
use Rattle.chip.specs.State.{released, with_scl}
use Rattle.chip_edges.specs.Edges.{leave_ddc1, on_scl, on_scl_ddc1, scl_moved}
use Rattle.chip_pins.specs.Pins.{pin_kind, pin_moved_as, pin_moved}
use Rattle.chip_events.specs.Outcome.{core_after, next}
use Rattle.chip_flag_laws.specs.Causes.{in_ddc1, falls_scl}
use Rattle.chip_rule_laws.specs.Ddc1.{Left}

module _ (c : Chip) (reset : c.core.reset ≡ true) (high : c.core.scl ≡ true) (enddc : bit 3 c.core.bus.iists ≡ false) (md : bit 0 c.core.mdcon ≡ true) where
  fall_seen : (next c (Ok (Pin SCL false))).core ≡ leave_ddc1 (with_scl c.core false)
  unfolding next core_after pin_moved pin_moved_as pin_kind scl_moved on_scl on_scl_ddc1 scl_pulled mode
  fall_seen = rw (reset, enddc, md, high) refl

  left : Left c (next c (Ok (Pin SCL false)))
  unfolding leave_ddc1 released
  left =
      record {
        ddc2b = rw (fall_seen, enddc, bit_with_bit 0 0 c.core.mdcon false (omega arith) (omega arith)) refl;
        idle = rw fall_seen refl;
        unused = rw fall_seen refl;
        others = λ k h n. rw (fall_seen, bit_with_bit k 0 c.core.mdcon false h (omega arith), n) refl;
      }

pub scl_fall_leaves : (c : Chip) (e : Decoded) → in_ddc1 c ≡ true → falls_scl c e ≡ true → Left c (next c e)
scl_fall_leaves c (Ok (Read a)) on h = absurd (true≢false (sym h))
scl_fall_leaves c (Ok (Write a b)) on h = absurd (true≢false (sym h))
scl_fall_leaves c (Ok (Pin p level)) on h =
    let x = both _ _ h in
    let put = both (eqb p 25) (not level) x.0 in
    let y = both _ _ x.1 in
    let z = both _ _ y.1 in
    let m = both _ _ on in
    rw (eqb-true p 25 put.0, not-true level put.1) (left c y.0 z.0 (not-true _ m.0) m.1)
scl_fall_leaves c (Ok (Clock k)) on h = absurd (true≢false (sym h))
scl_fall_leaves c (Ok (Polarity vertical level)) on h = absurd (true≢false (sym h))
scl_fall_leaves c (Err r) on h = absurd (true≢false (sym h))
