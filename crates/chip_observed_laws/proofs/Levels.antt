-- A level set again does nothing. With RESET low a pin changes its own level alone, and a clock or a polarity nothing.
-- Assumes nothing.
use mathlib.Core.Path.{◌≡◌, refl, sym, ap, ◌∙◌}
use mathlib.Core.Bool.{Bool, true, false, not, ◌&&◌}
use Prim.Native.Nat.{ℕ, ◌-◌, ◌%◌, ◌^◌, ◌<◌, ◌≤◌}
use native.Mathlib.Omega.{arith}
use borrow.Author.Tests.{lt-ltb, le-ltb, eqb-true}
use lib.Bits.{bit_and, bit_or, or_zero_r}
use lib.Dec.{T, eqb, ltb}
use Rattle.bits.specs.Byte.{pick, bit, with_bit}
use Rattle.bits.specs.Finite.{all_below}
use Rattle.bits.proofs.Finite.{at_each_pair, T_true}
use Rattle.std.specs.Prelude.{Ok}
use Rattle.events.specs.declared.Event.TheVariants.{Pin, Clock, Polarity}
use Rattle.bus.specs.declared.Mode.{Mode}
use Rattle.bus.specs.declared.Mode.TheVariants.{Off, Ddc1, Ddc2b}
use Rattle.bus.specs.declared.Edge.TheVariants.{Flat}
use Rattle.bus.specs.Bus.{edge, line}
use Rattle.chip.specs.declared.Core.{Core}
use Rattle.chip.specs.declared.Chip.{Chip}
use Rattle.chip.specs.State.{chip_of, with_sda, with_scl, with_reset}
use Rattle.chip_edges.specs.Edges.{on_scl, on_scl_ddc1, on_scl_ddc2b, scl_moved, on_sda, on_sda_ddc2b, sda_moved}
use Rattle.chip_pins.specs.declared.PinKind.{PinKind}
use Rattle.chip_pins.specs.Pins.{rises, port0_moved, port1_moved, port2_moved, p16_moved, hsync_moved, vsync_moved, on_reset, reset_moved, pin_moved_as, pin_moved}
use Rattle.chip_pins.specs.Numbers.{Unnamed, Numbered, p16_pin, sda_pin, scl_pin, hsynci_pin, vsynci_pin, reset_pin, port0_pin, port1_pin, port2_pin, no_pin}
use Rattle.chip_pins.proofs.Numbers.{numbered}
use Rattle.chip_clocks.specs.Clocks.{clocked, polarity_found}
use Rattle.chip_events.specs.Outcome.{core_after, kept_after, was_reset, next}
use Rattle.chip_observed_laws.specs.Levels.{level_of, PortBytes, with_levels}

-- ---- while RESET is low

-- a clock changes nothing
pub low_clock : (c : Chip) (k : ℕ) → c.core.reset ≡ false → next c (Ok (Clock k)) ≡ c
unfolding next core_after kept_after was_reset clocked
low_clock c k r = rw r

-- a polarity found changes nothing
pub low_polarity : (c : Chip) (vertical level : Bool) → c.core.reset ≡ false → next c (Ok (Polarity vertical level)) ≡ c
unfolding next core_after kept_after polarity_found
low_polarity c vertical level r = rw r

-- a pin changes its level alone, whichever pin it is
module _ (c : Chip) (level : Bool) (r : c.core.reset ≡ false) where
  low_kind : {k : PinKind} {p : ℕ} → Numbered k p →
      pin_moved_as k c.core p level ≡ (with_levels c (chip_of c.registers (pin_moved_as k c.core p level))).core
  unfolding pin_moved_as port0_moved port1_moved port2_moved p16_moved sda_moved scl_moved on_sda on_scl hsync_moved vsync_moved reset_moved on_reset
  low_kind (port0_pin u high) = refl
  low_kind (port1_pin u low high) = refl
  low_kind (port2_pin u low high) = refl
  low_kind (no_pin u none) = refl
  low_kind p16_pin = rw (r, or_zero_r c.core.irqx)
  low_kind sda_pin = rw r
  low_kind scl_pin = rw r
  low_kind hsynci_pin = rw r
  low_kind vsynci_pin = rw r
  low_kind reset_pin = rw r (rising level)
    where
      rising : (l : Bool) → on_reset (edge false l) (with_reset c.core l) ≡ (with_levels c (chip_of c.registers (on_reset (edge false l) (with_reset c.core l)))).core
      rising true = refl
      rising false = refl

and_low : (x y z : Bool) → y ≡ false → (x && (y && z)) ≡ false
and_low true y z h = rw h
and_low false y z h = refl

-- a pin changes only its level
pub low_pin : (c : Chip) (p : ℕ) (level : Bool) → c.core.reset ≡ false → next c (Ok (Pin p level)) ≡ with_levels c (next c (Ok (Pin p level)))
unfolding next core_after kept_after was_reset pin_moved
low_pin c p level r = rw (and_low (eqb p 28) c.core.reset (not level) r) (ap (λ (x : Core). chip_of c.registers x) (low_kind c level r (numbered p)))

-- ---- a level set again

-- a byte with a bit put as it is
same_bit : (x k : ℕ) → x < 256 → with_bit x k (bit (k % 8) x) ≡ x
unfolding with_bit bit
same_bit x k h = eqb-true _ _ (T_true _ (at_each_pair (λ i j. eqb (pick (bit j i) (bit_or i (2 ^ j)) (bit_and i (255 - 2 ^ j))) i) 256 8 tt x (k % 8) h (omega arith)))

no_edge : (l : Bool) → edge l l ≡ Flat
no_edge true = refl
no_edge false = refl

no_rise : (reset l : Bool) → rises reset l l ≡ false
no_rise true true = refl
no_rise true false = refl
no_rise false l = refl

flat_scl : (m : Mode) (c : Core) → on_scl m Flat c ≡ c
unfolding on_scl on_scl_ddc1 on_scl_ddc2b
flat_scl Off c = refl
flat_scl Ddc1 c = refl
flat_scl Ddc2b c = refl

flat_sda : (m : Mode) (high : Bool) (c : Core) → on_sda m high Flat c ≡ c
unfolding on_sda on_sda_ddc2b
flat_sda Off high c = refl
flat_sda Ddc1 high c = refl
flat_sda Ddc2b high c = refl

again_reset : (x l : Bool) → (x && (l && not l)) ≡ false
again_reset true true = refl
again_reset true false = refl
again_reset false l = refl

module _ (c : Chip) (b : PortBytes c) where
  port0_again : (p : ℕ) → p < 8 → with_bit c.core.pins.port0 p (level_of p c) ≡ c.core.pins.port0
  unfolding level_of
  port0_again p h = rw (lt-ltb p 8 h) (let e : p % 8 ≡ p = omega arith in rw e at (same_bit c.core.pins.port0 p b.port0))

  port1_again : (p : ℕ) → 8 ≤ p → p < 15 → with_bit c.core.pins.port1 p (level_of p c) ≡ c.core.pins.port1
  unfolding level_of
  port1_again p l h =
      rw (le-ltb p 8 l, lt-ltb p 15 h) (let e : p % 8 ≡ p - 8 = omega arith in rw e at (same_bit c.core.pins.port1 p b.port1))

  port2_again : (p : ℕ) → 16 ≤ p → p < 24 → with_bit c.core.pins.port2 p (level_of p c) ≡ c.core.pins.port2
  unfolding level_of
  port2_again p l h =
      let l8 : ltb p 8 ≡ false = le-ltb p 8 (omega arith) in
      let l15 : ltb p 15 ≡ false = le-ltb p 15 (omega arith) in
      rw (l8, l15, le-ltb p 16 l, lt-ltb p 24 h) (let e : p % 8 ≡ p - 16 = omega arith in rw e at (same_bit c.core.pins.port2 p b.port2))

  p16_again : p16_moved c.core (bit 6 c.core.pins.port1) ≡ c.core
  unfolding p16_moved port1_moved
  p16_again = rw (no_rise c.core.reset (bit 6 c.core.pins.port1), or_zero_r c.core.irqx, same_bit c.core.pins.port1 14 b.port1)

  same_kind : {k : PinKind} {p : ℕ} → Numbered k p → pin_moved_as k c.core p (level_of p c) ≡ c.core
  unfolding pin_moved_as port0_moved port1_moved port2_moved sda_moved scl_moved hsync_moved vsync_moved reset_moved on_reset level_of
  same_kind {p = p} (port0_pin u high) = rw (port0_again p high)
  same_kind {p = p} (port1_pin u low high) = rw (port1_again p low high)
  same_kind {p = p} (port2_pin u low high) = rw (port2_again p low high)
  same_kind (no_pin u none) = refl
  same_kind p16_pin = p16_again
  same_kind sda_pin = rw (no_edge, flat_sda)
  same_kind scl_pin = rw (no_edge, flat_scl)
  same_kind hsynci_pin = rw (no_rise c.core.reset c.core.pins.hsynci)
  same_kind vsynci_pin = rw (no_rise c.core.reset c.core.pins.vsynci)
  same_kind reset_pin = rw (no_edge c.core.reset)

-- RESET is not lowered
not_lowered : (c : Chip) (p : ℕ) (found : Bool) → eqb p 28 ≡ found → (found && (c.core.reset && not (level_of p c))) ≡ false
unfolding level_of
not_lowered c p true e = rw (eqb-true p 28 e) (again_reset true c.core.reset)
not_lowered c p false e = refl

-- a pin given the level that it has changes nothing, whatever the state
pub level_again : (c : Chip) (p : ℕ) → PortBytes c → next c (Ok (Pin p (level_of p c))) ≡ c
unfolding next core_after kept_after was_reset pin_moved
level_again c p b = rw (not_lowered c p (eqb p 28) refl, same_kind c b (numbered p))
