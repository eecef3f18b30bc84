-- Every outside level is what was put last, else the first; no reset moves one, and all are 1 when fresh.
use mathlib.Core.Path.{◌≡◌, refl, sym, ap, ◌∙◌}
use mathlib.Core.Bool.{Bool, true, false, not, ◌&&◌, ◌||◌, and-false, true≢false}
use mathlib.Core.List.{List, [], ◌∷◌}
use Prim.Native.Nat.{ℕ, ◌-◌, ◌%◌, ◌≤◌, ◌<◌}
use native.Mathlib.Omega.{arith}
use borrow.Author.Tests.{ltb-true, ltb-false, lt-ltb, le-ltb, eqb-true, eqb-false, eq-eqb, ne_eqb}
use lib.Dec.{eqb, ltb}
use Rattle.bits.specs.Byte.{pick, bit, with_bit}
use Rattle.bits.specs.Finite.{all_below}
use Rattle.bits.proofs.Finite.{neither, both}
use Rattle.bits.proofs.Level.{pick_by}
use Rattle.bits.proofs.Bitwise.{bit_with_bit}
use Rattle.std.specs.Prelude.{Ok, Err}
use Rattle.events.specs.Decoded.{Decoded}
use Rattle.events.specs.declared.Event.TheVariants.{Read, Write, Pin, Clock, Polarity}
use Rattle.events.specs.Kinds.{on_pin}
use Rattle.events.specs.Word.{decode, is_pin}
use Rattle.bus.specs.declared.Mode.{Mode}
use Rattle.bus.specs.declared.Mode.TheVariants.{Off, Ddc1, Ddc2b}
use Rattle.bus.specs.declared.Edge.{Edge}
use Rattle.bus.specs.declared.Edge.TheVariants.{Flat, Rise, Fall}
use Rattle.bus.specs.Bus.{edge}
use Rattle.counters.specs.Count.{watchdog_fires}
use Rattle.chip.specs.declared.Pins.{Pins}
use Rattle.chip.specs.declared.Core.{Core}
use Rattle.chip.specs.declared.Chip.{Chip}
use Rattle.chip.specs.State.{register_at, reset_at, reset_core, with_reset, with_scl, with_sda, fresh}
use Rattle.chip_edges.specs.Edges.{on_scl, on_scl_ddc1, on_scl_ddc2b, scl_rise, scl_fall, leave_ddc1, scl_moved, on_sda, on_sda_ddc2b, started, stopped, sda_moved}
use Rattle.chip_pins.specs.declared.PinKind.{PinKind}
use Rattle.chip_pins.specs.Pins.{rises, port0_moved, port1_moved, port2_moved, p16_moved, hsync_moved, vsync_moved, vsync_rise, on_reset, reset_moved, pin_moved_as, pin_moved}
use Rattle.chip_pins.specs.Numbers.{Numbered, p16_pin, sda_pin, scl_pin, hsynci_pin, vsynci_pin, reset_pin, port0_pin, port1_pin, port2_pin, no_pin}
use Rattle.chip_pins.proofs.Numbers.{numbered}
use Rattle.chip_clocks.specs.Clocks.{period_clock, timer_runs, timer_step, timer_clock, watchdog_clock, clocked_as, clocked, polarity_found}
use Rattle.chip_events.specs.Outcome.{core_after, next}
use Rattle.step.specs.Step.{advance}
use Rattle.list_call.specs.Run.{advanced}
use Rattle.chip_write_laws.specs.Frame.Part.{PinLevels, SdaLevel, SclLevel, ResetLevel}
use Rattle.chip_write_laws.specs.Frame.{alters}
use Rattle.chip_write_laws.proofs.Frame.{frame}
use Rattle.chip_count_laws.specs.Counting.{level_after}
use Rattle.chip_observed_laws.specs.Levels.{level_of}
use Rattle.chip_rule_laws.specs.Levels.{last_level}

-- ---- what an event puts, field by field

-- the levels of a port's pins, by a test of the pin's number
abbrev port_after : (ℕ → Bool) → Decoded → ℕ → ℕ
port_after ofPort e x = on_pin x (λ q level. pick (ofPort q) (with_bit x q level) x) e

record Put (c : Core) (e : Decoded) (after : Core) : Type 0 where
  pub port0 : after.pins.port0 ≡ port_after (λ q. ltb q 8) e c.pins.port0
  pub port1 : after.pins.port1 ≡ port_after (λ q. ltb 7 q && ltb q 15) e c.pins.port1
  pub port2 : after.pins.port2 ≡ port_after (λ q. ltb 15 q && ltb q 24) e c.pins.port2
  pub sda : after.sda ≡ level_after 24 e c.sda
  pub scl : after.scl ≡ level_after 25 e c.scl
  pub hsynci : after.pins.hsynci ≡ level_after 26 e c.pins.hsynci
  pub vsynci : after.pins.vsynci ≡ level_after 27 e c.pins.vsynci
  pub reset : after.reset ≡ level_after 28 e c.reset

-- what keeps all levels
record Same (c after : Core) : Type 0 where
  pub pins : after.pins ≡ c.pins
  pub sda : after.sda ≡ c.sda
  pub scl : after.scl ≡ c.scl
  pub reset : after.reset ≡ c.reset

then_same : {c put after : Core} {e : Decoded} → Put c e put → Same put after → Put c e after
then_same p s =
    record {
      port0 = ap (λ (x : Pins). x.port0) s.pins ∙ p.port0;
      port1 = ap (λ (x : Pins). x.port1) s.pins ∙ p.port1;
      port2 = ap (λ (x : Pins). x.port2) s.pins ∙ p.port2;
      sda = s.sda ∙ p.sda;
      scl = s.scl ∙ p.scl;
      hsynci = ap (λ (x : Pins). x.hsynci) s.pins ∙ p.hsynci;
      vsynci = ap (λ (x : Pins). x.vsynci) s.pins ∙ p.vsynci;
      reset = s.reset ∙ p.reset;
    }

scl_same : (m : Mode) (e : Edge) (c : Core) → Same c (on_scl m e c)
unfolding on_scl on_scl_ddc1 on_scl_ddc2b scl_rise scl_fall leave_ddc1
scl_same Off e c = record { pins = refl; sda = refl; scl = refl; reset = refl }
scl_same Ddc1 Flat c = record { pins = refl; sda = refl; scl = refl; reset = refl }
scl_same Ddc1 Rise c = record { pins = refl; sda = refl; scl = refl; reset = refl }
scl_same Ddc1 Fall c = record { pins = refl; sda = refl; scl = refl; reset = refl }
scl_same Ddc2b Flat c = record { pins = refl; sda = refl; scl = refl; reset = refl }
scl_same Ddc2b Rise c = record { pins = refl; sda = refl; scl = refl; reset = refl }
scl_same Ddc2b Fall c = record { pins = refl; sda = refl; scl = refl; reset = refl }

sda_same : (m : Mode) (high : Bool) (e : Edge) (c : Core) → Same c (on_sda m high e c)
unfolding on_sda on_sda_ddc2b started stopped
sda_same Off high e c = record { pins = refl; sda = refl; scl = refl; reset = refl }
sda_same Ddc1 high e c = record { pins = refl; sda = refl; scl = refl; reset = refl }
sda_same Ddc2b high Flat c = record { pins = refl; sda = refl; scl = refl; reset = refl }
sda_same Ddc2b true Rise c = record { pins = refl; sda = refl; scl = refl; reset = refl }
sda_same Ddc2b false Rise c = record { pins = refl; sda = refl; scl = refl; reset = refl }
sda_same Ddc2b true Fall c = record { pins = refl; sda = refl; scl = refl; reset = refl }
sda_same Ddc2b false Fall c = record { pins = refl; sda = refl; scl = refl; reset = refl }

-- a reset moves none
reset_same : (old new : Bool) (c : Core) → Same (with_reset c new) (on_reset (edge old new) (with_reset c new))
unfolding on_reset reset_core reset_at
reset_same true true c = record { pins = refl; sda = refl; scl = refl; reset = refl }
reset_same true false c = record { pins = refl; sda = refl; scl = refl; reset = refl }
reset_same false true c = record { pins = refl; sda = refl; scl = refl; reset = refl }
reset_same false false c = record { pins = refl; sda = refl; scl = refl; reset = refl }

-- ---- pins

no_port2 : (q : ℕ) (above : Bool) → (above && ltb q 29) ≡ false → (above && ltb q 24) ≡ false
no_port2 q true h = le-ltb q 24 (let l = ltb-false q 29 h in omega arith)
no_port2 q false h = refl

module _ (c : Core) (level : Bool) where
  put_kind : {k : PinKind} {q : ℕ} → Numbered k q → Put c (Ok (Pin q level)) (pin_moved_as k c q level)
  unfolding pin_moved_as port0_moved port1_moved port2_moved p16_moved sda_moved scl_moved hsync_moved vsync_moved vsync_rise reset_moved
  put_kind {q = q} (port0_pin u high) =
      record {
        port0 = rw (lt-ltb q 8 high) refl;
        port1 = rw (le-ltb 7 q (omega arith)) refl;
        port2 = rw (le-ltb 15 q (omega arith)) refl;
        sda = rw u.sda refl;
        scl = rw u.scl refl;
        hsynci = rw u.hsynci refl;
        vsynci = rw u.vsynci refl;
        reset = rw u.reset refl;
      }
  put_kind {q = q} (port1_pin u low high) =
      record {
        port0 = rw (le-ltb q 8 low) refl;
        port1 = rw (lt-ltb 7 q (omega arith), lt-ltb q 15 high) refl;
        port2 = rw (le-ltb 15 q (omega arith)) refl;
        sda = rw u.sda refl;
        scl = rw u.scl refl;
        hsynci = rw u.hsynci refl;
        vsynci = rw u.vsynci refl;
        reset = rw u.reset refl;
      }
  put_kind {q = q} (port2_pin u low high) =
      record {
        port0 = rw (le-ltb q 8 (omega arith)) refl;
        port1 = rw (le-ltb q 15 (omega arith), and-false (ltb 7 q)) refl;
        port2 = rw (lt-ltb 15 q (omega arith), lt-ltb q 24 high) refl;
        sda = rw u.sda refl;
        scl = rw u.scl refl;
        hsynci = rw u.hsynci refl;
        vsynci = rw u.vsynci refl;
        reset = rw u.reset refl;
      }
  put_kind {q = q} (no_pin u none) =
      let n = neither (ltb q 15) (ltb 15 q && ltb q 29) none in
      let past = ltb-false q 15 n.0 in
      record {
        port0 = rw (le-ltb q 8 (omega arith)) refl;
        port1 = rw (n.0, and-false (ltb 7 q)) refl;
        port2 = rw (no_port2 q (ltb 15 q) n.1) refl;
        sda = rw u.sda refl;
        scl = rw u.scl refl;
        hsynci = rw u.hsynci refl;
        vsynci = rw u.vsynci refl;
        reset = rw u.reset refl;
      }
  put_kind p16_pin = record { port0 = refl; port1 = refl; port2 = refl; sda = refl; scl = refl; hsynci = refl; vsynci = refl; reset = refl }
  put_kind sda_pin = then_same (record { port0 = refl; port1 = refl; port2 = refl; sda = refl; scl = refl; hsynci = refl; vsynci = refl; reset = refl }) (sda_same _ _ _ (with_sda c level))
  put_kind scl_pin = then_same (record { port0 = refl; port1 = refl; port2 = refl; sda = refl; scl = refl; hsynci = refl; vsynci = refl; reset = refl }) (scl_same _ _ (with_scl c level))
  put_kind hsynci_pin = record { port0 = refl; port1 = refl; port2 = refl; sda = refl; scl = refl; hsynci = refl; vsynci = refl; reset = refl }
  put_kind vsynci_pin =
      pick_by (Put c (Ok (Pin 27 level))) (rises c.reset c.pins.vsynci level)
      (λ _. record { port0 = refl; port1 = refl; port2 = refl; sda = refl; scl = refl; hsynci = refl; vsynci = refl; reset = refl })
      (λ _. record { port0 = refl; port1 = refl; port2 = refl; sda = refl; scl = refl; hsynci = refl; vsynci = refl; reset = refl })
  put_kind reset_pin = then_same (record { port0 = refl; port1 = refl; port2 = refl; sda = refl; scl = refl; hsynci = refl; vsynci = refl; reset = refl }) (reset_same c.reset level c)

-- ---- clocks

clock_same : (btcon : ℕ) (c : Core) (k : ℕ) → Same c (clocked btcon c k)
unfolding clocked clocked_as period_clock watchdog_clock timer_clock timer_step reset_core reset_at
clock_same btcon c k =
    pick_by (Same c) c.reset
    (λ _. pick_by (Same c) (eqb k 0) (λ _. record { pins = refl; sda = refl; scl = refl; reset = refl })
    (λ _. pick_by (Same c) (eqb k 3)
    (λ _. pick_by (Same c) (watchdog_fires c.watchdog) (λ _. record { pins = refl; sda = refl; scl = refl; reset = refl }) (λ _. record { pins = refl; sda = refl; scl = refl; reset = refl }))
    (λ _. pick_by (Same c) (timer_runs btcon k) (λ _. record { pins = refl; sda = refl; scl = refl; reset = refl }) (λ _. record { pins = refl; sda = refl; scl = refl; reset = refl }))))
    (λ _. record { pins = refl; sda = refl; scl = refl; reset = refl })

-- ---- every event

put : (c : Chip) (e : Decoded) → Put c.core e (next c e).core
unfolding next core_after pin_moved polarity_found alters
put c (Ok (Read a)) = record { port0 = refl; port1 = refl; port2 = refl; sda = refl; scl = refl; hsynci = refl; vsynci = refl; reset = refl }
put c (Ok (Write a b)) =
    let p = frame c a b PinLevels refl in
    record {
      port0 = ap (λ (x : Pins). x.port0) p;
      port1 = ap (λ (x : Pins). x.port1) p;
      port2 = ap (λ (x : Pins). x.port2) p;
      sda = frame c a b SdaLevel refl;
      scl = frame c a b SclLevel refl;
      hsynci = ap (λ (x : Pins). x.hsynci) p;
      vsynci = ap (λ (x : Pins). x.vsynci) p;
      reset = frame c a b ResetLevel refl;
    }
put c (Ok (Pin q level)) = put_kind c.core level (numbered q)
put c (Ok (Clock k)) =
    then_same (record { port0 = refl; port1 = refl; port2 = refl; sda = refl; scl = refl; hsynci = refl; vsynci = refl; reset = refl }) (clock_same (register_at c.registers 23) c.core k)
put c (Ok (Polarity vertical level)) =
    pick_by (Put c.core (Ok (Polarity vertical level))) c.core.reset
    (λ _. record { port0 = refl; port1 = refl; port2 = refl; sda = refl; scl = refl; hsynci = refl; vsynci = refl; reset = refl })
    (λ _. record { port0 = refl; port1 = refl; port2 = refl; sda = refl; scl = refl; hsynci = refl; vsynci = refl; reset = refl })
put c (Err r) = record { port0 = refl; port1 = refl; port2 = refl; sda = refl; scl = refl; hsynci = refl; vsynci = refl; reset = refl }

-- ---- by the pin's number

-- a number modulo 8 is all that counts of a bit
with_bit_by : (x q k : ℕ) (v : Bool) → q % 8 ≡ k → k < 8 → with_bit x q v ≡ with_bit x k v
unfolding with_bit
with_bit_by x q k v e h = let f : k % 8 ≡ k = omega arith in rw (e, f)

-- pins of a port, from `first` on
module _ (first size : ℕ) (ofPort : ℕ → Bool) (eighth : first % 8 ≡ 0) (within : size ≤ 8) (in-port : (q : ℕ) → ofPort q ≡ true → (first ≤ q) × (q - first < size)) (of-port : (q : ℕ) → first ≤ q → q - first < size → ofPort q ≡ true) where
  port_bit : (p : ℕ) → first ≤ p → p - first < size → (e : Decoded) (x : ℕ) → bit (p - first) (port_after ofPort e x) ≡ level_after p e (bit (p - first) x)
  port_bit p l h (Ok (Read a)) x = refl
  port_bit p l h (Ok (Write a b)) x = refl
  port_bit p l h (Ok (Pin q level)) x =
      pick_by (λ (y : ℕ). bit (p - first) y ≡ pick (eqb q p) level (bit (p - first) x)) (ofPort q)
      (λ t.
      let i = in-port q t in
      let m : q % 8 ≡ q - first = omega (arith, i.0, i.1) in
      ap (λ (y : ℕ). bit (p - first) y) (with_bit_by x q (q - first) level m (omega (arith, i.1))) ∙ bit_with_bit (p - first) (q - first) x level (omega arith) (omega (arith, i.1))
      ∙ ap (λ (t : Bool). pick t level (bit (p - first) x)) (swapped q i.0))
      (λ f. ap (λ (t : Bool). pick t level (bit (p - first) x)) (sym (ne_eqb q p (λ e. true≢false (sym (of-port q (rw e l) (rw e h)) ∙ f)))))
    where
      swapped : (q : ℕ) → first ≤ q → eqb (p - first) (q - first) ≡ eqb q p
      swapped q g =
          let by : (t : Bool) → eqb q p ≡ t → eqb (p - first) (q - first) ≡ t = λ t. swapped_by q g t in
          by (eqb q p) refl
        where
          swapped_by : (q : ℕ) → first ≤ q → (t : Bool) → eqb q p ≡ t → eqb (p - first) (q - first) ≡ t
          swapped_by q g true e = eq-eqb (p - first) (q - first) (rw (eqb-true q p e) refl)
          swapped_by q g false e = ne_eqb (p - first) (q - first) (λ s. eqb-false q p e (omega (arith, s)))
  port_bit p l h (Ok (Clock k)) x = refl
  port_bit p l h (Ok (Polarity vertical level)) x = refl
  port_bit p l h (Err r) x = refl

-- ---- the level of a pin

module _ (c : Chip) (e : Decoded) where
  level_by : {k : PinKind} {p : ℕ} → Numbered k p → is_pin p ≡ true → level_of p (next c e) ≡ level_after p e (level_of p c)
  unfolding level_of
  level_by {p = p} (port0_pin u high) h =
      let same : p - 0 ≡ p = omega arith in
      rw (lt-ltb p 8 high)
      (ap (λ (x : ℕ). bit p x) (put c e).port0
      ∙ rw same at
      (port_bit 0 8 (λ q. ltb q 8) refl (omega arith) (λ q t. (omega arith, (let l = ltb-true q 8 t in omega arith))) (λ q _ t. lt-ltb q 8 (omega arith)) p (omega arith) (omega arith) e c.core.pins.port0))
  level_by {p = p} (port1_pin u low high) h =
      rw (le-ltb p 8 low, lt-ltb p 15 high)
      (ap (λ (x : ℕ). bit (p - 8) x) (put c e).port1
      ∙ port_bit 8 7 (λ q. ltb 7 q && ltb q 15) refl (omega arith) (λ q t. let k = both (ltb 7 q) (ltb q 15) t in (ltb-true 7 q k.0, (let l = ltb-true q 15 k.1 in omega arith)))
      (λ q l t. rw (lt-ltb 7 q (omega arith), lt-ltb q 15 (omega arith)) refl) p low (omega arith) e c.core.pins.port1)
  level_by {p = p} (port2_pin u low high) h =
      let l8 : ltb p 8 ≡ false = le-ltb p 8 (omega arith) in
      let l15 : ltb p 15 ≡ false = le-ltb p 15 (omega arith) in
      rw (l8, l15, le-ltb p 16 low, lt-ltb p 24 high)
      (ap (λ (x : ℕ). bit (p - 16) x) (put c e).port2
      ∙ port_bit 16 8 (λ q. ltb 15 q && ltb q 24) refl (omega arith) (λ q t. let k = both (ltb 15 q) (ltb q 24) t in (ltb-true 15 q k.0, (let l = ltb-true q 24 k.1 in omega arith)))
      (λ q l t. rw (lt-ltb 15 q (omega arith), lt-ltb q 24 (omega arith)) refl) p low (omega arith) e c.core.pins.port2)
  level_by (no_pin u none) h = absurd (true≢false (sym h ∙ none))
  level_by p16_pin h =
      ap (λ (x : ℕ). bit 6 x) (put c e).port1
      ∙ port_bit 8 7 (λ q. ltb 7 q && ltb q 15) refl (omega arith) (λ q t. let k = both (ltb 7 q) (ltb q 15) t in (ltb-true 7 q k.0, (let l = ltb-true q 15 k.1 in omega arith)))
      (λ q l t. rw (lt-ltb 7 q (omega arith), lt-ltb q 15 (omega arith)) refl) 14 (omega arith) (omega arith) e c.core.pins.port1
  level_by sda_pin h = (put c e).sda
  level_by scl_pin h = (put c e).scl
  level_by hsynci_pin h = (put c e).hsynci
  level_by vsynci_pin h = (put c e).vsynci
  level_by reset_pin h = (put c e).reset

-- after any event a pin has the level that the event puts on it, else the one that it had
pub level_after_lem : (p : ℕ) → is_pin p ≡ true → (c : Chip) (e : Decoded) → level_of p (next c e) ≡ level_after p e (level_of p c)
level_after_lem p h c e = level_by c e (numbered p) h

-- and after a list the one that was put last, else the first
pub level_last : (p : ℕ) → is_pin p ≡ true → (c : Chip) (ws : List ℕ) → level_of p (advanced c ws) ≡ last_level p ws (level_of p c)
unfolding advance
level_last p h c [] = refl
level_last p h c (w ∷ ws) = level_last p h (next c (decode w)) ws ∙ ap (last_level p ws) (level_after_lem p h c (decode w))

-- all 28 pins of a fresh chip are high
pub fresh_high : all_below (λ (p : ℕ). not (is_pin p) || level_of p fresh) 29 ≡ true
unfolding level_of fresh reset_at bit
fresh_high = refl
