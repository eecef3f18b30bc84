-- The pins by their numbers: those that a rule names, the others of the ports, and numbers that no pin has.
-- Assumes nothing.
use mathlib.Core.Path.{◌≡◌, refl}
use mathlib.Core.Bool.{Bool, true, false, and-false}
use Prim.Native.Nat.{ℕ, ◌≤◌}
use native.Mathlib.Omega.{arith}
use borrow.Author.Tests.{eqb-true, eqb-false, ltb-true, ltb-false, le-ltb}
use lib.Dec.{eqb, ltb}
use Rattle.bits.proofs.Level.{pick_by}
use Rattle.events.specs.Pins as pin
use Rattle.events.specs.Word.{is_pin}
use Rattle.chip_pins.specs.declared.PinKind.{PinKind}
use Rattle.chip_pins.specs.declared.PinKind.TheVariants.{P16}
use Rattle.chip_pins.specs.Pins.{port_kind, pin_kind}
use Rattle.chip_pins.specs.Numbers.{Unnamed, Numbered, hsynci_pin, no_pin, p16_pin, port0_pin, port1_pin, port2_pin, reset_pin, scl_pin, sda_pin, vsynci_pin}

-- 15 is no pin
no_fifteen : (p : ℕ) → ltb p 15 ≡ false → ltb p 16 ≡ true → is_pin p ≡ false
no_fifteen p low high = rw (low, le-ltb 15 p (omega (arith, ltb-true p 16 high)))

-- and none is above 28
no_more : (p : ℕ) → Unnamed p → ltb p 15 ≡ false → ltb p 24 ≡ false → is_pin p ≡ false
no_more p u low high =
    let last : 29 ≤ p = omega (arith, ltb-false p 24 high, eqb-false p 24 u.sda, eqb-false p 25 u.scl, eqb-false p 26 u.hsynci, eqb-false p 27 u.vsynci, eqb-false p 28 u.reset) in
    rw (low, le-ltb p 29 last) (and-false (ltb 15 p))

port_numbered : {p : ℕ} → Unnamed p → Numbered (port_kind p) p
unfolding port_kind
port_numbered {p} u =
    let P : PinKind → Type 0 = λ (k : PinKind). Numbered k p in
    pick_by P (ltb p 8) (λ high. port0_pin u (ltb-true p 8 high))
    (λ low. pick_by P (ltb p 15) (λ high. port1_pin u (ltb-false p 8 low) (ltb-true p 15 high))
    (λ past. pick_by P (ltb p 16) (λ here. no_pin u (no_fifteen p past here))
    (λ low. pick_by P (ltb p 24) (λ high. port2_pin u (ltb-false p 16 low) (ltb-true p 24 high))
    (λ above. no_pin u (no_more p u past above)))))

-- the number is n, or it is told that it is not
at : (p n : ℕ) (found : Bool) → eqb p n ≡ found → Numbered (pin_kind n) n → (eqb p n ≡ false → Numbered (pin_kind p) p) → Numbered (pin_kind p) p
at p n true e here others = rw (eqb-true p n e) here
at p n false e here others = others e

pub numbered : (p : ℕ) → Numbered (pin_kind p) p
unfolding pin_kind
numbered p =
    at p pin.P16 _ refl p16_pin (λ p16. at p pin.SDA _ refl sda_pin (λ sda. at p pin.SCL _ refl scl_pin (λ scl.
    at p pin.HSYNCI _ refl hsynci_pin (λ hsynci. at p pin.VSYNCI _ refl vsynci_pin (λ vsynci. at p pin.RESET _ refl reset_pin (λ reset.
    rw (p16, sda, scl, hsynci, vsynci, reset)
    (port_numbered (record { p16 = p16; sda = sda; scl = scl; hsynci = hsynci; vsynci = vsynci; reset = reset }))))))))
