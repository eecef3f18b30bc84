-- Which pin a number is.
use Rattle.std.specs.Prelude.{◌≡◌, false, ℕ, ◌≤◌, ◌<◌, eqb}
use Rattle.events.specs.Pins as pin
use Rattle.events.specs.Word.{is_pin}
use Rattle.chip_pins.specs.declared.PinKind.{PinKind}
use Rattle.chip_pins.specs.declared.PinKind.TheVariants.{Port0, Port1, P16, Port2, Sda, Scl, Hsynci, Vsynci, Reset, Absent}

-- none of the pins that a rule names
pub record Unnamed (p : ℕ) : Type 0 where
  pub p16 : eqb p pin.P16 ≡ false
  pub sda : eqb p pin.SDA ≡ false
  pub scl : eqb p pin.SCL ≡ false
  pub hsynci : eqb p pin.HSYNCI ≡ false
  pub vsynci : eqb p pin.VSYNCI ≡ false
  pub reset : eqb p pin.RESET ≡ false

-- a kind of pin with its number
pub data Numbered : PinKind → ℕ → Type 0 where
  p16_pin : Numbered P16 pin.P16
  sda_pin : Numbered Sda pin.SDA
  scl_pin : Numbered Scl pin.SCL
  hsynci_pin : Numbered Hsynci pin.HSYNCI
  vsynci_pin : Numbered Vsynci pin.VSYNCI
  reset_pin : Numbered Reset pin.RESET
  port0_pin : {p : ℕ} → Unnamed p → p < 8 → Numbered Port0 p
  port1_pin : {p : ℕ} → Unnamed p → 8 ≤ p → p < 15 → Numbered Port1 p
  port2_pin : {p : ℕ} → Unnamed p → 16 ≤ p → p < 24 → Numbered Port2 p
  no_pin : {p : ℕ} → Unnamed p → is_pin p ≡ false → Numbered Absent p
