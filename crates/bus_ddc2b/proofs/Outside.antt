-- Where a rise of the SCL line looks at SDA, the chip does not pull it: the outside level is the line's.
-- Assumes nothing.
use Prim.Native.Nat.{ℕ}
use mathlib.Core.Path.{◌≡◌, refl, sym}
use mathlib.Core.Bool.{Bool, true, false}
use lib.Dec.{eqb}
use borrow.Author.Tests.{eqb-true}
use Rattle.bus.specs.declared.OwnAddress.{OwnAddress}
use Rattle.bus.specs.declared.Phase.{Phase}
use Rattle.bus.specs.declared.Phase.TheVariants.{Idle, Address, Addressed, Ignoring, Receive, Transmit, Held}
use Rattle.bus.specs.Bus.{line, pulls_at_bit, pulls_sda}
use Rattle.bus_ddc2b.specs.Ddc2b.{phase_at_rise, data_at_rise, matches_at_rise, status_at_rise, at_rise}

-- a receive pulls in the ninth clock alone, where it gathers nothing
receive_outside : (own : ℕ) (sda : Bool) (iists iidat : ℕ) (m : OwnAddress) (count bits : ℕ) (ninth : Bool) → eqb count 9 ≡ ninth
    → at_rise own (line ninth sda) iists iidat (Receive m count bits) ≡ at_rise own sda iists iidat (Receive m count bits)
unfolding at_rise phase_at_rise data_at_rise matches_at_rise status_at_rise
receive_outside own sda iists iidat m count bits true e = rw (eqb-true count 9 e) refl
receive_outside own sda iists iidat m count bits false e = refl

-- a transmit looks at SDA at a count of 9 alone, where it puts no bit out
transmit_outside : (own : ℕ) (sda : Bool) (iists iidat : ℕ) (m : OwnAddress) (count byte : ℕ) (awaits : Bool) → eqb count 9 ≡ awaits
    → at_rise own (line (pulls_at_bit count byte) sda) iists iidat (Transmit m count byte) ≡ at_rise own sda iists iidat (Transmit m count byte)
unfolding at_rise phase_at_rise data_at_rise matches_at_rise status_at_rise pulls_at_bit
transmit_outside own sda iists iidat m count byte true e = rw (eqb-true count 9 e) refl
transmit_outside own sda iists iidat m count byte false e = rw e

pub outside : (own : ℕ) (sda : Bool) (iists iidat : ℕ) (p : Phase) → at_rise own (line (pulls_sda p) sda) iists iidat p ≡ at_rise own sda iists iidat p
unfolding at_rise phase_at_rise data_at_rise matches_at_rise status_at_rise pulls_sda
outside own sda iists iidat Idle = refl
outside own sda iists iidat (Address count bits) = refl
outside own sda iists iidat (Addressed m bits ninth) = refl
outside own sda iists iidat Ignoring = refl
outside own sda iists iidat (Receive m count bits) = receive_outside own sda iists iidat m count bits (eqb count 9) refl
outside own sda iists iidat (Transmit m count byte) = transmit_outside own sda iists iidat m count byte (eqb count 9) refl
outside own sda iists iidat (Held m clocks) = refl
