-- The registers whose write does more than store, by their addresses, and the others.
-- Assumes nothing.
use mathlib.Core.Path.{◌≡◌, refl}
use mathlib.Core.Bool.{Bool, true, false}
use Prim.Native.Nat.{ℕ}
use borrow.Author.Tests.{eqb-true}
use lib.Dec.{eqb}
use Rattle.registers.specs.Names.{MDCON, HVCON, CLRFLG, CLRWDT, IIADR, IIDAT, IISTS, BT}
use Rattle.chip_writes.specs.declared.Target.{Target}
use Rattle.chip_writes.specs.declared.Target.TheVariants.{Stored, Mdcon, Hvcon, Clrflg, Clrwdt, Iiadr, Iidat, Iists, Bt}
use Rattle.chip_writes.specs.Writes.{target}

-- a register whose write only stores is none of the eight
pub record Plain (a : ℕ) : Type 0 where
  pub mdcon : eqb a MDCON ≡ false
  pub hvcon : eqb a HVCON ≡ false
  pub clrflg : eqb a CLRFLG ≡ false
  pub clrwdt : eqb a CLRWDT ≡ false
  pub iiadr : eqb a IIADR ≡ false
  pub iidat : eqb a IIDAT ≡ false
  pub iists : eqb a IISTS ≡ false
  pub bt : eqb a BT ≡ false

-- what a write does, with the address of its register
pub data Addressed : Target → ℕ → Type 0 where
  at_mdcon : Addressed Mdcon MDCON
  at_hvcon : Addressed Hvcon HVCON
  at_clrflg : Addressed Clrflg CLRFLG
  at_clrwdt : Addressed Clrwdt CLRWDT
  at_iiadr : Addressed Iiadr IIADR
  at_iidat : Addressed Iidat IIDAT
  at_iists : Addressed Iists IISTS
  at_bt : Addressed Bt BT
  at_plain : {a : ℕ} → Plain a → Addressed Stored a

-- the address is n, or it is told that it is not
at : (a n : ℕ) (found : Bool) → eqb a n ≡ found → Addressed (target n) n → (eqb a n ≡ false → Addressed (target a) a) → Addressed (target a) a
at a n true e here others = rw (eqb-true a n e) here
at a n false e here others = others e

pub addressed : (a : ℕ) → Addressed (target a) a
unfolding target
addressed a =
    at a MDCON _ refl at_mdcon (λ md. at a HVCON _ refl at_hvcon (λ hv. at a CLRFLG _ refl at_clrflg (λ cf. at a CLRWDT _ refl at_clrwdt (λ cw.
    at a IIADR _ refl at_iiadr (λ ad. at a IIDAT _ refl at_iidat (λ da. at a IISTS _ refl at_iists (λ st. at a BT _ refl at_bt (λ b.
    rw (md, hv, cf, cw, ad, da, st, b)
    (at_plain (record { mdcon = md; hvcon = hv; clrflg = cf; clrwdt = cw; iiadr = ad; iidat = da; iists = st; bt = b }))))))))))
