-- Related chips: two chips on which no transfer was for this chip, and the observers of their runs.
use Prim.Native.Nat.{ℕ, ◌%◌, ◌^◌, ◌<◌}
use mathlib.Core.Path.{◌≡◌, refl}
use mathlib.Core.Bool.{Bool, true, false}
use native.Mathlib.Omega.{arith}
use lib.Bits.{bit_and, bit_or, or_lt, and_le_l}
use Rattle.bits.specs.Byte.{weight_if, bit}
use Rattle.bits.proofs.Weight.{weight_lt}
use Rattle.bus.specs.declared.Mode.TheVariants.{Ddc2b}
use Rattle.bus.specs.declared.Phase.{Phase}
use Rattle.bus.specs.Bus.{mode, mode_by, pulls_sda, pulls_scl}
use Rattle.isolation_laws.specs.Foreign.{Trace}
use Rattle.isolation_laws.specs.Related.{Apart, Kept, address, idle, ignoring}

-- ---- what the phases do to the lines: nothing

pub record Released (q : Phase) : Type 0 where
  pub sda_free_lem : pulls_sda q ≡ false
  pub scl_free_lem : pulls_scl q ≡ false

pub left_released : {q q' : Phase} {t t' : Trace} → Apart q q' t t' → Released q
unfolding pulls_sda pulls_scl
left_released idle = record { sda_free_lem = refl; scl_free_lem = refl }
left_released (ignoring ls ls') = record { sda_free_lem = refl; scl_free_lem = refl }
left_released (address ls ls' e h) = record { sda_free_lem = refl; scl_free_lem = refl }

pub right_released : {q q' : Phase} {t t' : Trace} → Apart q q' t t' → Released q'
unfolding pulls_sda pulls_scl
right_released idle = record { sda_free_lem = refl; scl_free_lem = refl }
right_released (ignoring ls ls') = record { sda_free_lem = refl; scl_free_lem = refl }
right_released (address ls ls' e h) = record { sda_free_lem = refl; scl_free_lem = refl }

-- ---- DDC2B by its two bits

enddc_of : (e m : Bool) → mode_by e m ≡ Ddc2b → e ≡ false
enddc_of true m h = absurd (let z : ◌≡◌ {A = ℕ} 0 1 = cc in omega arith)
enddc_of false m h = refl

md_of : (e m : Bool) → mode_by e m ≡ Ddc2b → m ≡ false
md_of true m h = absurd (let z : ◌≡◌ {A = ℕ} 0 1 = cc in omega arith)
md_of false true h = absurd (let z : ◌≡◌ {A = ℕ} 0 1 = cc in omega arith)
md_of false false h = refl

pub enddc_low : {iists mdcon iiadr irqx own : ℕ} → Kept iists mdcon iiadr irqx own → bit 3 iists ≡ false
unfolding mode
enddc_low {iists} {mdcon} k = enddc_of (bit 3 iists) (bit 0 mdcon) k.ddc2b

pub md_low : {iists mdcon iiadr irqx own : ℕ} → Kept iists mdcon iiadr irqx own → bit 0 mdcon ≡ false
unfolding mode
md_low {iists} {mdcon} k = md_of (bit 3 iists) (bit 0 mdcon) k.ddc2b

-- DDC2B stays where both bits are 0
pub kept_status : {iists mdcon iiadr irqx own : ℕ} (new : ℕ) → bit 3 new ≡ false → Kept iists mdcon iiadr irqx own → Kept new mdcon iiadr irqx own
unfolding mode
kept_status new h k = record { ddc2b = rw (h, md_low k); address_bits_lem = k.address_bits_lem; flags = k.flags }

pub kept_mdcon : {iists mdcon iiadr irqx own : ℕ} (new : ℕ) → bit 0 new ≡ false → Kept iists mdcon iiadr irqx own → Kept iists new iiadr irqx own
unfolding mode
kept_mdcon new h k = record { ddc2b = rw (h, enddc_low k); address_bits_lem = k.address_bits_lem; flags = k.flags }

-- IRQX stays a byte where flags are set or cleared
pub kept_raised : {iists mdcon iiadr irqx own : ℕ} (flags : ℕ) → flags < 256 → Kept iists mdcon iiadr irqx own → Kept iists mdcon iiadr (bit_or irqx flags) own
kept_raised {irqx = irqx} flags h k = record { ddc2b = k.ddc2b; address_bits_lem = k.address_bits_lem; flags = or_lt 8 irqx flags k.flags h }

pub kept_raised_if : {iists mdcon iiadr irqx own : ℕ} (t : Bool) (k : ℕ) → Kept iists mdcon iiadr irqx own → Kept iists mdcon iiadr (bit_or irqx (weight_if t k)) own
kept_raised_if true k o = kept_raised (2 ^ (k % 8)) (weight_lt (k % 8) (omega arith)) o
kept_raised_if false k o = kept_raised 0 (omega arith) o

pub kept_cleared : {iists mdcon iiadr irqx own : ℕ} (mask : ℕ) → Kept iists mdcon iiadr irqx own → Kept iists mdcon iiadr (bit_and irqx mask) own
kept_cleared {irqx = irqx} mask k = record { ddc2b = k.ddc2b; address_bits_lem = k.address_bits_lem; flags = omega (arith, k.flags, and_le_l irqx mask) }
