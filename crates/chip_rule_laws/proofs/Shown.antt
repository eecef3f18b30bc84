-- What a read of HVCON shows bit by bit, and of the latches (document 01, "Registers").
use mathlib.Core.Path.{◌≡◌, refl}
use mathlib.Core.Bool.{Bool, true, false, ◌&&◌}
use Prim.Native.Nat.{ℕ, ◌+◌, ◌*◌, ◌/◌, ◌%◌, ◌<◌}
use native.Mathlib.Omega.{arith}
use borrow.Author.Tests.{eqb-true}
use lib.Bits.{bit_and, bit_or, and_mask}
use lib.Dec.{eqb}
use Rattle.bits.specs.Byte.{pick, num, weight_if, bit}
use Rattle.bits.specs.Finite.{all_below}
use Rattle.bits.proofs.Bitwise.{bit_with_bit}
use Rattle.bits.proofs.Finite.{T_true, true_T, at_each}
use Rattle.registers.specs.Names.{HVCON, HCNTL, HCNTH, VCNTL, VCNTH, HPOLI, VPOLI}
use Rattle.registers.specs.Table.{table, row_of, read_mask, is_readable}
use Rattle.std.specs.Prelude.{Ok}
use Rattle.events.specs.declared.Event.TheVariants.{Polarity}
use Rattle.sync.specs.Fits.{SyncFits}
use Rattle.sync.proofs.WellFormed.{fits}
use Rattle.chip.specs.declared.Chip.{Chip}
use Rattle.chip_reads.specs.Reads.{hvcon, shown, reading}
use Rattle.chip_well_formed.specs.WellFormed.{well_formed}
use Rattle.chip_clocks.specs.Clocks.{polarity_found}
use Rattle.chip_events.specs.Outcome.{core_after, next}
use Rattle.chip_flag_laws.proofs.Bools.{at_four}
use Rattle.chip_laws.proofs.Formed.{formed}
use Rattle.chip_rule_laws.specs.Shown.{found_at}

-- ---- HVCON

-- 128 HCNTOV + 64 VCNTOV + 32 HSYNCI + 16 VSYNCI + 8 HPOLI + 4 VPOLI, at every polarity byte and all four levels
abbrev right_at : ℕ → Bool → Bool → Bool → Bool → Bool
right_at p hov vov h v =
    eqb (bit_and (bit_or (bit_or (weight_if hov 7) (weight_if vov 6)) (bit_or (bit_or (weight_if h 5) (weight_if v 4)) p)) 0xfc)
    (num hov * 128 + num vov * 64 + num h * 32 + num v * 16 + num (bit 3 p) * 8 + num (bit 2 p) * 4)

abbrev always : (Bool → Bool) → Bool
always f = f true && f false

abbrev everywhere : ℕ → Bool
everywhere p = always (λ a. always (λ b. always (λ d. always (right_at p a b d))))

all_right : all_below everywhere 16 ≡ true
unfolding bit
all_right = refl

pub hvcon_shown : (c : Chip) → well_formed c ≡ true → c.core.reset ≡ true →
    (reading c HVCON).byte
    ≡ num c.core.sync.lines.overflow * 128 + num c.core.sync.periods.overflow * 64 + num c.core.pins.hsynci * 32 + num c.core.pins.vsynci * 16
    + num (bit HPOLI c.core.polarity) * 8 + num (bit VPOLI c.core.polarity) * 4
unfolding reading is_readable read_mask row_of table shown hvcon
hvcon_shown c w r =
    let p : ℕ = c.core.polarity in
    rw r (eqb-true _ _ (T_true _ (at_four (right_at p) (at_each everywhere 16 (true_T (all_below everywhere 16) all_right) p (formed c w).core.polarity)
    c.core.sync.lines.overflow c.core.sync.periods.overflow c.core.pins.hsynci c.core.pins.vsynci)))

-- ---- polarities

-- a polarity found is in its bit, and the other bit is as it was
pub polarity_put : (c : Chip) (vertical level : Bool) → c.core.reset ≡ true →
    (bit (found_at vertical) (next c (Ok (Polarity vertical level))).core.polarity ≡ level) × (bit (pick vertical HPOLI VPOLI) (next c (Ok (Polarity vertical level))).core.polarity ≡ bit (pick vertical HPOLI VPOLI) c.core.polarity)
unfolding next core_after polarity_found
polarity_put c true level r = (rw r (bit_with_bit 2 2 c.core.polarity level (omega arith) (omega arith)), rw r (bit_with_bit 3 2 c.core.polarity level (omega arith) (omega arith)))
polarity_put c false level r = (rw r (bit_with_bit 3 3 c.core.polarity level (omega arith) (omega arith)), rw r (bit_with_bit 2 3 c.core.polarity level (omega arith) (omega arith)))

-- ---- latches

-- low byte and 256 times the high one
joined : (n : ℕ) → n < 4096 → bit_and (n % 256) 255 + 256 * bit_and (n / 256) 15 ≡ n
joined n h = rw (and_mask (n % 256) 8, and_mask (n / 256) 4) (omega arith)

module _ (c : Chip) (w : well_formed c ≡ true) (r : c.core.reset ≡ true) where
  latch_ranges : SyncFits c.core.sync
  latch_ranges = fits c.core.sync (formed c w).core.sync

  pub hcnt_shown : (reading c HCNTL).byte + 256 * (reading c HCNTH).byte ≡ c.core.sync.lines.latch.0
  unfolding reading is_readable read_mask row_of table shown
  hcnt_shown = rw r (joined c.core.sync.lines.latch.0 latch_ranges.lines.latch)

  pub vcnt_shown : (reading c VCNTL).byte + 256 * (reading c VCNTH).byte ≡ c.core.sync.periods.latch.0
  unfolding reading is_readable read_mask row_of table shown
  vcnt_shown = rw r (joined c.core.sync.periods.latch.0 latch_ranges.periods.latch)
