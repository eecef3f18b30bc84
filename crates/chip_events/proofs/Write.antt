-- A write by its number: taken, it moves the core and stores; refused, it does nothing.
-- Assumes nothing.
use mathlib.Core.Path.{◌≡◌, refl}
use mathlib.Core.Logic.{◌≢◌}
use mathlib.Core.Bool.{Bool, true, false}
use Prim.Native.Nat.{ℕ}
use native.Mathlib.Omega.{arith}
use Rattle.bits.specs.Byte.{pick}
use Rattle.registers.specs.Table.{is_writable}
use Rattle.chip.specs.declared.Core.{Core}
use Rattle.chip.specs.declared.Kept.{Kept}
use Rattle.chip.specs.declared.Kept.TheVariants.{Same}
use Rattle.chip_writes.specs.Writes.{written, stored_by, write_number, write_register, write_kept}
use mathlib.Core.List.{List}

abbrev number_by : Bool → Bool → ℕ
number_by reset writable = pick reset (pick writable 0 6) 4

module _ {A : Type 0} (x y : A) where
  taken_by : (reset writable : Bool) → number_by reset writable ≡ 0 → pick reset (pick writable x y) y ≡ x
  taken_by true true h = refl
  taken_by true false h = absurd (omega arith)
  taken_by false writable h = absurd (omega arith)

  refused_by_lem : (reset writable : Bool) → number_by reset writable ≢ 0 → pick reset (pick writable x y) y ≡ y
  refused_by_lem true true h = absurd (h refl)
  refused_by_lem true false h = refl
  refused_by_lem false writable h = refl

module _ (c : Core) (registers : List ℕ) (a b : ℕ) where
  pub taken_core : write_number c.reset a ≡ 0 → write_register c a b ≡ written c a b
  unfolding write_number write_register
  taken_core h = taken_by (written c a b) c c.reset (is_writable a) h

  pub taken_kept : write_number c.reset a ≡ 0 → write_kept c.reset registers a b ≡ stored_by registers a b
  unfolding write_number write_kept
  taken_kept h = taken_by (stored_by registers a b) Same c.reset (is_writable a) h

  pub refused_core : write_number c.reset a ≢ 0 → write_register c a b ≡ c
  unfolding write_number write_register
  refused_core h = refused_by_lem (written c a b) c c.reset (is_writable a) h

  pub refused_kept : write_number c.reset a ≢ 0 → write_kept c.reset registers a b ≡ Same
  unfolding write_number write_kept
  refused_kept h = refused_by_lem (stored_by registers a b) Same c.reset (is_writable a) h
