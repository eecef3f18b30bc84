-- A write, taken or refused, leaves the reserved bits of all places of the array as they were.
-- Assumes nothing.
use mathlib.Core.Path.{◌≡◌, refl}
use mathlib.Core.Bool.{Bool, true, false, ◌&&◌}
use mathlib.Core.Logic.{⊎_elim}
use mathlib.Core.List.{List}
use Prim.Native.Nat.{ℕ, ◌-◌, ◌<◌, ◌≤◌}
use lib.Bits.{bit_and}
use lib.Dec.{T, eqb, eqb→eq}
use lib.ListN.{length, get_or, set}
use lib.Seq.{set_out, get_or-set_same, get_or-set_other}
use borrow.Author.Tests.{eqb-true, eqb-false}
use Rattle.bits.specs.Byte.{pick, merge}
use Rattle.bits.proofs.Finite.{at_each, and_left, and_right, lt_or_le}
use Rattle.bits.proofs.Mask.{merge_keeps}
use Rattle.bits.proofs.Level.{pick_by}
use Rattle.registers.specs.Table.{row_of, write_mask, is_writable}
use Rattle.registers.proofs.Rules.{writable_register}
use Rattle.chip.specs.declared.Kept.{Kept}
use Rattle.chip.specs.State.{keep}
use Rattle.chip_well_formed.specs.WellFormed.{reserved_mask, reserved_at}
use Rattle.chip_writes.specs.declared.Target.{Target}
use Rattle.chip_writes.specs.declared.Target.TheVariants.{Stored, Mdcon, Hvcon, Clrflg, Clrwdt, Iiadr, Iidat, Iists, Bt}
use Rattle.chip_writes.specs.Writes.{target, kept_by, stored_by, write_kept}
use Rattle.chip_laws.specs.Formed.{Reserved}

abbrev is_stored : Target → Bool
is_stored Stored = true
is_stored Mdcon = false
is_stored Hvcon = false
is_stored Clrflg = false
is_stored Clrwdt = false
is_stored Iiadr = false
is_stored Iidat = false
is_stored Iists = false
is_stored Bt = false

-- the reserved bits are all outside of the write mask
abbrev outside : ℕ → Bool
outside a = eqb (bit_and (255 - write_mask a) (reserved_mask a)) (reserved_mask a)

-- and none is in it
abbrev apart : ℕ → Bool
apart a = eqb (bit_and (write_mask a) (reserved_mask a)) 0

stored_apart : (a : ℕ) → a < 38 → target a ≡ Stored → T (outside a && apart a)
unfolding target reserved_mask write_mask row_of
stored_apart a h e = rw e at (at_each (λ a. pick (is_stored (target a)) (outside a && apart a) true) 38 tt a h)

kept : (a old b : ℕ) → a < 38 → target a ≡ Stored → bit_and (merge (write_mask a) old b) (reserved_mask a) ≡ bit_and old (reserved_mask a)
kept a old b h e =
    let t = stored_apart a h e in
    merge_keeps (write_mask a) (reserved_mask a) old b (eqb→eq _ _ (and_left (outside a) (apart a) t)) (eqb→eq _ _ (and_right (outside a) (apart a) t))

-- a place whose reserved bits are those of another list's
same_reserved : (l m : List ℕ) (a : ℕ) → bit_and (get_or m a 0) (reserved_mask a) ≡ bit_and (get_or l a 0) (reserved_mask a) → reserved_at l a ≡ true → reserved_at m a ≡ true
unfolding reserved_at
same_reserved l m a e t = rw e t

at_place_lem : (l : List ℕ) (a v : ℕ) → bit_and v (reserved_mask a) ≡ bit_and (get_or l a 0) (reserved_mask a) →
    bit_and (get_or (set l a v) a 0) (reserved_mask a) ≡ bit_and (get_or l a 0) (reserved_mask a)
at_place_lem l a v e =
    ⊎_elim
    (λ (h : a < length l). rw (get_or-set_same l a v 0 h) e)
    (λ (h : length l ≤ a). rw (set_out l a v h))
    (lt_or_le a (length l))

at_any : (l : List ℕ) (a v i : ℕ) (same : Bool) → eqb i a ≡ same → bit_and v (reserved_mask a) ≡ bit_and (get_or l a 0) (reserved_mask a) →
    bit_and (get_or (set l a v) i 0) (reserved_mask i) ≡ bit_and (get_or l i 0) (reserved_mask i)
at_any l a v i true p e = rw (eqb-true i a p) (at_place_lem l a v e)
at_any l a v i false p e = rw (get_or-set_other l a i v 0 (eqb-false i a p))

stored_keeps : (l : List ℕ) (a b : ℕ) → a < 38 → target a ≡ Stored → Reserved l → Reserved (set l a (merge (write_mask a) (get_or l a 0) b))
stored_keeps l a b h e t i k =
    same_reserved l _ i (at_any l a _ i (eqb i a) refl (kept a (get_or l a 0) b h e)) (t i k)

-- by the register's effect: one that stands in the core stores nothing in the array
kept_reserved : (t : Target) (l : List ℕ) (a b : ℕ) → a < 38 → target a ≡ t → Reserved l → Reserved (keep (kept_by t l a b) l)
unfolding kept_by
kept_reserved Stored l a b h e r = stored_keeps l a b h e r
kept_reserved Mdcon l a b h e r = r
kept_reserved Hvcon l a b h e r = r
kept_reserved Clrflg l a b h e r = r
kept_reserved Clrwdt l a b h e r = r
kept_reserved Iiadr l a b h e r = r
kept_reserved Iidat l a b h e r = r
kept_reserved Iists l a b h e r = r
kept_reserved Bt l a b h e r = r

pub write_reserved : (reset : Bool) (l : List ℕ) (a b : ℕ) → Reserved l → Reserved (keep (write_kept reset l a b) l)
unfolding write_kept stored_by
write_reserved reset l a b r =
    let P : Kept → Type 0 = λ (k : Kept). Reserved (keep k l) in
    pick_by P reset
    (λ _. pick_by P (is_writable a) (λ w. kept_reserved (target a) l a b (writable_register a w) refl r) (λ _. r))
    (λ _. r)
