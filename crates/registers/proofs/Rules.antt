-- Rules of the register table: each is a test computed over the 38 rows, and holds at every address.
-- Assumes nothing.
use mathlib.Core.Path.{◌≡◌, refl, ap, sym, ◌∙◌}
use mathlib.Core.Bool.{Bool, true, false, ◌&&◌, ◌||◌, beq, true≢false}
use mathlib.Core.List.{List, [], ◌∷◌, map}
use mathlib.Core.Logic.{⊎_elim}
use Prim.Native.Nat.{ℕ, ◌+◌, ◌*◌, ◌<◌, ◌≤◌}
use native.Mathlib.Omega.{arith}
use borrow.Author.Tests.{le-ltb, ne_eqb}
use lib.Dec.{T, eqb, ltb, eqb→eq, ltb→lt}
use lib.ListN.{length, get_or, get_or-map, get_or-eq_default}
use Rattle.bits.specs.Byte.{pick, num}
use Rattle.bits.specs.Finite.{all_below}
use Rattle.bits.proofs.Finite.{and_left, and_right, or_right, at_each, lt_or_le, beq_eq}
use Rattle.registers.specs.declared.Row.{Row}
use Rattle.registers.specs.Table.{table, none, row_of, reset_value, write_mask, read_mask, is_writable, is_readable, is_register, resets, chosen, write_masks, mask_choice, unpacked}

-- the table has 38 rows
pub table_length : length table ≡ 38
unfolding table
table_length = refl

-- past it is the row of no register
pub row_past : (a : ℕ) → 38 ≤ a → row_of a ≡ none
unfolding row_of
row_past a h = get_or-eq_default table none h

-- a row as a number; the table of the code is that of each row
abbrev pub packed : Row → ℕ
packed r = r.reset * 16777216 + r.write * 65536 + r.read * 256 + num r.writable * 2 + num r.readable

pub row_unpacked : (a : ℕ) → unpacked (get_or (map packed table) a 0) ≡ row_of a
unfolding row_of table
row_unpacked a = sym (get_or-map unpacked (map packed table) a 0)

-- the columns of a row that was looked up
module _ {r : Row} (a : ℕ) (e : r ≡ row_of a) where
  pub row_readable : r.readable ≡ is_readable a
  unfolding is_readable
  row_readable = ap (λ r. r.readable) e

  pub row_read : r.read ≡ read_mask a
  unfolding read_mask
  row_read = ap (λ r. r.read) e

  pub row_writable : r.writable ≡ is_writable a
  unfolding is_writable
  row_writable = ap (λ r. r.writable) e

-- a test that the 38 rows and the row of no register pass, at every address
pub at_row : (f : Row → Bool) → T (all_below (λ a. f (row_of a)) 38) → T (f none) → (a : ℕ) → T (f (row_of a))
at_row f t n a = ⊎_elim (λ (h : a < 38). at_each (λ a. f (row_of a)) 38 t a h) (λ (h : 38 ≤ a). rw (row_past a h) n) (lt_or_le a 38)

-- ---- values are bytes

pub write_mask_lt : (a : ℕ) → write_mask a < 256
unfolding write_mask row_of
write_mask_lt a = ltb→lt (write_mask a) 256 (at_row (λ r. ltb r.write 256) tt tt a)

pub read_mask_lt : (a : ℕ) → read_mask a < 256
unfolding read_mask row_of
read_mask_lt a = ltb→lt (read_mask a) 256 (at_row (λ r. ltb r.read 256) tt tt a)

-- ---- a column as a choice

-- a choice that is the table's column over the 38 rows, and past them what the row of no register has
as_column : {A : Type 0} (column : Row → A) (choice : ℕ → A) (same : A → A → Bool) → ((x y : A) → T (same x y) → x ≡ y)
    → T (all_below (λ a. same (column (row_of a)) (choice a)) 38) → ((a : ℕ) → 38 ≤ a → choice a ≡ column none) → (a : ℕ) → column (row_of a) ≡ choice a
as_column column choice same equal t p a =
    ⊎_elim (λ (h : a < 38). equal (column (row_of a)) (choice a) (at_each (λ a. same (column (row_of a)) (choice a)) 38 t a h))
    (λ (h : 38 ≤ a). ap column (row_past a h) ∙ sym (p a h)) (lt_or_le a 38)

-- the addresses of a choice are registers
abbrev of_registers : {A : Type 0} → List (ℕ × A) → Bool
of_registers [] = true
of_registers (x ∷ xs) = ltb x.0 38 && of_registers xs

-- so above 25H no line of it is met
chosen_past : {A : Type 0} (xs : List (ℕ × A)) (other : A) (a : ℕ) → 38 ≤ a → T (of_registers xs) → chosen xs other a ≡ other
chosen_past [] other a h t = refl
chosen_past (x ∷ xs) other a h t =
    let l : x.0 < 38 = ltb→lt x.0 38 (and_left (ltb x.0 38) (of_registers xs) t) in
    rw (ne_eqb a x.0 (λ e. absurd (omega arith))) (chosen_past xs other a h (and_right (ltb x.0 38) (of_registers xs) t))

module _ (a : ℕ) (h : 38 ≤ a) where
  none_past : ◌≡◌ {A = ℕ} (pick (ltb a 38) 0xff 0) 0
  none_past = rw (le-ltb a 38 h)

  mask_past : mask_choice a ≡ 0
  unfolding mask_choice
  mask_past = chosen_past write_masks _ a h tt ∙ none_past

-- the choice is the table's column at each address
pub mask_choice_lem : (a : ℕ) → write_mask a ≡ mask_choice a
unfolding write_mask mask_choice row_of table
mask_choice_lem = as_column (λ r. r.write) mask_choice eqb eqb→eq tt mask_past

-- ---- what is refused has no bit

-- an address that takes no write has write mask 00; the converse fails at AD0
pub refused_write_lem : (a : ℕ) → is_writable a ≡ false → write_mask a ≡ 0
unfolding is_writable write_mask row_of
refused_write_lem a e = eqb→eq (write_mask a) 0 (or_right (is_writable a) (eqb (write_mask a) 0) e (at_row (λ r. r.writable || eqb r.write 0) tt tt a))

-- an address that takes no read has read mask 00; the converse fails at AD1
pub refused_read : (a : ℕ) → is_readable a ≡ false → read_mask a ≡ 0
unfolding is_readable read_mask row_of
refused_read a e = eqb→eq (read_mask a) 0 (or_right (is_readable a) (eqb (read_mask a) 0) e (at_row (λ r. r.readable || eqb r.read 0) tt tt a))

-- ---- past the table

pub past_writable : (a : ℕ) → 38 ≤ a → is_writable a ≡ false
unfolding is_writable
past_writable a h = ap (λ (r : Row). r.writable) (row_past a h)

-- so a register that takes writes is one of the 38
pub writable_register : (a : ℕ) → is_writable a ≡ true → a < 38
writable_register a w =
    ⊎_elim
    (λ (h : a < 38). h)
    (λ (h : 38 ≤ a). absurd (true≢false (sym w ∙ past_writable a h)))
    (lt_or_le a 38)

pub past_readable : (a : ℕ) → 38 ≤ a → is_readable a ≡ false
unfolding is_readable
past_readable a h = ap (λ (r : Row). r.readable) (row_past a h)

-- every register takes a write or a read, and no other address does
pub register_used : (a : ℕ) → (is_writable a || is_readable a) ≡ is_register a
unfolding is_writable is_readable is_register row_of
register_used a =
    ⊎_elim
    (λ (h : a < 38). beq_eq _ _ (at_each (λ a. beq (is_writable a || is_readable a) (is_register a)) 38 tt a h))
    (λ (h : 38 ≤ a). rw (past_writable a h, past_readable a h, le-ltb a 38 h))
    (lt_or_le a 38)

-- ---- the list of reset values

pub resets_length : length resets ≡ 38
unfolding resets
resets_length = refl

pub resets_at : (a : ℕ) → get_or resets a 0 ≡ reset_value a
unfolding resets reset_value row_of
resets_at a = get_or-map (λ (r : Row). r.reset) table a none
