-- Bytes are accepted exactly where they are those of a well formed state, and writing what was read gives them again.
-- Assumes nothing.
use mathlib.Core.Path.{◌≡◌, refl, sym, ap}
use mathlib.Core.Bool.{Bool, true, false}
use mathlib.Core.List.{List, [], ◌++◌, append-nil}
use Prim.Native.Nat.{ℕ}
use native.Mathlib.Omega.{arith}
use lib.Dec.{eqb}
use lib.ListN.{length, take, drop, drop_of_length-le}
use lib.Seq.{take_all}
use borrow.Author.Tests.{eq-eqb, eqb-true}
use Rattle.std.specs.Prelude.{Ok, Err}
use Rattle.std.specs.declared.result.Result.{Result}
use Rattle.std.specs.Cmp.Lexicographic.{same_text}
use Rattle.std.proofs.lemmas.Cmp.{nat_list_eq_equiv}
use Rattle.bits.specs.Byte.{pick}
use Rattle.bits.proofs.Finite.{both}
use Rattle.chip.specs.declared.Chip.{Chip}
use Rattle.chip_well_formed.specs.WellFormed.{well_formed}
use Rattle.state_bytes.specs.Layout.{bytes_of, state_of}
use Rattle.state_bytes.proofs.Round.{read_written, bytes_length, registers_length}
use Rattle.state_area.specs.declared.AreaFault.{AreaFault}
use Rattle.state_area.specs.declared.AreaFault.TheVariants.{WrongLength, IllFormed}
use Rattle.state_area.specs.Area.{same_bytes, accepted, holds, refused, loaded, number_of, chip_of, number_in, state_in, put_in, stored, store_number, fault_number}

-- ---- equal lists

pub same_equal : (s t : List ℕ) → same_bytes s t ≡ true → s ≡ t
same_equal s t h = same_text s t (sym h)

pub same_refl : (s : List ℕ) → same_bytes s s ≡ true
same_refl s = nat_list_eq_equiv.refl s

-- a whole list copied over one of the same length
pub copied_over : (s z : List ℕ) → length s ≡ length z → take (length s) s ++ drop (length s) z ≡ s
copied_over s z h =
    let x : drop (length s) z ≡ [] = drop_of_length-le z {i = length s} (omega arith) in
    rw (take_all (length s) s (omega arith), x) (append-nil s)

-- ---- accepted bytes

-- what is written of a well formed state is accepted
pub written_accepted : (c : Chip) → well_formed c ≡ true → accepted (bytes_of c) ≡ true
unfolding accepted
written_accepted c t = rw (read_written c, same_refl (bytes_of c), t)

-- accepted bytes are what their state is written as, and it is well formed
pub accepted_written : (s : List ℕ) → accepted s ≡ true → (s ≡ bytes_of (state_of s)) × (well_formed (state_of s) ≡ true)
unfolding accepted
accepted_written s t =
    let b = both (same_bytes s (bytes_of (state_of s))) (well_formed (state_of s)) t in
    (same_equal s (bytes_of (state_of s)) b.0, b.1)

-- bytes of a well formed state are accepted, and read as that state
pub exactly : (s : List ℕ) (c : Chip) → well_formed c ≡ true → s ≡ bytes_of c → (accepted s ≡ true) × (state_of s ≡ c)
exactly s c t e = (rw e (written_accepted c t), rw e (read_written c))

-- ---- what an area is read as

-- a well formed state, written out and read in, is that state
pub load_written : (c : Chip) → length c.registers ≡ 38 → well_formed c ≡ true → loaded (bytes_of c) ≡ holds c
unfolding loaded
load_written c h t = rw (eq-eqb (length (bytes_of c)) 128 (bytes_length c h), written_accepted c t) (ap holds (read_written c))

-- of an area that is read as a state: its bytes are those of the state, which is well formed and has its 38 registers
loaded_by : (a b : Bool) (c : Chip) → number_of (pick a (pick b (holds c) (refused IllFormed)) (refused WrongLength)) ≡ 0
    → (a ≡ true) × (b ≡ true) × (chip_of (pick a (pick b (holds c) (refused IllFormed)) (refused WrongLength)) ≡ c)
loaded_by true true c h = (refl, refl, refl)
loaded_by true false c h = absurd (omega (arith, h))
loaded_by false b c h = absurd (omega (arith, h))

module _ (s : List ℕ) (h : number_in s ≡ 0) where
  opened : (eqb (length s) 128 ≡ true) × (accepted s ≡ true) × (state_in s ≡ state_of s)
  unfolding loaded
  opened = loaded_by (eqb (length s) 128) (accepted s) (state_of s) h

  pub loaded_size : length s ≡ 128
  loaded_size = eqb-true (length s) 128 opened.0

  pub loaded_well : well_formed (state_in s) ≡ true
  loaded_well = rw opened.2 (accepted_written s opened.1).1

  -- writing what was read gives the same bytes
  pub loaded_written : s ≡ bytes_of (state_in s)
  loaded_written = rw opened.2 (accepted_written s opened.1).0

  pub loaded_registers : length (state_in s).registers ≡ 38
  loaded_registers = rw opened.2 (registers_length s loaded_size)

  -- a state put into the area is its bytes then
  pub put_loaded : (d : Chip) → put_in d s ≡ bytes_of d
  unfolding put_in
  put_loaded d = rw opened.0

-- ---- what writing a state out gives

-- the number of what became of it: 0 where it is written
abbrev pub stored_number : Result (Unit {0}) AreaFault → ℕ
stored_number (Ok written) = 0
stored_number (Err fault) = fault_number fault

stored_by : (a b : Bool) → stored_number (pick a (pick b (Ok (tt {0})) (Err IllFormed)) (Err WrongLength)) ≡ pick a (pick b 0 8) 15
stored_by true true = refl
stored_by true false = refl
stored_by false b = refl

pub stored_number_lem : (c : Chip) (s : List ℕ) → stored_number (stored c s) ≡ store_number c s
unfolding store_number
stored_number_lem c s = stored_by (eqb (length s) 128) (well_formed c)
