-- The firmware call: 8, 22 and 7 exactly when, and a call taken in two parts.
use Prim.Native.Nat.{ℕ, zero, suc, ◌+◌}
use mathlib.Core.Path.{◌≡◌, refl, ap, ap₂, sym, ◌∙◌}
use mathlib.Core.Bool.{Bool, true, false, not, true≢false}
use mathlib.Core.List.{List, [], ◌∷◌, ◌++◌, append_assoc}
use mathlib.Core.Logic.{◌⊎◌, inl, inr}
use native.Mathlib.Omega.{arith}
use lib.Dec.{eqb, ltb}
use lib.ListN.{length, take, drop, length-append, length-drop}
use lib.Seq.{drop-drop, take-append_seam}
use borrow.Author.Tests.{le-ltb, ltb-false}
use Rattle.bits.specs.Byte.{pick}
use Rattle.chip.specs.declared.Chip.{Chip}
use Rattle.cpu_operations.specs.declared.Cpu.{Cpu}
use Rattle.firmware_machine.specs.Machine.{machine}
use Rattle.firmware_machine.specs.Run.{Ended, runs, Called, not_run, called, is_well_formed, firmware}
use Rattle.firmware_laws.specs.Parts.{renumbered, followed, followed_call, calling_on, call_in_parts}
use Rattle.firmware_laws.specs.Refused.{write_only_lem, read_only, not_documented, not_mapped, RunNumber, none, refusal}
use Rattle.firmware_laws.proofs.Numbers.{run_number_lem}
use Rattle.firmware_laws.proofs.Clocks.{run_well_formed}
use Rattle.firmware_laws.proofs.Parts.{run_in_parts_lem}

-- ---- before anything runs

module _ (c : Cpu) (ram rom : List ℕ) (k : Chip) (es places : List ℕ) (n : ℕ) where
  -- 8: the state is ill formed
  pub ill_formed_lem : is_well_formed c k ≡ false → firmware c ram rom k es places n ≡ not_run 8 c ram k places
  unfolding firmware
  ill_formed_lem h = rw h

  -- 22: the ROM is not 24,576 bytes
  pub wrong_rom : is_well_formed c k ≡ true → eqb (length rom) 24576 ≡ false → firmware c ram rom k es places n ≡ not_run 22 c ram k places
  unfolding firmware
  wrong_rom h g = rw (h, g)

  -- 7: fewer answer places than events
  pub few_places : is_well_formed c k ≡ true → eqb (length rom) 24576 ≡ true → ltb (length places) (length es) ≡ true → firmware c ram rom k es places n ≡ not_run 7 c ram k places
  unfolding firmware
  few_places h g p = rw (h, g, p)

  -- else it is run
  pub is_run : is_well_formed c k ≡ true → eqb (length rom) 24576 ≡ true → ltb (length places) (length es) ≡ false
      → firmware c ram rom k es places n ≡ called (runs n 0 rom es (machine c ram k)) places
  unfolding firmware
  is_run h g p = rw (h, g, p)

  -- ---- and these numbers are given in no other case: a run has none of them

  not_by : {j : ℕ} → RunNumber j → (i : ℕ) → (i ≡ 7) ⊎ ((i ≡ 8) ⊎ (i ≡ 22)) → j ≡ i → ⊥
  not_by none i (inl h) e = omega arith
  not_by none i (inr (inl h)) e = omega arith
  not_by none i (inr (inr h)) e = omega arith
  not_by (refusal write_only_lem) i (inl h) e = omega arith
  not_by (refusal write_only_lem) i (inr (inl h)) e = omega arith
  not_by (refusal write_only_lem) i (inr (inr h)) e = omega arith
  not_by (refusal read_only) i (inl h) e = omega arith
  not_by (refusal read_only) i (inr (inl h)) e = omega arith
  not_by (refusal read_only) i (inr (inr h)) e = omega arith
  not_by (refusal not_documented) i (inl h) e = omega arith
  not_by (refusal not_documented) i (inr (inl h)) e = omega arith
  not_by (refusal not_documented) i (inr (inr h)) e = omega arith
  not_by (refusal not_mapped) i (inl h) e = omega arith
  not_by (refusal not_mapped) i (inr (inl h)) e = omega arith
  not_by (refusal not_mapped) i (inr (inr h)) e = omega arith

  -- the call by the three tests
  abbrev tested : Bool → Bool → Bool → Called
  tested w r p = pick w (pick r (pick p (not_run 7 c ram k places) (called (runs n 0 rom es (machine c ram k)) places)) (not_run 22 c ram k places)) (not_run 8 c ram k places)

  eight_by : (w r p : Bool) → (tested w r p).number ≡ 8 → w ≡ false
  eight_by true true true h = absurd (omega arith)
  eight_by true true false h = absurd (not_by (run_number_lem n 0 rom es (machine c ram k)) 8 (inr (inl refl)) h)
  eight_by true false p h = absurd (omega arith)
  eight_by false r p h = refl

  twenty_two_by : (w r p : Bool) → (tested w r p).number ≡ 22 → (w ≡ true) × (r ≡ false)
  twenty_two_by true true true h = absurd (omega arith)
  twenty_two_by true true false h = absurd (not_by (run_number_lem n 0 rom es (machine c ram k)) 22 (inr (inr refl)) h)
  twenty_two_by true false p h = (refl, refl)
  twenty_two_by false r p h = absurd (omega arith)

  seven_by : (w r p : Bool) → (tested w r p).number ≡ 7 → (w ≡ true) × (r ≡ true) × (p ≡ true)
  seven_by true true true h = (refl, refl, refl)
  seven_by true true false h = absurd (not_by (run_number_lem n 0 rom es (machine c ram k)) 7 (inl refl) h)
  seven_by true false p h = absurd (omega arith)
  seven_by false r p h = absurd (omega arith)

  pub only_ill_formed : (firmware c ram rom k es places n).number ≡ 8 → is_well_formed c k ≡ false
  unfolding firmware
  only_ill_formed h = eight_by (is_well_formed c k) (eqb (length rom) 24576) (ltb (length places) (length es)) h

  pub only_wrong_rom : (firmware c ram rom k es places n).number ≡ 22 → (is_well_formed c k ≡ true) × (eqb (length rom) 24576 ≡ false)
  unfolding firmware
  only_wrong_rom h = twenty_two_by (is_well_formed c k) (eqb (length rom) 24576) (ltb (length places) (length es)) h

  pub only_few_places : (firmware c ram rom k es places n).number ≡ 7
      → (is_well_formed c k ≡ true) × (eqb (length rom) 24576 ≡ true) × (ltb (length places) (length es) ≡ true)
  unfolding firmware
  only_few_places h = seven_by (is_well_formed c k) (eqb (length rom) 24576) (ltb (length places) (length es)) h

  run_by : (w r p : Bool) → RunNumber (tested w r p).number → (w ≡ true) × (r ≡ true) × (p ≡ false)
  run_by true true true h = absurd (not_by h 7 (inl refl) refl)
  run_by true true false h = (refl, refl, refl)
  run_by true false p h = absurd (not_by h 22 (inr (inr refl)) refl)
  run_by false r p h = absurd (not_by h 8 (inr (inl refl)) refl)

  -- 0 and the numbers of instructions are given by a run alone
  pub only_run : RunNumber (firmware c ram rom k es places n).number
      → (is_well_formed c k ≡ true) × (eqb (length rom) 24576 ≡ true) × (ltb (length places) (length es) ≡ false)
  unfolding firmware
  only_run h = run_by (is_well_formed c k) (eqb (length rom) 24576) (ltb (length places) (length es)) h

  -- ---- a well formed state is left well formed

  kept_by : (w r p : Bool) → is_well_formed c k ≡ true → w ≡ true
      → is_well_formed (tested w r p).cpu (tested w r p).chip ≡ true
  kept_by true true true h g = h
  kept_by true true false h g = run_well_formed n 0 rom es (machine c ram k) h
  kept_by true false p h g = h
  kept_by false r p h g = absurd (true≢false (sym g))

  pub call_well_formed : is_well_formed c k ≡ true → is_well_formed (firmware c ram rom k es places n).cpu (firmware c ram rom k es places n).chip ≡ true
  unfolding firmware
  call_well_formed h = kept_by (is_well_formed c k) (eqb (length rom) 24576) (ltb (length places) (length es)) h h

-- ---- a call in two parts

renumbered_length : (n : ℕ) (es : List ℕ) → length (renumbered n es) ≡ length es
renumbered_length n [] = refl
renumbered_length n (e ∷ es) = ap suc (renumbered_length n es)

room_left : (n g : ℕ) (es places : List ℕ) → ltb (length places) (length es) ≡ false → ltb (length (drop g places)) (length (renumbered n (drop g es))) ≡ false
room_left n g es places h =
    let a = length-drop g places in
    let b = renumbered_length n (drop g es) ∙ length-drop g es in
    le-ltb (length (drop g places)) (length (renumbered n (drop g es))) (omega (arith, a, b, ltb-false (length places) (length es) h))

-- the answers and the places past them, in two parts
places_in_parts : (a b places : List ℕ)
    → (a ++ b) ++ drop (length (a ++ b)) places ≡ take (length a) (a ++ drop (length a) places) ++ (b ++ drop (length b) (drop (length a) places))
places_in_parts a b places =
    append_assoc a b (drop (length (a ++ b)) places)
    ∙ ap (λ (l : List ℕ). a ++ (b ++ l)) (ap (λ (q : ℕ). drop q places) (length-append a b) ∙ sym (drop-drop (length b) (length a) places))
    ∙ ap (λ (l : List ℕ). l ++ (b ++ drop (length b) (drop (length a) places))) (sym (take-append_seam a (drop (length a) places)))

called_followed : (a b : Ended) (places : List ℕ) → called (followed a b) places ≡ followed_call (called a places) (called b (drop (length a.answers) places))
called_followed a b places =
    ap₂ (λ (l : List ℕ) (g : ℕ). record {
      number = b.number;
      cpu = b.machine.cpu;
      ram = b.machine.ram;
      chip = b.machine.chip;
      answers = l;
      counted = a.next + b.next;
      given = g;
    }) (places_in_parts a.answers b.answers places) (length-append a.answers b.answers)

second_by : (n k : ℕ) (rom es places : List ℕ) (a : Ended) (t : Bool) → eqb a.number 0 ≡ t → (eqb a.number 0 ≡ true → is_well_formed a.machine.cpu a.machine.chip ≡ true)
    → eqb (length rom) 24576 ≡ true → ltb (length places) (length es) ≡ false
    → called (pick t (followed a (runs k 0 rom (renumbered n (drop (length a.answers) es)) a.machine)) a) places
    ≡ pick t (followed_call (called a places)
    (firmware a.machine.cpu a.machine.ram rom a.machine.chip (renumbered n (drop (length a.answers) es)) (drop (length a.answers) places) k)) (called a places)
second_by n k rom es places a true e w r p =
    let g = length a.answers in
    called_followed a (runs k 0 rom (renumbered n (drop g es)) a.machine) places
    ∙ ap (followed_call (called a places)) (sym (is_run a.machine.cpu a.machine.ram rom a.machine.chip (renumbered n (drop g es)) (drop g places) k (w e) r (room_left n g es places p)))
second_by n k rom es places a false e w r p = refl

parts_run : (n k : ℕ) (c : Cpu) (ram rom : List ℕ) (x : Chip) (es places : List ℕ) → is_well_formed c x ≡ true → eqb (length rom) 24576 ≡ true → ltb (length places) (length es) ≡ false
    → firmware c ram rom x es places (n + k) ≡ call_in_parts n k c ram rom x es places
parts_run n k c ram rom x es places w r p =
    let m = machine c ram x in
    let a = runs n 0 rom es m in
    is_run c ram rom x es places (n + k) w r p ∙ ap (λ (e : Ended). called e places) (run_in_parts_lem n k rom es m)
    ∙ second_by n k rom es places a (eqb a.number 0) refl (λ (h : eqb a.number 0 ≡ true). run_well_formed n 0 rom es m w) r p
    ∙ ap (λ (y : Called). calling_on y n k rom es places) (sym (is_run c ram rom x es places n w r p))

parts_by : (n k : ℕ) (c : Cpu) (ram rom : List ℕ) (x : Chip) (es places : List ℕ) (w r p : Bool) → is_well_formed c x ≡ w → eqb (length rom) 24576 ≡ r → ltb (length places) (length es) ≡ p
    → firmware c ram rom x es places (n + k) ≡ call_in_parts n k c ram rom x es places
parts_by n k c ram rom x es places true true true e f g =
    few_places c ram rom x es places (n + k) e f g ∙ ap (λ (y : Called). calling_on y n k rom es places) (sym (few_places c ram rom x es places n e f g))
parts_by n k c ram rom x es places true true false e f g = parts_run n k c ram rom x es places e f g
parts_by n k c ram rom x es places true false p e f g =
    wrong_rom c ram rom x es places (n + k) e f ∙ ap (λ (y : Called). calling_on y n k rom es places) (sym (wrong_rom c ram rom x es places n e f))
parts_by n k c ram rom x es places false r p e f g =
    ill_formed_lem c ram rom x es places (n + k) e ∙ ap (λ (y : Called). calling_on y n k rom es places) (sym (ill_formed_lem c ram rom x es places n e))

-- A call for n + k instructions is one for n and then, unless that is refused, one for k with the events and answer places that are left
pub call_in_parts_lem : (n k : ℕ) (c : Cpu) (ram rom : List ℕ) (x : Chip) (es places : List ℕ) → firmware c ram rom x es places (n + k) ≡ call_in_parts n k c ram rom x es places
call_in_parts_lem n k c ram rom x es places =
    parts_by n k c ram rom x es places (is_well_formed c x) (eqb (length rom) 24576) (ltb (length places) (length es)) refl refl refl
