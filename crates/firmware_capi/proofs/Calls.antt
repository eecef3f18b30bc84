-- What the call gives and leaves, by the lengths, the chip's bytes and the number of the run.
-- Assumes nothing.
use Prim.Native.Nat.{ℕ}
use mathlib.Core.Path.{◌≡◌, refl, sym, ap, ◌∙◌}
use mathlib.Core.Bool.{Bool, true, false}
use mathlib.Core.List.{List}
use lib.Dec.{eqb}
use lib.ListN.{length}
use borrow.Author.Tests.{eq-eqb, ne_eqb, eqb-true}
use Rattle.bits.specs.Byte.{pick}
use Rattle.chip.specs.declared.Chip.{Chip}
use Rattle.cpu_operations.specs.declared.Cpu.{Cpu}
use Rattle.firmware_machine.specs.Run.{Called, firmware}
use Rattle.firmware_run.specs.declared.FirmwareResult.{FirmwareResult}
use Rattle.firmware_run.specs.Firmware.{result_of}
use Rattle.state_bytes.specs.Layout.{bytes_of}
use Rattle.std.specs.Prelude.{Ok, Err}
use Rattle.state_area.specs.declared.AreaFault.{AreaFault}
use Rattle.state_area.specs.declared.AreaFault.TheVariants.{WrongLength, IllFormed}
use Rattle.state_area.specs.Area.{fault_number, loaded, number_in, state_in, put_in}
use Rattle.firmware_capi.specs.Call.{cpu_of, cpu_bytes, Left, left, has_begun, counts_of, left_by, run_in, are_sized, firmware_in}

-- ---- lengths

all_four : (p q r s : Bool) → pick p (pick q (pick r (pick s true false) false) false) false ≡ true → (p ≡ true) × (q ≡ true) × (r ≡ true) × (s ≡ true)
all_four true true true true h = (refl, refl, refl, refl)
all_four true true true false h = (refl, refl, refl, h)
all_four true true false s h = (refl, refl, h, cc)
all_four true false r s h = (refl, h, cc, cc)
all_four false q r s h = (h, cc, cc, cc)

pub sized : (a b c d : ℕ) → are_sized a b c d ≡ true → (a ≡ 8) × (b ≡ 256) × (c ≡ 128) × (d ≡ 2)
unfolding are_sized
sized a b c d h =
    let f = all_four (eqb a 8) (eqb b 256) (eqb c 128) (eqb d 2) h in
    (eqb-true a 8 f.0, eqb-true b 256 f.1, eqb-true c 128 f.2, eqb-true d 2 f.3)

pub put_sized : (k : Chip) (s : List ℕ) → length s ≡ 128 → put_in k s ≡ bytes_of k
unfolding put_in
put_sized k s h = rw (eq-eqb (length s) 128 h)

-- ---- what is written back

written : (cpu ram area counts : List ℕ) (d : Called) (r : FirmwareResult) → r ≡ result_of d → has_begun r.number ≡ true
    → (cpu' ram' area' answers' counts' : List ℕ) → cpu' ≡ cpu_bytes r.cpu → ram' ≡ d.ram → area' ≡ bytes_of r.chip → answers' ≡ d.answers
    → counts' ≡ counts_of r.counted r.given → left r.number cpu' ram' area' answers' counts' ≡ left_by d cpu ram area counts
written cpu ram area counts d r e h cpu' ram' area' answers' counts' f g i j k =
    let t : has_begun d.number ≡ true = rw e at h in
    rw (f, g, i, j, k, e, t)

kept : (cpu ram area counts : List ℕ) (d : Called) (r : FirmwareResult) → r ≡ result_of d → has_begun r.number ≡ false
    → (answers' : List ℕ) → answers' ≡ d.answers → left r.number cpu ram area answers' counts ≡ left_by d cpu ram area counts
kept cpu ram area counts d r e h answers' j =
    let t : has_begun d.number ≡ false = rw e at h in
    rw (j, e, t)

module _ (cpu ram rom area es places counts : List ℕ) (chip : Chip) (n : ℕ) where
  pub begun : (c : Cpu) (held : List ℕ) → c ≡ cpu_of cpu → held ≡ ram → (r : FirmwareResult) → r ≡ result_of (firmware c held rom chip es places n)
      → (answers' after : List ℕ) → answers' ≡ (firmware c held rom chip es places n).answers → after ≡ (firmware c held rom chip es places n).ram
      → (b : Bool) → b ≡ has_begun r.number → b ≡ true → (cpu' ram' area' counts' : List ℕ)
      → (cpu' ≡ cpu_bytes r.cpu) × (ram' ≡ after) × (area' ≡ bytes_of r.chip) × (counts' ≡ counts_of r.counted r.given)
      → left r.number cpu' ram' area' answers' counts' ≡ run_in cpu ram rom chip area es places n counts
  unfolding run_in
  begun c held x y r e answers' after f g b h t cpu' ram' area' counts' k =
      let same : firmware c held rom chip es places n ≡ firmware (cpu_of cpu) ram rom chip es places n = rw (x, y) in
      written cpu ram area counts (firmware (cpu_of cpu) ram rom chip es places n) r (e ∙ ap (λ (d : Called). result_of d) same) (sym h ∙ t)
      cpu' ram' area' answers' counts' k.0 (k.1 ∙ g ∙ ap (λ (d : Called). d.ram) same) k.2 (f ∙ ap (λ (d : Called). d.answers) same) k.3

  pub not_begun : (c : Cpu) (held : List ℕ) → c ≡ cpu_of cpu → held ≡ ram → (r : FirmwareResult) → r ≡ result_of (firmware c held rom chip es places n)
      → (answers' : List ℕ) → answers' ≡ (firmware c held rom chip es places n).answers → (b : Bool) → b ≡ has_begun r.number → b ≡ false
      → left r.number cpu ram area answers' counts ≡ run_in cpu ram rom chip area es places n counts
  unfolding run_in
  not_begun c held x y r e answers' f b h t =
      let same : firmware c held rom chip es places n ≡ firmware (cpu_of cpu) ram rom chip es places n = rw (x, y) in
      kept cpu ram area counts (firmware (cpu_of cpu) ram rom chip es places n) r (e ∙ ap (λ (d : Called). result_of d) same) (sym h ∙ t) answers' (f ∙ ap (λ (d : Called). d.answers) same)

-- ---- the call

module _ (cpu ram rom area es places counts : List ℕ) (n : ℕ) (b : Bool) (e : b ≡ are_sized (length cpu) (length ram) (length area) (length counts)) where
  pub ran : b ≡ true → (chip : Chip) → Ok chip ≡ loaded area → (x : Left) → x ≡ run_in cpu ram rom chip area es places n counts
      → x ≡ firmware_in cpu ram rom area es places n counts
  unfolding firmware_in
  ran t chip i x p = let s = sym e ∙ t in rw (s, ← i) p

  pub refused : b ≡ true → (fault : AreaFault) → Err fault ≡ loaded area
      → left (fault_number fault) cpu ram area places counts ≡ firmware_in cpu ram rom area es places n counts
  unfolding firmware_in
  refused t WrongLength i = let s = sym e ∙ t in rw (s, ← i)
  refused t IllFormed i = let s = sym e ∙ t in rw (s, ← i)

  pub wrong : b ≡ false → left 15 cpu ram area places counts ≡ firmware_in cpu ram rom area es places n counts
  unfolding firmware_in
  wrong t = let s = sym e ∙ t in rw s
