-- `firmware_steps::load` meets its contract.
-- Assumes nothing.
-- what is read, with number and values of its case
use Prim.Native.Nat.{ℕ}
use mathlib.Core.Path.{◌≡◌, refl, sym}
use mathlib.Core.Bool.{Bool, true, false}
use mathlib.Core.List.{List}
use native.Mathlib.Omega.{arith}
use lib.Dec.{eqb}
use borrow.Author.Tests.{eqb-true}
use Rattle.bits.specs.Byte.{pick}
use Rattle.chip.specs.declared.Chip.{Chip}
use Rattle.chip_reads.specs.declared.Reading.{Reading}
use Rattle.chip_reads.specs.Reads.{reading}
use Rattle.cpu_memory.specs.declared.Loaded.{Loaded}
use Rattle.cpu_memory.specs.declared.Loaded.TheVariants.{Byte, Refused}
use Rattle.cpu_memory.specs.declared.Place.{Place}
use Rattle.cpu_memory.specs.declared.Place.TheVariants as at
use Rattle.cpu_memory.specs.Memory.{place, LoadedCase}
use Rattle.firmware_machine.specs.Machine.{load_at, load}
use Rattle.firmware_steps.specs.Steps.{load_number, load_byte}
use borrow.Author.Rules.{rules}
use Rattle.firmware_steps.proofs.load.Goals as goal

register_case : (x : Reading) (b : Bool) → eqb x.number 0 ≡ b → LoadedCase x.number x.byte (pick b (Byte x.byte) (Refused x.number))
register_case x true h = record { number = sym (eqb-true x.number 0 h); values = refl }
register_case x false h = record { number = refl; values = tt }

case_at : (ram : List ℕ) (k : Chip) (rom : List ℕ) (p : Place) → LoadedCase (load_number k p) (load_byte ram k rom p) (load_at ram k rom p)
case_at ram k rom (at.Register r) = register_case (reading k r) (eqb (reading k r).number 0) refl
case_at ram k rom (at.Ram i) = record { number = refl; values = refl }
case_at ram k rom (at.Rom i) = record { number = refl; values = refl }
case_at ram k rom at.Unmapped = record { number = refl; values = tt }

says : (ram : List ℕ) (k : Chip) (rom : List ℕ) (a : ℕ) (r : Loaded) → r ≡ load ram k rom a
    → (r ≡ load ram k rom a) × LoadedCase (load_number k (place a)) (load_byte ram k rom (place a)) r
unfolding load
says ram k rom a r e = (e, rw e (case_at ram k rom (place a)))

pub place_of-p-requires : goal.place_of-p-requires
unfolding load
place_of-p-requires c = search rules

pub overflow_cast-r : goal.overflow_cast-r
unfolding load
overflow_cast-r c = omega (arith, rw c.in-Register.is at c.place_of-p.ensures.1)

pub register_at-requires : goal.register_at-requires
unfolding load
register_at-requires c = search rules

pub bounds-ram-i : goal.bounds-ram-i
unfolding load
bounds-ram-i c = rw c.in-Ram.is at c.place_of-p.ensures.1

pub rom_byte-requires : goal.rom_byte-requires
unfolding load
rom_byte-requires c = search rules

pub returns-in-Register : goal.returns-in-Register
unfolding load
returns-in-Register c = says _ _ _ _ _ (simp (← c.place_of-p.ensures.0, c.in-Register.is, c.register_at.ensures))

pub returns-in-Ram : goal.returns-in-Ram
unfolding load
returns-in-Ram c = says _ _ _ _ _ (simp (← c.place_of-p.ensures.0, c.in-Ram.is))

pub returns-in-Rom : goal.returns-in-Rom
unfolding load
returns-in-Rom c = says _ _ _ _ _ (simp (← c.place_of-p.ensures.0, c.in-Rom.is, c.rom_byte.ensures))

pub returns-in-Unmapped : goal.returns-in-Unmapped
unfolding load
returns-in-Unmapped c = says _ _ _ _ _ (simp (← c.place_of-p.ensures.0, c.in-Unmapped.is))
