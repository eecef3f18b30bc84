-- where the store goes, with number and values of its case
use Prim.Native.Nat.{ℕ}
use mathlib.Core.Path.{◌≡◌, refl}
use mathlib.Core.List.{List}
use Rattle.cpu_memory.specs.declared.Place.{Place}
use Rattle.cpu_memory.specs.declared.Place.TheVariants as at
use Rattle.cpu_memory.specs.declared.Store.{Store}
use Rattle.cpu_memory.specs.declared.Store.TheVariants.{Nothing, Byte, PushOne, PushTwo, PushThree}
use Rattle.cpu_memory.specs.Memory.{place}
use Rattle.cpu_execution.specs.declared.Destination.{Destination}
use Rattle.cpu_execution.specs.Execution.{destination_at, destination, stored, DestinationCase}
use borrow.Author.Rules.{rules}
use Rattle.cpu_execution.proofs.commit.Goals as goal

case_at : (a b : ℕ) (p : Place) → place a ≡ p → DestinationCase (Byte a b) (destination_at b p)
case_at a b (at.Register r) e = record { number = rw e; values = (a, refl, e) }
case_at a b (at.Ram i) e = record { number = rw e; values = tt }
case_at a b (at.Rom i) e = record { number = rw e; values = tt }
case_at a b at.Unmapped e = record { number = rw e; values = tt }

case_of : (t : Store) → DestinationCase t (destination t)
unfolding destination
case_of Nothing = record { number = refl; values = tt }
case_of (Byte a b) = case_at a b (place a) refl
case_of (PushOne s b) = record { number = refl; values = tt }
case_of (PushTwo s b c) = record { number = refl; values = tt }
case_of (PushThree s b c d) = record { number = refl; values = tt }

says : (t : Store) (d : Destination) (ram ram' : List ℕ) → (d ≡ destination t) × (ram' ≡ stored ram t) → (d ≡ destination t) × (ram' ≡ stored ram t) × DestinationCase t d
says t d ram ram' h = (h.0, h.1, rw h.0 (case_of t))

pub store_byte-requires : goal.store_byte-requires
unfolding destination stored
store_byte-requires c = search rules

pub stack_place-i-requires : goal.stack_place-i-requires
unfolding destination stored
stack_place-i-requires c = search rules

pub stack_place-i-requires-in-PushTwo : goal.stack_place-i-requires-in-PushTwo
unfolding destination stored
stack_place-i-requires-in-PushTwo c = search rules

pub below-requires : goal.below-requires
unfolding destination stored
below-requires c = search rules

pub stack_place-j-requires : goal.stack_place-j-requires
unfolding destination stored
stack_place-j-requires c = search rules

pub below-u-requires : goal.below-u-requires
unfolding destination stored
below-u-requires c = search rules

pub stack_place-i-requires-in-PushThree : goal.stack_place-i-requires-in-PushThree
unfolding destination stored
stack_place-i-requires-in-PushThree c = search rules

pub stack_place-j-requires-in-PushThree : goal.stack_place-j-requires-in-PushThree
unfolding destination stored
stack_place-j-requires-in-PushThree c = search rules

pub below-requires-in-PushThree : goal.below-requires-in-PushThree
unfolding destination stored
below-requires-in-PushThree c = search rules

pub stack_place-k-requires : goal.stack_place-k-requires
unfolding destination stored
stack_place-k-requires c = search rules

pub returns-in-Nothing : goal.returns-in-Nothing
unfolding destination stored
returns-in-Nothing c = says _ _ _ _ (simp c.in-Nothing.is (refl, refl))

pub returns-in-Byte : goal.returns-in-Byte
unfolding destination stored
returns-in-Byte c = says _ _ _ _ (rw c.in-Byte.is c.store_byte.ensures)

pub returns-in-PushOne : goal.returns-in-PushOne
unfolding destination stored
returns-in-PushOne c = says _ _ _ _ (simp (c.in-PushOne.is, c.stack_place-i.ensures.0) (refl, refl))

pub returns-in-PushTwo : goal.returns-in-PushTwo
unfolding destination stored
returns-in-PushTwo c = says _ _ _ _ (simp (c.in-PushTwo.is, c.stack_place-j.ensures.0, c.below.ensures, c.stack_place-i-in-PushTwo.ensures.0) (refl, refl))

pub returns-in-PushThree : goal.returns-in-PushThree
unfolding destination stored
returns-in-PushThree c = says _ _ _ _ (simp (c.in-PushThree.is, c.stack_place-k.ensures.0, c.below-in-PushThree.ensures, c.stack_place-j-in-PushThree.ensures.0, c.stack_place-i-in-PushThree.ensures.0, c.below-u.ensures) (refl, refl))
