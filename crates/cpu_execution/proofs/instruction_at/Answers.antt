-- what became of the instruction, with number and values of its case
use Prim.Native.Nat.{ℕ}
use mathlib.Core.Path.{◌≡◌, refl}
use mathlib.Core.List.{List}
use Rattle.cpu_memory.specs.declared.Place.{Place}
use Rattle.cpu_memory.specs.declared.Place.TheVariants as at
use Rattle.cpu_memory.specs.declared.Store.{Store}
use Rattle.cpu_memory.specs.declared.Store.TheVariants.{Nothing, Byte, PushOne, PushTwo, PushThree}
use Rattle.cpu_memory.specs.Memory.{place}
use Rattle.cpu_memory.specs.Reads.{Result, gives, refuses}
use Rattle.cpu_instruction.specs.declared.Effect.{Effect}
use Rattle.cpu_execution.specs.declared.Destination.{Destination}
use Rattle.cpu_execution.specs.declared.Destination.TheVariants as to
use Rattle.cpu_execution.specs.declared.Executed.{Executed}
use Rattle.cpu_execution.specs.Execution.{destination_at, destination, destination_number, store_number_at, store_number, executed_to, executed_with, ram_with, ExecutedCase}
use Rattle.cpu_instruction.proofs.Performs.{perform_reads}
use Rattle.cpu_instruction.specs.Instruction.{instruction_by}
use borrow.Author.Rules.{rules}
use Rattle.cpu_execution.proofs.instruction_at.Goals as goal

number_at : (b : ℕ) (p : Place) → destination_number (destination_at b p) ≡ store_number_at p
number_at b (at.Register r) = refl
number_at b (at.Ram i) = refl
number_at b (at.Rom i) = refl
number_at b at.Unmapped = refl

number_of_lem : (t : Store) → destination_number (destination t) ≡ store_number t
unfolding destination
number_of_lem Nothing = refl
number_of_lem (Byte a b) = number_at b (place a)
number_of_lem (PushOne s b) = refl
number_of_lem (PushTwo s b c) = refl
number_of_lem (PushThree s b c d) = refl

case_to : (e : Effect) (d : Destination) → destination e.store ≡ d → destination_number d ≡ store_number e.store → ExecutedCase (gives e) (executed_to d e.cpu e.cycles)
unfolding executed_to
case_to e to.Ram h n = record { number = n; values = (e, refl, refl, refl) }
case_to e (to.Register r b) h n = record { number = n; values = (e, refl, refl, refl, h) }
case_to e (to.Refused m) h n = record { number = n; values = tt }

case_of : (x : Result Effect) → ExecutedCase x (executed_with x)
case_of (gives e) = case_to e (destination e.store) refl (number_of_lem e.store)
case_of (refuses n) = record { number = refl; values = tt }

says : (x : Result Effect) (r : Executed) (ram ram' : List ℕ) → (r ≡ executed_with x) × (ram' ≡ ram_with x ram) → (r ≡ executed_with x) × (ram' ≡ ram_with x ram) × ExecutedCase x r
says x r ram ram' h = (h.0, h.1, rw h.0 (case_of x))

pub load-p-requires : goal.load-p-requires
unfolding instruction_by
load-p-requires c = search rules

pub entry-requires : goal.entry-requires
unfolding instruction_by
entry-requires c = search rules

pub instruction_of-requires : goal.instruction_of-requires
unfolding instruction_by
instruction_of-requires c = search rules

pub returns-in-Byte : goal.returns-in-Byte
unfolding instruction_by
returns-in-Byte c = says _ _ _ _ (simp (perform_reads, ← c.load-p.ensures.0, c.in-Byte.is, c.instruction_of.ensures.0, c.instruction_of.ensures.1, c.entry.ensures) (refl, refl))

pub returns-in-Refused : goal.returns-in-Refused
unfolding instruction_by
returns-in-Refused c = says _ _ _ _ (simp (perform_reads, ← c.load-p.ensures.0, c.in-Refused.is) (refl, refl))
