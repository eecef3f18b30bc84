-- The two runs of docs/RECALL.md, computed from images/recall-foreign.events and images/recall-own.events: their ends, and what PT0 reads.
use Rattle.std.specs.Prelude.{ℕ, Bool, List, [], ◌∷◌, length, get_or}
use Rattle.cpu_operations.specs.declared.Cpu.{Cpu}
use Rattle.firmware_machine.specs.Run.{Ended}
use Rattle.recall_laws.specs.Wait.{holds_at}

-- number, a test at the end, and of the answers how many, the first and the last
abbrev pub end_of : (Cpu → List ℕ → List ℕ → Bool) → Ended → ℕ × Bool × List ℕ
end_of test e = (e.number, holds_at test e.machine, length e.answers ∷ get_or e.answers 0 0 ∷ get_or e.answers 73 0 ∷ [])
