-- RAM by the accesses of the CPU (document 02, Wish 5).
use Rattle.std.specs.Prelude.{ℕ, List, [], ◌∷◌}
use Rattle.cpu_memory.specs.Memory.{place}
use Rattle.cpu_instruction.specs.Program.{Access, read_at, write_at}
use Rattle.cpu_execution.specs.Execution.{stored_at}

-- each write, in order, puts its byte where its address leads, under either address of a byte that has two; what is no RAM keeps RAM as it was
abbrev pub ram_by : List ℕ → List Access → List ℕ
ram_by ram [] = ram
ram_by ram (read_at a l ∷ s) = ram_by ram s
ram_by ram (write_at a b ∷ s) = ram_by (stored_at ram b (place a)) s
