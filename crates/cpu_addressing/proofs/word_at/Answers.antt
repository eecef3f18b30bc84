-- the word, with number and values of its case
use Prim.Native.Nat.{ℕ}
use mathlib.Core.Path.{◌≡◌}
use Rattle.cpu_memory.specs.Reads.{Result}
use Rattle.cpu_addressing.specs.declared.Word.{Word}
use Rattle.cpu_addressing.specs.declared.Word.TheVariants.{Value, Refused}
use Rattle.cpu_addressing.specs.Addressing.{word_result, WordCase}
use Rattle.cpu_memory.proofs.Runs.{run_then, run_read, run_done, run_undocumented}
use Rattle.cpu_addressing.proofs.word_at.Goals as goal

says : (r : Word) (x : Result ℕ) → word_result r ≡ x → WordCase x r
says (Value a) x e = record { number = rw (← e); values = e }
says (Refused n) x e = record { number = rw (← e); values = e }

pub returns-in-Byte : goal.returns-in-Byte
returns-in-Byte c = says _ _ (simp (run_then, run_read, run_done, run_undocumented, c.high_byte.ensures, c.in-Byte.is, ← c.load-p.ensures.0))

pub returns-in-Refused : goal.returns-in-Refused
returns-in-Refused c = says _ _ (simp (run_then, run_read, run_done, run_undocumented, c.in-Refused.is, ← c.load-p.ensures.0))
