use Rattle.cpu_memory.proofs.Places.{read_rom}
use Rattle.cpu_memory.proofs.Runs.{run_then, run_read, run_done}
use Rattle.cpu_addressing.proofs.absolute_at.Goals as goal

pub returns-then-b-ge40960 : goal.returns-then-b-ge40960
returns-then-b-ge40960 c = simp (run_then, run_read, run_done, read_rom c.args.seen.now c.args.ram.now c.args.rom.now _ c.if-b-ge40960.true, read_rom c.args.seen.now c.args.ram.now c.args.rom.now _ c.if-a-ge40960.true, c.indexed.ensures, c.word_in_rom.ensures)

pub returns-in-Value : goal.returns-in-Value
returns-in-Value c = simp (run_then, run_done, c.indexed-in-Value.ensures, c.in-Value.is, ← c.word_at-p.ensures.values)

pub returns-in-Refused : goal.returns-in-Refused
returns-in-Refused c = simp (run_then, c.in-Refused.is, ← c.word_at-p.ensures.values)
