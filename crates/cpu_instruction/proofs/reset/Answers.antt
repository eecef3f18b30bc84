use Rattle.cpu_instruction.specs.Instruction.{reset_cpu}
use borrow.Author.Rules.{rules}
use Rattle.cpu_instruction.proofs.reset.Goals as goal

pub with_i-g-requires : goal.with_i-g-requires
unfolding reset_cpu
with_i-g-requires c = search rules

pub rom_word-v-requires : goal.rom_word-v-requires
unfolding reset_cpu
rom_word-v-requires c = search rules

pub jumped-requires : goal.jumped-requires
unfolding reset_cpu
jumped-requires c = search rules

pub returns : goal.returns
unfolding reset_cpu
returns c = simp (c.jumped.ensures, c.rom_word-v.ensures, c.with_i-g.ensures)
