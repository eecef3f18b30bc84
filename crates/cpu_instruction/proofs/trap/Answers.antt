use Rattle.cpu_instruction.proofs.trap.Goals as goal

pub returns : goal.returns
returns c = simp (c.effect_of.ensures, c.low.ensures, c.high.ensures, c.jumped-d.ensures, c.rom_word-v.ensures, c.pushed_p-k.ensures, c.with_i-g.ensures, c.below-t.ensures, c.below-2.ensures, c.below.ensures)
