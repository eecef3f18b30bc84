-- `wave_write::changes` meets its contract.
-- Assumes nothing.
use native.Mathlib.Omega.{arith}
use Rattle.wave_write.proofs.Laws.{wrote_lines, time_length, pin_length, levels_length}
use Rattle.wave_write.proofs.changes.Goals as goal

pub pin_line-b-requires : goal.pin_line-b-requires
pin_line-b-requires c = omega (arith, c.requires, c.time_line-a.auto.out, c.time_line-a.ensures.to, time_length c.args.t)

pub level_lines-c-requires : goal.level_lines-c-requires
level_lines-c-requires c = omega (arith, c.requires, c.time_line-a.auto.out, c.time_line-a.ensures.to, time_length c.args.t, c.pin_line-b.auto.out, c.pin_line-b.ensures.to, pin_length c.args.word)

pub vector_lines-requires : goal.vector_lines-requires
vector_lines-requires c = omega (arith, c.requires, c.time_line-a.auto.out, c.time_line-a.ensures.to, time_length c.args.t, c.pin_line-b.auto.out, c.pin_line-b.ensures.to, pin_length c.args.word, c.level_lines-c.auto.out, c.level_lines-c.ensures.to, levels_length c.args.old.levels c.args.new.levels)

pub returns : goal.returns
returns c = wrote_lines _ _ c.time_line-a.ensures (wrote_lines _ _ c.pin_line-b.ensures (wrote_lines _ _ c.level_lines-c.ensures c.vector_lines.ensures))
