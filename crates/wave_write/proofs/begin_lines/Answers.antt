-- `wave_write::begin_lines` meets its contract.
-- Assumes nothing.
use native.Mathlib.Omega.{arith}
use Prim.Native.Nat.{◌-◌}
use Rattle.wave_write.proofs.Laws.{begin_joined, time_length, first_size, levels_length}
use Rattle.wave_write.proofs.begin_lines.Goals as goal

pub first_lines-b-requires : goal.first_lines-b-requires
first_lines-b-requires c = omega (arith, c.requires, c.time_line-a.auto.out, c.time_line-a.ensures.to, time_length 0)

pub level_lines-c-requires : goal.level_lines-c-requires
level_lines-c-requires c = omega (arith, c.requires, c.time_line-a.auto.out, c.time_line-a.ensures.to, time_length 0, c.first_lines-b.auto.out, c.first_lines-b.ensures.to, first_size c.args.pins)

pub vector_lines-requires : goal.vector_lines-requires
vector_lines-requires c = omega (arith, c.requires, c.time_line-a.auto.out, c.time_line-a.ensures.to, time_length 0, c.first_lines-b.auto.out, c.first_lines-b.ensures.to, first_size c.args.pins, c.level_lines-c.auto.out, c.level_lines-c.ensures.to, levels_length (65535 - c.args.watch.levels) c.args.watch.levels)

pub returns : goal.returns
returns c = begin_joined c.args.pins c.args.watch c.time_line-a.ensures c.first_lines-b.ensures c.level_lines-c.ensures c.vector_lines.ensures
