-- `wave_write::first_lines` meets its contract.
-- Assumes nothing.
use native.Mathlib.Omega.{arith}
use Rattle.wave_write.proofs.Laws.{first_wrote, first_length}
use Rattle.wave_write.proofs.first_lines.Goals as goal

pub first_line-b-requires : goal.first_line-b-requires
first_line-b-requires c = (omega (arith, c.requires, c.first_line-a.auto.out, simp first_length at c.first_line-a.ensures.to), omega arith)

pub first_line-c-requires : goal.first_line-c-requires
first_line-c-requires c = (omega (arith, c.requires, c.first_line-a.auto.out, simp first_length at c.first_line-a.ensures.to, c.first_line-b.auto.out, simp first_length at c.first_line-b.ensures.to), omega arith)

pub first_line-requires : goal.first_line-requires
first_line-requires c = (omega (arith, c.requires, c.first_line-a.auto.out, simp first_length at c.first_line-a.ensures.to, c.first_line-b.auto.out, simp first_length at c.first_line-b.ensures.to, c.first_line-c.auto.out, simp first_length at c.first_line-c.ensures.to), omega arith)

pub returns : goal.returns
returns c = first_wrote _ c.first_line-a.ensures c.first_line-b.ensures c.first_line-c.ensures c.first_line.ensures
