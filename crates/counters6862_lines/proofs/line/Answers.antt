-- `counters6862_lines::line` meets its contract.
-- Assumes nothing.
use Rattle.counters6862_lines.specs.Text.{line_to}
use Rattle.counters6862_lines.proofs.Held.{line_says}
use Rattle.counters6862_lines.proofs.line.Goals as goal

pub returns : goal.returns
unfolding line_to
returns c = line_says c.args.number c.args.n _ (simp (c.put_number.ensures, c.put_number-t11.ensures, c.put_number-t10.ensures, c.put_number-t9.ensures, c.put_number-t8.ensures, c.put_number-t7.ensures, c.put_number-t6.ensures, c.put_number-t5.ensures, c.put_number-t4.ensures, c.put_number-t3.ensures, c.put_number-t2.ensures, c.put_number-t1.ensures, c.five_digits-t0.ensures, c.from.ensures, c.empty.ensures))
