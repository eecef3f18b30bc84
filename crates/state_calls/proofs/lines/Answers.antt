-- `state_calls::lines` meets its contract.
-- Assumes nothing.
use Prim.Native.Nat.{ℕ, ◌*◌}
use Rattle.chip.specs.declared.Chip.{Chip}
use Rattle.chip_lines.specs.Lines.{lines_report, lines_word}
use Rattle.state_calls.specs.Calls.{lines_in}
use Rattle.state_calls.proofs.Opened.{done, refused}
use Rattle.state_calls.proofs.lines.Goals as goal

pub returns-in-Ok : goal.returns-in-Ok
unfolding lines_in
returns-in-Ok c = rw (c.lines_word.ensures, c.line_levels.ensures.0) (done _ _ c.in-Ok.ensures (λ (x : Chip). lines_word (lines_report x)) _)

pub returns-in-Err : goal.returns-in-Err
unfolding lines_in
returns-in-Err c = rw c.in_top_byte.ensures (refused _ _ c.in-Err.ensures _ (λ (n : ℕ). n * 16777216))
