-- `state_calls::hold` meets its contract.
-- Assumes nothing.
use Prim.Native.Nat.{ℕ, ◌*◌}
use Rattle.chip.specs.declared.Chip.{Chip}
use Rattle.chip_hold.specs.Hold.{hold_report, hold_word}
use Rattle.state_calls.specs.Calls.{hold_in}
use Rattle.state_calls.proofs.Opened.{done, refused}
use Rattle.state_calls.proofs.hold.Goals as goal

pub returns-in-Ok : goal.returns-in-Ok
unfolding hold_in
returns-in-Ok c = rw (c.hold_word.ensures, c.held_for.ensures.0) (done _ _ c.in-Ok.ensures (λ (x : Chip). hold_word (hold_report x)) _)

pub returns-in-Err : goal.returns-in-Err
unfolding hold_in
returns-in-Err c = rw c.in_top_byte.ensures (refused _ _ c.in-Err.ensures _ (λ (n : ℕ). n * 16777216))
