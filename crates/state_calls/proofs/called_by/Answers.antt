-- `state_calls::called_by` meets its contract.
-- Assumes nothing.
use Prim.Native.Nat.{ℕ, ◌*◌}
use Rattle.chip.specs.declared.Chip.{Chip}
use Rattle.chip_address_match.specs.AddressOutcome.{outcome_report, outcome_word}
use Rattle.state_calls.specs.Calls.{outcome_in}
use Rattle.state_calls.proofs.Opened.{done, refused}
use Rattle.state_calls.proofs.called_by.Goals as goal

pub returns-in-Ok : goal.returns-in-Ok
unfolding outcome_in
returns-in-Ok c = rw (c.outcome_word.ensures, c.called_by.ensures.0) (done _ _ c.in-Ok.ensures (λ (x : Chip). outcome_word (outcome_report x)) _)

pub returns-in-Err : goal.returns-in-Err
unfolding outcome_in
returns-in-Err c = rw c.in_top_byte.ensures (refused _ _ c.in-Err.ensures _ (λ (n : ℕ). n * 16777216))
