-- What the loop of `input::failure::message_size` keeps.
use Rattle.std.proofs.Common.{◌-◌, ◌≤◌}
use Rattle.input.proofs.failure.message_size.Given as goal

abbrev pub invariant-loop-at : goal.invariant-loop-at
invariant-loop-at l = (l.size ≤ l.at) × (l.at ≤ 128)

abbrev pub decreases-loop-at : goal.decreases-loop-at
decreases-loop-at l = 128 - l.at
