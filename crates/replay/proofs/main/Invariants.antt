-- What the loop of `replay::main` keeps: the bytes carried over are within the input.
use Rattle.std.proofs.Common.{◌≤◌, length}
use Rattle.replay.proofs.main.Given as goal

abbrev pub invariant-loop : goal.invariant-loop
invariant-loop l = l.turn.carried ≤ length l.bytes
