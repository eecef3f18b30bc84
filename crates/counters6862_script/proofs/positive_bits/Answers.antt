-- `counters6862_script::positive_bits` meets its contract.
-- Assumes nothing.
use Rattle.counters6862_script.specs.Script.{positive_bits}
use Rattle.counters6862_script.proofs.Positive.{above_number}
use Rattle.counters6862_script.proofs.positive_bits.Goals as goal

pub float_to_bits-result : goal.float_to_bits-result
unfolding positive_bits
float_to_bits-result c = above_number _ c.args.x c.if-x.true

pub returns-then-x : goal.returns-then-x
unfolding positive_bits
returns-then-x c = simp c.if-x.true

pub returns-else-x : goal.returns-else-x
unfolding positive_bits
returns-else-x c = simp c.if-x.false
