-- `state_bytes::core_bytes` meets its contract.
-- Assumes nothing.
use Rattle.state_bytes.proofs.core_bytes.Goals as goal

pub returns : goal.returns
returns c = simp (c.num-7.ensures, c.num-6.ensures, c.num-5.ensures, c.num-4.ensures, c.num-3.ensures, c.high-6.ensures, c.low-6.ensures, c.high-5.ensures, c.low-5.ensures, c.num-2.ensures, c.high-4.ensures, c.low-4.ensures, c.high-3.ensures, c.low-3.ensures, c.num.ensures, c.high-2.ensures, c.low-2.ensures, c.high.ensures, c.low.ensures, c.fields_of-f.ensures)
