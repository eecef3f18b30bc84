-- `why_reasons::reasons_after` meets its contract.
-- Assumes nothing.
use Rattle.why_reasons.specs.Explain.{reasons_of}
use Rattle.why_reasons.proofs.reasons_after.Goals as goal

pub returns : goal.returns
unfolding reasons_of
returns c = simp (c.reason_by-6.ensures, c.bit-6.ensures, c.reason_by-5.ensures, c.bit-5.ensures, c.reason_by-4.ensures, c.bit-4.ensures, c.reason_by-3.ensures, c.bit-3.ensures, c.reason_by-2.ensures, c.bit-2.ensures, c.reason_by.ensures, c.bit.ensures, c.requests-lines.ensures)
