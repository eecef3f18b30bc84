-- `firmware_capi::cpu_of` meets its contract.
-- Assumes nothing.
use Rattle.firmware_capi.specs.Call.{cpu_of}
use borrow.Author.Rules.{rules}
use Rattle.firmware_capi.proofs.cpu_of.Goals as goal

pub pulled_p-p-requires : goal.pulled_p-p-requires
unfolding cpu_of
pulled_p-p-requires c = search rules

pub word-pc-requires : goal.word-pc-requires
unfolding cpu_of
word-pc-requires c = search rules

pub returns : goal.returns
unfolding cpu_of
returns c = simp (c.word-pc.ensures, c.pulled_p-p.ensures)
