-- `firmware_capi::flags_byte` meets its contract.
-- Assumes nothing.
use Rattle.firmware_capi.specs.Call.{flags_byte}
use borrow.Author.Rules.{rules}
use Rattle.firmware_capi.proofs.flags_byte.Goals as goal

pub num-requires : goal.num-requires
unfolding flags_byte
num-requires c = search rules

pub num-requires-2 : goal.num-requires-2
unfolding flags_byte
num-requires-2 c = search rules

pub num-requires-3 : goal.num-requires-3
unfolding flags_byte
num-requires-3 c = search rules

pub num-requires-4 : goal.num-requires-4
unfolding flags_byte
num-requires-4 c = search rules

pub num-requires-5 : goal.num-requires-5
unfolding flags_byte
num-requires-5 c = search rules

pub num-requires-6 : goal.num-requires-6
unfolding flags_byte
num-requires-6 c = search rules

pub returns : goal.returns
unfolding flags_byte
returns c = simp (c.num-6.ensures.0, c.num-5.ensures.0, c.num-4.ensures.0, c.num-3.ensures.0, c.num-2.ensures.0, c.num.ensures.0)
