-- What the reader of a block gives, as a number and a count apart.
use Rattle.std.specs.Prelude.{ℕ, Result, Ok, Err}
use Rattle.recording_blocks.specs.declared.BlockFault.{BlockFault}
use Rattle.recording_blocks.specs.Block.{fault_number}

-- 0 for words, else the number of the fault
abbrev pub status_of : Result ℕ BlockFault → ℕ
status_of (Ok n) = 0
status_of (Err fault) = fault_number fault

-- how many words there are; where there are none, what the count was
abbrev pub count_left : Result ℕ BlockFault → ℕ → ℕ
count_left (Ok n) old = n
count_left (Err fault) old = old
