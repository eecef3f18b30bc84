-- `sync6862_capi::no_rate` meets its contract.
use lib.Ieee.{of_bits, round, neg}
use Rattle.sync6862_capi.specs.Lent.{hertz}
use Rattle.sync6862_capi.proofs.no_rate.Goals as goal

pub returns-in-IllFormed : goal.returns-in-IllFormed
unfolding hertz of_bits round neg
returns-in-IllFormed c = simp c.in-IllFormed.is

pub returns-in-NothingLatched : goal.returns-in-NothingLatched
unfolding hertz of_bits round neg
returns-in-NothingLatched c = simp c.in-NothingLatched.is

pub returns-in-Overflow : goal.returns-in-Overflow
unfolding hertz of_bits round neg
returns-in-Overflow c = simp c.in-Overflow.is
