-- `firmware_capi::keep` meets its contract.
-- Assumes nothing.
use Rattle.firmware_capi.proofs.Calls.{sized}
use Rattle.firmware_capi.proofs.keep.Goals as goal

pub keep_cpu-requires : goal.keep_cpu-requires
keep_cpu-requires c = (sized _ _ _ _ c.requires).0

pub keep_ram-requires : goal.keep_ram-requires
keep_ram-requires c = (sized _ _ _ _ c.requires).1

pub keep_chip-requires : goal.keep_chip-requires
keep_chip-requires c = (sized _ _ _ _ c.requires).2

pub keep_counts-requires : goal.keep_counts-requires
keep_counts-requires c = (sized _ _ _ _ c.requires).3

pub returns : goal.returns
returns c = (c.keep_cpu.ensures, c.keep_ram.ensures, c.keep_chip.ensures, c.keep_counts.ensures)
