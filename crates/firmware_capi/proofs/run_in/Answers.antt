-- `firmware_capi::run_in` meets its contract.
-- Assumes nothing.
use Rattle.firmware_capi.proofs.Calls.{sized, begun, not_begun}
use Rattle.firmware_capi.proofs.run_in.Goals as goal

pub ram_of-held-requires : goal.ram_of-held-requires
ram_of-held-requires c = (sized _ _ _ _ c.requires).1

pub cpu_of-c-requires : goal.cpu_of-c-requires
cpu_of-c-requires c = (sized _ _ _ _ c.requires).0

pub keep-requires : goal.keep-requires
keep-requires c = c.requires

pub returns-then-has_begun : goal.returns-then-has_begun
returns-then-has_begun c =
    let run = c.run-done.ensures in
    begun _ _ _ _ _ _ _ _ _ _ _ c.cpu_of-c.ensures c.ram_of-held.ensures _ run.0 _ _ run.1 run.2 _ c.has_begun.ensures c.if-has_begun.true _ _ _ _ c.keep.ensures

pub returns-else-has_begun : goal.returns-else-has_begun
returns-else-has_begun c =
    let run = c.run-done.ensures in
    not_begun _ _ _ _ _ _ _ _ _ _ _ c.cpu_of-c.ensures c.ram_of-held.ensures _ run.0 _ run.1 _ c.has_begun.ensures c.if-has_begun.false
