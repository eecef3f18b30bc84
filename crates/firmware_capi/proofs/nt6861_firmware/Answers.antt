-- `firmware_capi::nt6861_firmware` meets its contract.
-- Assumes nothing.
use mathlib.Core.Path.{sym, ◌∙◌}
use Rattle.firmware_capi.proofs.Calls.{ran, refused, wrong}
use Rattle.firmware_capi.proofs.nt6861_firmware.Goals as goal

pub run_in-requires : goal.run_in-requires
run_in-requires c = sym c.are_sized.ensures ∙ c.if-are_sized.true

pub returns-in-Ok : goal.returns-in-Ok
returns-in-Ok c = ran _ _ _ _ _ _ _ _ _ c.are_sized.ensures c.if-are_sized.true _ c.in-Ok.ensures _ c.run_in.ensures

pub returns-in-Err : goal.returns-in-Err
returns-in-Err c = rw c.from.ensures (refused _ _ _ _ _ _ _ _ _ c.are_sized.ensures c.if-are_sized.true _ c.in-Err.ensures)

pub returns-else-are_sized : goal.returns-else-are_sized
returns-else-are_sized c = wrong _ _ _ _ _ _ _ _ _ c.are_sized.ensures c.if-are_sized.false
