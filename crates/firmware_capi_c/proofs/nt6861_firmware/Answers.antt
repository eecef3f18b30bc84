-- `firmware_capi_c::nt6861_firmware` meets its contract, which is that of the library's function.
use Rattle.firmware_capi_c.proofs.nt6861_firmware.Goals as goal

pub returns : goal.returns
returns c = c.nt6861_firmware.ensures
