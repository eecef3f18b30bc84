-- Each block has its number.
use mathlib.Core.Path.{◌≡◌, refl}
use Rattle.bits.specs.Byte.{bit}
use Rattle.edid_check.specs.Block.{header_fits, sum_fits}
use Rattle.edid_check.specs.Edid.{version_fits, digital_fits, depth_fits, interface_fits, input_by3, input_by4, input_verdict, contents, verdict}
use Rattle.edid_cases.specs.Blocks.{rows, given, expected}

pub blocks_numbered : given rows ≡ expected rows
unfolding rows bit header_fits sum_fits version_fits digital_fits depth_fits interface_fits input_by3 input_by4 input_verdict contents verdict
blocks_numbered = refl
