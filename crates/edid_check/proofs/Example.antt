-- A block that is accepted, computed.
-- Assumes nothing.
use mathlib.Core.Path.{◌≡◌, refl}
use Rattle.bits.specs.Byte.{bit}
use Rattle.edid_check.specs.Block.{header_fits, sum_fits}
use Rattle.edid_check.specs.Edid.{version_fits, digital_fits, input_by3, input_verdict, contents, verdict, number_of}
use Rattle.edid_check.specs.Example.{example_block}

pub example_accepted : number_of (verdict example_block) ≡ 0
unfolding example_block verdict contents header_fits sum_fits version_fits digital_fits input_by3 input_verdict bit
example_accepted = refl
