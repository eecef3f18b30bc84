-- `wave_write::begin_all` meets its contract.
-- Assumes nothing.
use native.Mathlib.Omega.{arith}
use mathlib.Core.Path.{refl}
use Rattle.wave_write.specs.Header.{header_text}
use Rattle.wave_write.proofs.Laws.{begin_wrote}
use Rattle.wave_write.proofs.begin_all.Goals as goal

pub returns : goal.returns
unfolding header_text
returns c = begin_wrote _ _ _ _ (omega (arith, c.requires)) refl (c.copy.ensures.fits (omega (arith, c.requires))).1 c.begin_lines.ensures
