-- `state_bytes::put_at` meets its contract.
-- Assumes nothing.
use mathlib.Core.Path.{ap, ◌∙◌}
use Prim.Native.Nat.{◌-◌}
use lib.ListN.{length, length-drop}
use native.Mathlib.Omega.{arith}
use borrow.Rule.Slice.PartMut.{put_mid}
use Rattle.list_laws.proofs.Place.{placed}
use Rattle.state_bytes.proofs.put_at.Goals as goal

pub returns : goal.returns
returns c =
    let old = c.args.area.now in
    let at = c.args.at in
    ap (put_mid at (length old - at) old) (c.copy.ensures.fits (omega (arith, c.requires, length-drop at old))).1 ∙ placed old c.args.part.now at c.requires
