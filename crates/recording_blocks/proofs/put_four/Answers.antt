-- `recording_blocks::put_four` meets its contract.
use mathlib.Core.Path.{◌≡◌, refl, ap, ◌∙◌}
use mathlib.Core.List.{[], ◌∷◌}
use Prim.Native.Nat.{ℕ, ◌-◌, ◌/◌, ◌%◌, ◌≤◌}
use native.Mathlib.Omega.{arith}
use lib.ListN.{length, take, drop, length-take, length-drop}
use borrow.Rule.Slice.PartMut.{put_mid}
use Rattle.list_laws.proofs.Place.{placed_as}
use Rattle.recording_blocks.specs.Bytes.{four_bytes}
use Rattle.recording_blocks.proofs.put_four.Goals as goal

pub returns : goal.returns
returns c =
    let old = c.args.area.now in
    let at = c.args.at in
    let n = c.args.n in
    let four = c.to_le_bytes.result in
    let top : n / 16777216 % 256 ≡ n / 16777216 = omega arith in
    let same : four ≡ four_bytes n = c.to_le_bytes.ensures ∙ ap (λ (t : ℕ). n % 256 ∷ n / 256 % 256 ∷ n / 65536 % 256 ∷ t ∷ []) top in
    let size : length four ≡ 4 = ap length same in
    let room : length four ≤ length (take (length old - at) (drop at old)) =
    omega (arith, c.requires, length-take (length old - at) (drop at old), length-drop at old) in
    ap (put_mid at (length old - at) old) (c.copy.ensures.fits room).1
    ∙ placed_as old four (four_bytes n) at 4 same refl c.requires
