-- `hex_digits::put_lines` meets its contract.
-- Assumes nothing.
use mathlib.Core.Path.{◌≡◌, refl, ap, ◌∙◌}
use mathlib.Core.List.{List, ◌++◌}
use Prim.Native.Nat.{ℕ, ◌+◌, ◌-◌, ◌*◌, ◌/◌, ◌≤◌, min}
use native.Mathlib.Omega.{arith}
use borrow.Rule.Slice.PartMut.{put_mid}
use lib.ListN.{length, take, drop, length-take, length-drop}
use Rattle.list_laws.proofs.Place.{placed_as}
use Rattle.hex_digits.specs.Hex.{hex_lines}
use Rattle.hex_digits.proofs.Line.{length_line, line_more, lines_fit, all_fit}
use Rattle.hex_digits.proofs.put_lines.Goals as goal

pub loop-i-init : goal.loop-i-init
unfolding hex_lines
loop-i-init c = refl

-- a line is within the rest of the text
within_rest : (now line : List ℕ) (at : ℕ) → length line ≡ 9 → at + 9 ≤ length now → length line ≤ length (take (length now - at) (drop at now))
within_rest now line at n h = omega (arith, length-take (length now - at) (drop at now), length-drop at now)

pub loop-i-preserved : goal.loop-i-preserved
loop-i-preserved c =
    let i = c.loop-i.i in
    let now = c.loop-i.text in
    let line = c.hex_line.result in
    let size : length line ≡ 9 = ap length c.hex_line.ensures ∙ length_line _ in
    let room : 9 * i + 9 ≤ length now = omega (arith, c.loop-i-test.true, c.loop-i.auto.text, c.min.ensures, length-take c.min.result c.args.words.now) in
    line_more (take c.min.result c.args.words.now) c.args.text.now _ i c.loop-i-test.true c.loop-i.invariant _
    (ap (put_mid (9 * i) (length now - 9 * i) now) (c.copy.ensures.fits (within_rest now line (9 * i) size room)).1
    ∙ placed_as now line _ (9 * i) 9 c.hex_line.ensures (length_line _) room)

-- the words that fit have their lines
all_put : (xs old now : List ℕ) (n i : ℕ) → now ≡ hex_lines (take i (take n xs)) ++ drop (9 * i) old → n ≡ min (length xs) (length old / 9)
    → i ≤ length (take n xs) → length (take n xs) ≤ i
    → now ≡ hex_lines (take (length old / 9) xs) ++ drop (length (hex_lines (take (length old / 9) xs))) old
all_put xs old now n i e m h k = e ∙ lines_fit xs old n i m (omega (arith, length-take n xs))

pub returns-clause-put : goal.returns-clause-put
returns-clause-put c = all_put _ _ _ _ _ c.loop-i.invariant c.min.ensures c.loop-i.auto.i-end c.loop-i-test.false

pub returns-clause-fits : goal.returns-clause-fits
returns-clause-fits c = λ h. all_put _ _ _ _ _ c.loop-i.invariant c.min.ensures c.loop-i.auto.i-end c.loop-i-test.false ∙ all_fit _ _ h
