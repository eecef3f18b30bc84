-- `line_text::write_line` meets its contract.
-- Assumes nothing.
use mathlib.Core.Path.{refl, ◌∙◌}
use Prim.Native.Nat.{◌-◌, ◌≤◌}
use native.Mathlib.Omega.{arith}
use lib.ListN.{length}
use borrow.Author.Rules.{rules}
use Rattle.line_text.proofs.Parts.{too_many, nothing, no_room, fits, put_size, pieces_length}
use Rattle.line_text.proofs.write_line.Goals as goal

pub returns-then-tokens-gt16 : goal.returns-then-tokens-gt16
returns-then-tokens-gt16 c = too_many _ _ c.if-tokens-gt16.true

pub put_pieces-end-requires : goal.put_pieces-end-requires
put_pieces-end-requires c = omega (arith, c.if-tokens-gt16.false)

pub returns-then-end-eq0 : goal.returns-then-end-eq0
returns-then-end-eq0 c = nothing _ _ c.if-tokens-gt16.false _ c.put_pieces-end.ensures c.if-end-eq0.true

pub returns-then-out-end : goal.returns-then-out-end
returns-then-out-end c = no_room _ _ c.if-tokens-gt16.false _ c.put_pieces-end.ensures c.if-out-end.true

pub slice_bounds-copy-end : goal.slice_bounds-copy-end
slice_bounds-copy-end c =
    let p = c.put_pieces-end in
    let few = c.if-tokens-gt16.false in
    let tokens = c.args.tokens.now in
    let long = pieces_length tokens in
    let size = put_size p.ensures (omega arith) in
    let h : p.result ≤ length p.new.buf = omega (arith, p.ensures.ends) in
    search rules

pub returns : goal.returns
returns c =
    let p = c.put_pieces-end.ensures in
    let few = c.if-tokens-gt16.false in
    let g = fits _ _ few _ _ p c.if-out-end.false refl in
    let whole = c.copy.ensures.fits (search rules) in
    (whole.0 ∙ g.0, whole.1 ∙ g.1)
