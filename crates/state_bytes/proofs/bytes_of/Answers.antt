-- `state_bytes::bytes_of` meets its contract.
-- Assumes nothing.
use mathlib.Core.Path.{◌≡◌, ◌∙◌}
use native.Mathlib.Omega.{arith}
use lib.ListN.{length}
use Rattle.state_bytes.specs.Layout.{bytes_of}
use Rattle.state_bytes.proofs.Laid.{laid_out}
use borrow.Author.Rules.{rules}
use Rattle.state_bytes.proofs.bytes_of.Goals as goal

pub core_bytes-front-requires : goal.core_bytes-front-requires
unfolding bytes_of
core_bytes-front-requires c = search rules

pub put_at-requires : goal.put_at-requires
unfolding bytes_of
put_at-requires c =
    let r : length c.args.c.registers ≡ 38 = search rules in
    let x : length c.copy.new.to ≡ 128 = search rules in
    omega arith

pub returns : goal.returns
unfolding bytes_of
returns c =
    let r : length c.args.c.registers ≡ 38 = search rules in
    c.put_at.ensures
    ∙ laid_out c.args.c.core _ _ c.args.c.registers c.core_bytes-front.ensures r (c.copy.ensures.fits (search rules)).1
