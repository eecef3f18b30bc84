-- `wave_run::write_block` meets its contract.
-- Assumes nothing.
use mathlib.Core.Path.{sym, ◌∙◌}
use native.Mathlib.Omega.{arith}
use Rattle.wave_write.proofs.Laws.{wrote_none}
use Rattle.wave_run.proofs.Blocks.{bytes_none, after_none, bytes_room, after_room}
use Rattle.wave_run.proofs.write_block.Goals as goal

pub returns-then-out-words : goal.returns-then-out-words
returns-then-out-words c = (rw (bytes_none _ c.args.run _ c.if-out-words.true) (wrote_none _ _), sym (after_none _ c.args.run _ c.if-out-words.true))

pub write_all-requires : goal.write_all-requires
write_all-requires c = omega (arith, c.if-out-words.false)

pub returns : goal.returns
returns c =
    let done = c.write_all.ensures in
    (rw (bytes_room _ c.args.run _ c.if-out-words.false) done.0, done.1 ∙ sym (after_room _ c.args.run _ c.if-out-words.false))
