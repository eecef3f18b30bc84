-- `recording_blocks::put_front` meets its contract.
-- Assumes nothing.
use mathlib.Core.Path.{◌≡◌}
use native.Mathlib.Omega.{arith}
use Rattle.recording_blocks.proofs.Parts.{front_put}
use Rattle.recording_blocks.proofs.put_front.Goals as goal

pub returns : goal.returns
returns c =
    let same : c.from.result ≡ c.args.number = c.from.ensures in
    rw same at (front_put c.args.area.now c.args.words.now _ _ c.from.result (omega (arith, same)) c.put_four.ensures c.put_words.ensures)
