-- `recording_writer::write_blocks` meets its contract.
-- Assumes nothing.
use mathlib.Core.Path.{◌≡◌, ap, ◌∙◌}
use native.Mathlib.Omega.{arith}
use Prim.Native.Nat.{ℕ, ◌+◌, ◌*◌, ◌/◌}
use lib.ListN.{length}
use Rattle.std.specs.Prelude.{Result, Ok}
use Rattle.std.specs.Int.{div_ceil}
use Rattle.recording_blocks.specs.declared.WriteFault.{WriteFault}
use Rattle.recording_writer.specs.declared.BlocksWritten.{BlocksWritten}
use Rattle.recording_writer.proofs.Writing.{gives_twelve, gives_seventeen, wrote}
use Rattle.recording_writer.proofs.write_blocks.Goals as goal

abbrev given : ℕ → ℕ → Result BlocksWritten WriteFault
given count next = Ok (record { count = 512 * count; next = next })

-- the blocks that so many words take, as the code counts them
counted : (n : ℕ) → div_ceil n 126 ≡ (n + 125) / 126
counted n = omega arith

pub returns-then-next-gt-NUMBERS : goal.returns-then-next-gt-NUMBERS
returns-then-next-gt-NUMBERS c =
    gives_twelve _ _ _ c.div_ceil-count.result (c.div_ceil-count.ensures ∙ counted (length c.args.words.now)) (omega (arith, c.from.ensures))

pub returns-then-area-count : goal.returns-then-area-count
returns-then-area-count c =
    gives_seventeen _ _ _ c.div_ceil-count.result (c.div_ceil-count.ensures ∙ counted (length c.args.words.now)) (omega (arith, c.from.ensures)) c.if-area-count.true

pub write_all-requires : goal.write_all-requires
write_all-requires c =
    let e = c.div_ceil-count.ensures ∙ counted (length c.args.words.now) in
    (omega (arith, e, c.from.ensures), omega (arith, e))

pub returns : goal.returns
returns c =
    let same : c.from.result ≡ c.args.first = c.from.ensures in
    let count = c.div_ceil-count.result in
    let done = wrote _ _ _ c.div_ceil-count.result (c.div_ceil-count.ensures ∙ counted (length c.args.words.now)) (omega (arith, same)) c.if-area-count.false _ c.write_all.ensures in
    (ap (λ (m : ℕ). given count (m + count)) same ∙ done.0, done.1)
