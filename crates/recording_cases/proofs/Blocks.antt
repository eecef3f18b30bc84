-- What the writer makes and what the reader refuses.
use mathlib.Core.Path.{◌≡◌, refl}
use mathlib.Core.List.{[], ◌∷◌}
use Rattle.recording_blocks.specs.Bytes.{words_bytes, words_of, all_zero}
use Rattle.recording_blocks.specs.Block.{front, block_of, number_of, count_of, all_words, sum_of, refusal}
use Rattle.recording_blocks.specs.Block as block
use Rattle.recording_cases.specs.Blocks.{written, rows, given, expected}

pub block_written : block_of 258 (0x04030201 ∷ 0xffffffff ∷ []) ≡ written
unfolding block_of front words_bytes
block_written = refl

pub block_read : block.block_words written ≡ 0x04030201 ∷ 0xffffffff ∷ []
unfolding count_of all_words words_of
block_read = refl

pub blocks_refused : given rows ≡ expected rows
unfolding rows refusal number_of count_of all_words sum_of words_of all_zero
blocks_refused = refl
