-- The writer of a recording: words from bytes, and blocks from words (document 02, Wish 1).
use Rattle.std.specs.Prelude.{ℕ, ◌+◌, ◌*◌, ◌/◌, List, ◌++◌, ltb, length, drop, Result, Ok, Err}
use Rattle.bits.specs.Byte.{pick}
use Rattle.recording_blocks.specs.Bytes.{words_of}
use Rattle.recording_blocks.specs.declared.WriteFault.{WriteFault}
use Rattle.recording_blocks.specs.declared.WriteFault.TheVariants.{Numbers, Area}
use Rattle.recording_parts.specs.Recording.{parts, joined, numbered}
use Rattle.recording_writer.specs.declared.BlocksWritten.{BlocksWritten}

-- ---- words

-- how many words there are; 0 where there are fewer places
unfoldable pub words_given : List ℕ → List ℕ → ℕ
words_given bytes places = pick (ltb (length places) (length bytes / 4)) 0 (length bytes / 4)

-- what is left in the places: the whole words and, past them, what was there
unfoldable pub words_put : List ℕ → List ℕ → List ℕ
words_put bytes places = pick (ltb (length places) (length bytes / 4)) places (words_of bytes ++ drop (length bytes / 4) places)

-- ---- blocks

-- how many blocks a list of words takes: one for each 126, and one for the rest
abbrev pub block_count : List ℕ → ℕ
block_count ws = (length ws + 125) / 126

-- the bytes of the blocks, numbered on from a number
unfoldable pub blocks_bytes : ℕ → List ℕ → List ℕ
blocks_bytes number ws = joined (numbered number (parts ws))

-- what is given back: the fault with the number 12 where a block would have a number above 65,535, then that with 17 for an area that is
-- too short for the blocks; else how many bytes they take and the number that is next
unfoldable pub blocks_written : ℕ → List ℕ → List ℕ → Result BlocksWritten WriteFault
blocks_written number ws area =
    pick (ltb 65536 (number + block_count ws))
    (Err Numbers)
    (pick (ltb (length area) (512 * block_count ws))
    (Err Area)
    (Ok (record { count = 512 * block_count ws; next = number + block_count ws })))

-- what is left in the area: the blocks and, past them, what was there; nothing is written where it is refused
unfoldable pub blocks_put : ℕ → List ℕ → List ℕ → List ℕ
blocks_put number ws area =
    pick (ltb 65536 (number + block_count ws))
    area
    (pick (ltb (length area) (512 * block_count ws))
    area
    (blocks_bytes number ws ++ drop (512 * block_count ws) area))
