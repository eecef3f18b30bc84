-- A recording of any number of blocks, given to `recording_replay::replay_blocks` in parts of 32 (document 02, Wish 1).
use Rattle.std.specs.Prelude.{ℕ, ◌≤◌, ◌≡◌, List, [], ◌∷◌, ◌++◌, eqb, length, take}
use Rattle.bits.specs.Byte.{pick}
use Rattle.chip.specs.declared.Chip.{Chip}
use Rattle.recording_replay.specs.Replay.{replayed, text_left}

-- the bytes of a part: 32 blocks; and of its text: a line of nine bytes for each of its words and for a last answer
abbrev pub part_bytes : ℕ
part_bytes = 16384

abbrev pub part_text : ℕ
part_text = 36297

-- the text of a recording in parts, each with the same places: what a call wrote is printed, the next part goes on from the chip and the number
-- that the call gave back, and a number other than 0 ends it
unfoldable pub printed : List ℕ → Chip → ℕ → List (List ℕ) → List ℕ
printed places c due [] = []
printed places c due (part ∷ rest) =
    take (replayed c due part places).count (text_left c due part places)
    ++ pick (eqb (replayed c due part places).number 0) (printed places (replayed c due part places).chip (replayed c due part places).next rest) []

-- the parts of a recording: every one of 32 blocks but the last, which may be shorter
pub data Parts : List (List ℕ) → Type 0 where
  none : Parts []
  last : {part : List ℕ} → length part ≤ part_bytes → Parts (part ∷ [])
  more : {part : List ℕ} {rest : List (List ℕ)} → length part ≡ part_bytes → Parts rest → Parts (part ∷ rest)
