-- One, two and three bytes left over give one line of text; none gives none.
use mathlib.Core.Path.{◌≡◌, refl}
use mathlib.Core.List.{List, [], ◌∷◌, ◌++◌}
use Prim.Native.Nat.{ℕ}
use Rattle.chip.specs.State.{fresh}
use Rattle.recording_blocks.specs.Bytes.{words_of}
use Rattle.hex_digits.specs.Hex.{hex_line}
use Rattle.replay_text.specs.Text.{hex_lines, left_over, replay_text}
use Rattle.chip_cases.proofs.Opened.{opened}
use Rattle.chip_rule_cases.specs.Replay.{requesting, answered, left_over_requested, left_over_alone}

pub bytes_left_over : ◌≡◌ {A = List ℕ × List ℕ × List ℕ × List ℕ × List ℕ × List ℕ} (
  replay_text fresh [],
  replay_text fresh (0x00 ∷ []),
  replay_text fresh requesting,
  replay_text fresh (requesting ++ (0x00 ∷ [])),
  replay_text fresh (requesting ++ (0x00 ∷ 0x06 ∷ [])),
  replay_text fresh (requesting ++ (0x00 ∷ 0x06 ∷ 0x00 ∷ [])),
)
    ([], left_over_alone, answered, answered ++ left_over_requested, answered ++ left_over_requested, answered ++ left_over_requested)
unfolding opened words_of hex_line hex_lines left_over replay_text
bytes_left_over = refl
