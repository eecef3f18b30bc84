-- The room of a reader of blocks: fewer places than the blocks can have words, or enough.
-- Assumes nothing.
use Prim.Native.Nat.{ℕ, ◌*◌, ◌/◌, ◌≤◌, ◌<◌}
use mathlib.Core.Path.{◌≡◌, refl}
use mathlib.Core.List.{List, ◌++◌}
use lib.ListN.{length, drop}
use borrow.Author.Tests.{lt-ltb, le-ltb}
use Rattle.std.specs.Prelude.{Some}
use Rattle.recording_blocks.specs.declared.BlockFault.TheVariants.{Places}
use Rattle.recording_parts.specs.declared.BlocksRead.{BlocksRead}
use Rattle.recording_parts.specs.Recording.{blocks_of, read_words, read_next, read_number, fault_at, blocks_read, words_left}

module _ (due : ℕ) (bytes places : List ℕ) where
  pub too_few : length places < 126 * (length bytes / 512) → (◌≡◌ {A = BlocksRead} (record { count = 0; next = due; fault = Some Places }) (blocks_read due bytes places)) × (places ≡ words_left due bytes places)
  unfolding blocks_read words_left
  too_few h = simp (lt-ltb _ _ h) (refl, refl)

  pub enough : (r : BlocksRead) (after : List ℕ) → 126 * (length bytes / 512) ≤ length places
      → (r ≡ record { count = length (read_words due (blocks_of bytes)); next = read_next due (blocks_of bytes); fault = fault_at (read_number due (blocks_of bytes)) })
      × (after ≡ read_words due (blocks_of bytes) ++ drop (length (read_words due (blocks_of bytes))) places)
      → (r ≡ blocks_read due bytes places) × (after ≡ words_left due bytes places)
  unfolding blocks_read words_left
  enough r after h e = simp (le-ltb _ _ h) e
