-- The words of some bytes, answered by the list call.
-- Assumes nothing.
use mathlib.Core.Path.{◌≡◌, refl, ap, ◌∙◌}
use mathlib.Core.List.{List, ◌++◌}
use Prim.Native.Nat.{ℕ, ◌/◌, ◌≤◌}
use native.Mathlib.Omega.{arith}
use borrow.Author.Tests.{le-ltb}
use lib.ListN.{length, take, drop, length-append, length-drop}
use lib.Seq.{take_at, take_all}
use Rattle.chip.specs.declared.Chip.{Chip}
use Rattle.list_call.specs.Run.{advanced, advanced_answers, advance_all, advance_all_answers}
use Rattle.list_call.proofs.Runs.{length_advanced_answers}
use Rattle.recording_blocks.specs.Bytes.{words_of}
use Rattle.recording_blocks.proofs.Words.{length_words}

-- bytes, and as many places w for their words, which then are held, and a for the answers
module _ (bytes w held : List ℕ) (room : length bytes / 4 ≤ length w)
    (e : held ≡ take (length w) (words_of bytes) ++ drop (length (words_of bytes)) w) where
  whole : take (length w) (words_of bytes) ≡ words_of bytes
  whole = take_all (length w) (words_of bytes) (omega (arith, length_words bytes))

  pub held_length : length held ≡ length w
  held_length =
      ap length e ∙ length-append (take (length w) (words_of bytes)) (drop (length (words_of bytes)) w)
      ∙ omega (arith, ap length whole, length_words bytes, length-drop (length (words_of bytes)) w)

  pub words_read : take (length bytes / 4) held ≡ words_of bytes
  words_read =
      ap (take (length bytes / 4)) (e ∙ ap (λ (l : List ℕ). l ++ drop (length (words_of bytes)) w) whole)
      ∙ take_at (words_of bytes) (drop (length (words_of bytes)) w) (length bytes / 4) (length_words bytes)

  module _ (c : Chip) (a : List ℕ) (places : length bytes / 4 ≤ length a) where
    fits : length (words_of bytes) ≤ length a
    fits = omega (arith, length_words bytes)

    pub chip_after_lem : (advance_all c (take (length bytes / 4) held) a).chip ≡ advanced c (words_of bytes)
    chip_after_lem = rw (words_read, le-ltb _ _ fits) refl

    module _ (given : List ℕ) (p : given ≡ advance_all_answers c (take (length bytes / 4) held) a) where
      after : given ≡ advanced_answers c (words_of bytes) ++ drop (length (words_of bytes)) a
      after = p ∙ rw (words_read, le-ltb _ _ fits) refl

      pub answers_length : length given ≡ length a
      answers_length =
          ap length after
          ∙ length-append (advanced_answers c (words_of bytes)) (drop (length (words_of bytes)) a)
          ∙ omega (arith, length_advanced_answers c (words_of bytes), fits, length-drop (length (words_of bytes)) a)

      pub answers_read : take (length bytes / 4) given ≡ advanced_answers c (words_of bytes)
      answers_read =
          ap (take (length bytes / 4)) after
          ∙ take_at (advanced_answers c (words_of bytes)) (drop (length (words_of bytes)) a) (length bytes / 4) (length_advanced_answers c (words_of bytes) ∙ length_words bytes)
