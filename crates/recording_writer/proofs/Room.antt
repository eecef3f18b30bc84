-- The room of a reader of words: fewer places than words, or enough.
-- Assumes nothing.
use Prim.Native.Nat.{ℕ, ◌/◌, ◌≤◌, ◌<◌}
use mathlib.Core.Path.{◌≡◌, refl, ap₂, ◌∙◌}
use native.Mathlib.Omega.{arith}
use mathlib.Core.List.{List, ◌++◌}
use lib.ListN.{length, take, drop}
use lib.Seq.{take_all}
use Rattle.recording_blocks.proofs.Words.{length_words}
use borrow.Author.Tests.{lt-ltb, le-ltb}
use Rattle.recording_blocks.specs.Bytes.{words_of}
use Rattle.recording_writer.specs.Written.{words_given, words_put}

module _ (bytes places : List ℕ) where
  pub too_few : length places < length bytes / 4 → (0 ≡ words_given bytes places) × (places ≡ words_put bytes places)
  unfolding words_given words_put
  too_few h = simp (lt-ltb _ _ h) (refl, refl)

  pub enough : (after : List ℕ) → length bytes / 4 ≤ length places → after ≡ take (length places) (words_of bytes) ++ drop (length (words_of bytes)) places
      → (length bytes / 4 ≡ words_given bytes places) × (after ≡ words_put bytes places)
  unfolding words_given words_put
  enough after h e =
      let all = ap₂ (λ (l : List ℕ) (n : ℕ). l ++ drop n places) (take_all (length places) (words_of bytes) (omega (arith, length_words bytes))) (length_words bytes) in
      simp (le-ltb _ _ h) (refl, e ∙ all)
