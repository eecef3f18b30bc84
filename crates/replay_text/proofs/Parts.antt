-- A stream that comes in parts: what a part gives, and that the text of the parts is that of the stream.
-- Assumes nothing.
use mathlib.Core.Path.{◌≡◌, refl, sym, ap, ap₂, ◌∙◌}
use mathlib.Core.Bool.{Bool, true, false}
use mathlib.Core.List.{List, [], ◌∷◌, ◌++◌, append-nil, append_assoc}
use Prim.Native.Nat.{ℕ, ◌-◌, ◌*◌, ◌/◌, ◌%◌, ◌<◌, ◌≤◌}
use native.Mathlib.Omega.{arith}
use borrow.Author.Tests.{lt-ltb, le-ltb}
use lib.Dec.{ltb}
use lib.ListN.{length, take, drop, length-append, length-drop, take-append-drop}
use lib.Seq.{length-take-le}
use Rattle.bits.specs.Byte.{pick}
use Rattle.chip.specs.declared.Chip.{Chip}
use Rattle.list_call.specs.Run.{advanced, advanced_answers}
use Rattle.replay_text.specs.declared.Part.{Part}
use Rattle.recording_blocks.specs.Bytes.{words_of}
use Rattle.replay_text.specs.Text.{hex_lines, words_text, replay_text, cut_word, parts_text, joined, part_answered, part_text, part_bytes}
use Rattle.replay_text.proofs.Words.{words_append}
use Rattle.replay_text.proofs.Stream.{length_answered, text_whole, blocks}

abbrev part : Chip → ℕ → ℕ → Part
part c n k = record { chip = c; count = n; carried = k }

-- ---- what a part gives

module _ (c : Chip) (bytes old : List ℕ) where
  length_cut : length (cut_word bytes) ≡ length bytes % 4
  length_cut = length-drop (4 * (length bytes / 4)) bytes ∙ omega arith

  -- too few places
  pub part_short : length old / 9 < length bytes / 4
      → (part c 0 (length bytes) ≡ part_answered c bytes old) × ((bytes ≡ part_bytes c bytes old) × (old ≡ part_text c bytes old))
  unfolding part_answered part_bytes part_text
  part_short h =
      let short : length old < length (words_text c bytes) = omega (arith, length_answered c bytes) in
      simp (lt-ltb _ _ short) (refl, (refl, refl))

  -- places enough
  module _ (fits : length bytes / 4 ≤ length old / 9) (s : Chip) (now kept : List ℕ)
      (e : (s ≡ advanced c (words_of bytes)) × (now ≡ hex_lines (advanced_answers c (words_of bytes)) ++ drop (9 * (length bytes / 4)) old))
      (k : kept ≡ drop (4 * (length bytes / 4)) bytes ++ drop (length bytes - 4 * (length bytes / 4)) bytes) where
    length_kept : length kept ≡ length bytes
    length_kept =
        ap length k
        ∙ length-append (cut_word bytes) (drop (length bytes - 4 * (length bytes / 4)) bytes)
        ∙ omega (arith, length_cut, length-drop (length bytes - 4 * (length bytes / 4)) bytes)

    pub part_fits : (part s (9 * (length bytes / 4)) (length kept % 4) ≡ part_answered c bytes old)
        × ((kept ≡ part_bytes c bytes old) × (now ≡ part_text c bytes old))
    unfolding part_answered part_bytes part_text
    part_fits =
        let room : length (words_text c bytes) ≤ length old = omega (arith, length_answered c bytes) in
        let count : 9 * (length bytes / 4) ≡ length (words_text c bytes) = omega (arith, length_answered c bytes) in
        let carried : length kept % 4 ≡ length (cut_word bytes) = ap (λ (n : ℕ). n % 4) length_kept ∙ sym length_cut in
        let rest : length bytes - 4 * (length bytes / 4) ≡ length (cut_word bytes) = omega (arith, length_cut) in
        simp (le-ltb _ _ room) (
          ap₂ (λ (d : Chip) (n : ℕ). part d n (length kept % 4)) e.0 count ∙ ap (part (advanced c (words_of bytes)) (length (words_text c bytes))) carried,
          (
            k ∙ ap (λ (n : ℕ). cut_word bytes ++ drop n bytes) rest,
            e.1 ∙ ap (λ (n : ℕ). words_text c bytes ++ drop n old) count,
          ),
        )

-- ---- the text of the parts

-- the bytes of the whole words
abbrev whole_words : List ℕ → List ℕ
whole_words bytes = take (4 * (length bytes / 4)) bytes

length_whole : (xs : List ℕ) → length (whole_words xs) ≡ 4 * (length xs / 4)
length_whole xs = length-take-le (4 * (length xs / 4)) xs (omega arith)

-- bytes of no whole word
no_words : (xs : List ℕ) → length xs < 4 → words_of xs ≡ []
unfolding words_of
no_words [] h = refl
no_words (a ∷ []) h = refl
no_words (a ∷ b ∷ []) h = refl
no_words (a ∷ b ∷ c ∷ []) h = refl
no_words (a ∷ b ∷ c ∷ d ∷ rest) h = absurd (omega arith)

-- a cut word adds none
words_whole : (xs : List ℕ) → words_of (whole_words xs) ≡ words_of xs
words_whole xs =
    sym (append-nil (words_of (whole_words xs)))
    ∙ ap (λ (ws : List ℕ). words_of (whole_words xs) ++ ws) (sym (no_words (cut_word xs) (omega (arith, length-drop (4 * (length xs / 4)) xs))))
    ∙ sym (words_append (whole_words xs) (cut_word xs) (omega (arith, length_whole xs)))
    ∙ ap words_of (take-append-drop (4 * (length xs / 4)) xs)

-- what has come and what is to come: the whole words of the first, then the cut word with the rest
pub parted : (c : Chip) (xs ys : List ℕ) → replay_text c (xs ++ ys) ≡ words_text c xs ++ replay_text (advanced c (words_of xs)) (cut_word xs ++ ys)
parted c xs ys =
    let whole : length (whole_words xs) % 4 ≡ 0 = omega (arith, length_whole xs) in
    ap (λ (l : List ℕ). replay_text c (l ++ ys)) (sym (take-append-drop (4 * (length xs / 4)) xs))
    ∙ ap (replay_text c) (append_assoc (whole_words xs) (cut_word xs) ys)
    ∙ blocks c (whole_words xs) (cut_word xs ++ ys) whole
    ∙ ap (λ (t : List ℕ). t ++ replay_text (advanced c (words_of (whole_words xs))) (cut_word xs ++ ys)) (text_whole c (whole_words xs) whole)
    ∙ ap (λ (ws : List ℕ). hex_lines (advanced_answers c ws) ++ replay_text (advanced c ws) (cut_word xs ++ ys)) (words_whole xs)

-- however a stream is cut into parts, their text is that of the stream
pub parts_carried : (c : Chip) (carried : List ℕ) (parts : List (List ℕ)) → parts_text c carried parts ≡ replay_text c (carried ++ joined parts)
unfolding parts_text joined
parts_carried c carried [] = ap (replay_text c) (sym (append-nil carried))
parts_carried c carried (p ∷ rest) =
    let come = carried ++ p in
    ap (λ (t : List ℕ). words_text c come ++ t) (parts_carried (advanced c (words_of come)) (cut_word come) rest)
    ∙ sym (parted c come (joined rest))
    ∙ ap (replay_text c) (append_assoc carried p (joined rest))

pub in_parts : (c : Chip) (parts : List (List ℕ)) → parts_text c [] parts ≡ replay_text c (joined parts)
in_parts c parts = parts_carried c [] parts

-- ---- what a program that lends a buffer needs

-- the text written is within its places, and the bytes carried over are within theirs
within_of : (c d : Chip) (text old bytes : List ℕ) (k : ℕ) (short : Bool) → k ≤ length bytes
    → ((pick short (part c 0 (length bytes)) (part d (length text) k)).count ≤ length (pick short old (text ++ drop (length text) old)))
    × ((pick short (part c 0 (length bytes)) (part d (length text) k)).carried ≤ length bytes)
within_of c d text old bytes k true h = (omega arith, omega arith)
within_of c d text old bytes k false h = (omega (arith, length-append text (drop (length text) old)), h)

pub part_within : (c : Chip) (bytes old new : List ℕ) (r : Part) → r ≡ part_answered c bytes old → new ≡ part_text c bytes old
    → (r.count ≤ length new) × (r.carried ≤ length bytes)
unfolding part_answered part_text
part_within c bytes old new r p q =
    rw (p, q) (within_of c (advanced c (words_of bytes)) (words_text c bytes) old bytes (length (cut_word bytes))
    (ltb (length old) (length (words_text c bytes))) (omega (arith, length-drop (4 * (length bytes / 4)) bytes)))
