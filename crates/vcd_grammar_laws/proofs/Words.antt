-- The tokens of a text are the words that it spells: `spelled`.
-- Assumes nothing.
use mathlib.Core.Bool.{Bool, true, false}
use mathlib.Core.Path.{◌≡◌, refl, ap, ◌∙◌}
use mathlib.Core.List.{List, [], ◌∷◌, ◌++◌, append-nil}
use Prim.Native.Nat.{ℕ, zero, suc, ◌+◌}
use native.Mathlib.Omega.{arith}
use lib.ListN.{length, take}
use lib.Seq.{take-append_seam}
use Rattle.bits.specs.Byte.{pick}
use Rattle.vcd_text.specs.Token.{white, word_length, Token, tokens}
use Rattle.vcd_grammar_laws.specs.Words.{NonWhite, no_byte, more, WordEnds, at_end_lem, at_white, Spells, no_text, white_byte, word, bytes_of}

ends_word : (rest : List ℕ) → WordEnds rest → word_length rest ≡ 0
unfolding word_length
ends_word [] at_end_lem = refl
ends_word (b ∷ rest) (at_white w) = simp w

word_to : (bs rest : List ℕ) → NonWhite bs → WordEnds rest → word_length (bs ++ rest) ≡ length bs
unfolding word_length
word_to [] rest no_byte a = ends_word rest a
word_to (b ∷ bs) rest (more v s) a = simp (v, word_to bs rest s a)

ends_token : (rest : List ℕ) (q : ℕ) → WordEnds rest → tokens true q rest ≡ tokens false q rest
unfolding tokens
ends_token [] q at_end_lem = refl
ends_token (b ∷ rest) q (at_white w) = simp w

tokens_past : (bs rest : List ℕ) (q : ℕ) → NonWhite bs → WordEnds rest → tokens true q (bs ++ rest) ≡ tokens false (q + length bs) rest
unfolding tokens
tokens_past [] rest q no_byte a = let z : q + 0 ≡ q = omega arith in rw z (ends_token rest q a)
tokens_past (b ∷ bs) rest q (more v s) a =
    let z : q + suc (length bs) ≡ suc q + length bs = omega arith in
    simp (v, z) (tokens_past bs rest (suc q) s a)

pub token_first : (b : ℕ) (bs rest : List ℕ) (p : ℕ) → NonWhite (b ∷ bs) → WordEnds rest
    → tokens false p ((b ∷ bs) ++ rest) ≡ record { place = p; bytes = b ∷ bs } ∷ tokens false (suc p + length bs) rest
unfolding tokens
token_first b bs rest p (more v s) a = simp (v, word_to bs rest s a, take-append_seam bs rest, tokens_past bs rest (suc p) s a)

pub skip : (b : ℕ) (text : List ℕ) (p : ℕ) → white b ≡ true → tokens false p (b ∷ text) ≡ tokens false (suc p) text
unfolding tokens
skip b text p w = simp w

pub spelled : {text : List ℕ} {ws : List (List ℕ)} → Spells text ws → (p : ℕ) → bytes_of (tokens false p text) ≡ ws
unfolding bytes_of
spelled no_text p = unfold tokens in refl
spelled (white_byte {b} {text} w s) p = rw (skip b text p w) (spelled s (suc p))
spelled (word {b} {bs} {rest} s a e r) p = rw (e, token_first b bs rest p s a) (ap (λ (l : List (List ℕ)). (b ∷ bs) ∷ l) (spelled r (suc p + length bs)))

-- ---- every text spells its tokens

record Within (text : List ℕ) (p : ℕ) : Type 0 where
  bs : List ℕ
  rest : List ℕ
  non_white : NonWhite bs
  ends : WordEnds rest
  split : text ≡ bs ++ rest
  word : bs ≡ take (word_length text) text
  spells : Spells rest (bytes_of (tokens true p text))

record SpellsBoth (text : List ℕ) (p : ℕ) : Type 0 where
  whole : Spells text (bytes_of (tokens false p text))
  within : Within text p

spells_both_by : (w : Bool) (b : ℕ) (t : List ℕ) (p : ℕ) → white b ≡ w → SpellsBoth t (suc p) → SpellsBoth (b ∷ t) p
unfolding tokens word_length bytes_of
spells_both_by true b t p e x =
    let v : Spells (b ∷ t) (bytes_of (tokens false (suc p) t)) = white_byte e x.whole in
    record {
      whole = rw e v;
      within = record { bs = []; rest = b ∷ t; non_white = no_byte; ends = at_white e; split = refl; word = rw e refl; spells = rw e v };
    }
spells_both_by false b t p e x =
    let y = x.within in
    record {
      whole = rw (e, ← y.word) (word (more e y.non_white) y.ends (ap (λ (l : List ℕ). b ∷ l) y.split) y.spells);
      within = record {
        bs = b ∷ y.bs;
        rest = y.rest;
        non_white = more e y.non_white;
        ends = y.ends;
        split = ap (λ (l : List ℕ). b ∷ l) y.split;
        word = rw e (ap (λ (l : List ℕ). b ∷ l) y.word);
        spells = rw e y.spells;
      };
    }

spells_both : (text : List ℕ) (p : ℕ) → SpellsBoth text p
spells_both [] p = unfold tokens word_length bytes_of in record { whole = no_text; within = record { bs = []; rest = []; non_white = no_byte; ends = at_end_lem; split = refl; word = refl; spells = no_text } }
spells_both (b ∷ t) p = spells_both_by (white b) b t p refl (spells_both t (suc p))

pub spells_all : (text : List ℕ) (p : ℕ) → Spells text (bytes_of (tokens false p text))
spells_all text p = (spells_both text p).whole
