-- The tokens of the header one after the other.
-- Assumes nothing.
use mathlib.Core.Bool.{true, false}
use mathlib.Core.Path.{◌≡◌, refl}
use mathlib.Core.List.{List}
use Prim.Native.Nat.{ℕ, ◌+◌, ◌-◌, ◌<◌, ◌≤◌}
use native.Mathlib.Omega.{arith}
use lib.ListN.{length, take, drop, length-take, length-drop, drop_of_length-le}
use Rattle.vcd_text.specs.Token.{tokens, white_length, word_length}
use Rattle.vcd_text.proofs.Laws.{no_token_lem, next_token, word_some, word_within}
use Rattle.vcd_codes.specs.Codes.{variables}
use Rattle.vcd_header.specs.declared.Head.{Head}
use Rattle.vcd_header.specs.Header.{step_as, end_as, fresh_head}
use Rattle.vcd.specs.Header.{Heading, heading, settled, header, header_of}

module _ (text : List ℕ) where
  -- a token ends where its bytes end
  module _ (i p e : ℕ) (from : p ≡ i + white_length (drop i text)) (to : e ≡ p + word_length (drop p text)) (h : p < length text) where
    token_to : p + length (take (e - p) (drop p text)) ≡ e
    token_to = simp (length-take, length-drop) (omega (arith, word_some text i p from e to h, word_within text p e to (omega arith)))

    -- the next token is read
    module _ (g n : Heading) (q : n ≡ settled text (heading (step_as g.head.section (take (e - p) (drop p text)) g.head p e) g.variables)) where
      pub head_more : n.head.close.stop ≡ false → header text n (tokens false e (drop e text)) ≡ header text g (tokens false i (drop i text))
      unfolding header
      head_more s = rw (next_token text i p from e to h, token_to, ← q) (simp s)

      pub head_stop : n.head.close.stop ≡ true → n ≡ header text g (tokens false i (drop i text))
      unfolding header
      head_stop s = rw (next_token text i p from e to h, token_to, ← q) (simp s)

  -- no token is left
  pub head_none : (g : Heading) (i p : ℕ) → p ≡ i + white_length (drop i text) → length text ≤ p
      → heading (end_as g.head.section g.head (length text)) g.variables ≡ header text g (tokens false i (drop i text))
  unfolding header
  head_none g i p from h = rw (no_token_lem text i p from h) refl

  pub head_all : (g : Heading) (i : ℕ) → length text ≤ i
      → heading (end_as g.head.section g.head (length text)) g.variables ≡ header text g (tokens false i (drop i text))
  unfolding header tokens
  head_all g i h = rw (drop_of_length-le text {i = i} h) refl

  -- before the first token no variable is declared
  pub fresh_so : (places pins : List ℕ) (h : Head) → h ≡ fresh_head
      → header text (heading h (variables text places pins 0 h.entries)) (tokens false 0 (drop 0 text)) ≡ header_of text
  unfolding header_of variables
  fresh_so places pins h e = rw e refl
