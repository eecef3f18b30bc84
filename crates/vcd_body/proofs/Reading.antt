-- The tokens of the body one after the other.
-- Assumes nothing.
use mathlib.Core.Bool.{false}
use mathlib.Core.Path.{◌≡◌, refl, sym, ◌∙◌}
use mathlib.Core.List.{List}
use Prim.Native.Nat.{ℕ, ◌+◌, ◌-◌, ◌<◌, ◌≤◌}
use lib.ListN.{length, take, drop, drop_of_length-le}
use Rattle.vcd_text.specs.Token.{tokens, white_length, word_length}
use Rattle.vcd_text.proofs.Laws.{no_token_lem, next_token}
use Rattle.vcd_codes.specs.Codes.{Found}
use Rattle.vcd_steps.specs.declared.State.{State}
use Rattle.vcd_steps.specs.Steps.{Effect, ends_as}
use Rattle.vcd_body.specs.declared.Turn.{Turn}
use Rattle.vcd_body.specs.declared.Turn.TheVariants.{Stop, Full, On}
use Rattle.vcd_body.specs.Trace.{token_as}
use Rattle.vcd_body.specs.Pieces.{answer, closed, paused, turned, placed, goes_on, pieces}

module _ (find : List ℕ → Found) (scale : ℕ) (text : List ℕ) where
  -- the next token is read
  module _ (i p e : ℕ) (from : p ≡ i + white_length (drop i text)) (to : e ≡ p + word_length (drop p text)) (h : p < length text)
      (s : State) (done count : ℕ) (room after : List ℕ) (effect : Effect) (turn : Turn)
      (m : effect ≡ token_as find scale s.mode s (take (e - p) (drop p text)) p) (q : turned after turn ≡ placed effect done count room) where
    turned_so : pieces find scale s done count room (tokens false i (drop i text))
        ≡ goes_on turn after count s p (λ (next : State) (n : ℕ) (l : List ℕ). pieces find scale next 0 n l (tokens false e (drop e text)))
    unfolding pieces
    turned_so = rw (next_token text i p from e to h, ← m, ← q) refl

    pub token_stops : (number place : ℕ) → turn ≡ Stop number place
        → answer after (closed count number place) ≡ pieces find scale s done count room (tokens false i (drop i text))
    unfolding goes_on
    token_stops number place t = sym (turned_so ∙ rw t refl)

    pub token_pauses : (n given : ℕ) → turn ≡ Full n given
        → answer after (paused n p given s) ≡ pieces find scale s done count room (tokens false i (drop i text))
    unfolding goes_on
    token_pauses n given t = sym (turned_so ∙ rw t refl)

    pub token_goes_on : (next : State) (n : ℕ) → turn ≡ On next n
        → pieces find scale next 0 n after (tokens false e (drop e text)) ≡ pieces find scale s done count room (tokens false i (drop i text))
    unfolding goes_on
    token_goes_on next n t = sym (turned_so ∙ rw t refl)

  -- no token is left
  module _ (s : State) (done count : ℕ) (room : List ℕ) (i : ℕ) where
    pub none_left : (p : ℕ) → p ≡ i + white_length (drop i text) → length text ≤ p
        → answer room (closed count (ends_as s.mode s).number (ends_as s.mode s).place) ≡ pieces find scale s done count room (tokens false i (drop i text))
    unfolding pieces
    none_left p from h = rw (no_token_lem text i p from h) refl

    pub all_read : length text ≤ i
        → answer room (closed count (ends_as s.mode s).number (ends_as s.mode s).place) ≡ pieces find scale s done count room (tokens false i (drop i text))
    unfolding pieces tokens
    all_read h = rw (drop_of_length-le text {i = i} h) refl
