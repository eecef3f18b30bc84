-- Tokens written as a line into a lent buffer.
use Rattle.std.specs.Prelude.{ℕ, ◌+◌, List, ◌++◌, ◌≡◌, ltb, length, take, drop}
use Rattle.bits.specs.Byte.{pick}
use Rattle.line_tokens.specs.Written.{line_of}

-- a part that was put into a buffer at a place, where it ends, and the buffer then
pub record Put (old : List ℕ) (at : ℕ) (part : List ℕ) (end : ℕ) (new : List ℕ) : Type 0 where
  pub ends : end ≡ at + length part
  pub stands : new ≡ take at old ++ (part ++ drop (at + length part) old)

-- the length of a text that is written; 0 where the buffer is too short for it
unfoldable pub size : List ℕ → List ℕ → ℕ
size text buffer = pick (ltb (length buffer) (length text)) 0 (length text)

-- the buffer then: the text and, past it, what was there; nothing is written where it is too short
unfoldable pub content : List ℕ → List ℕ → List ℕ
content text buffer = pick (ltb (length buffer) (length text)) buffer (text ++ drop (length text) buffer)

-- at most sixteen tokens make a line
unfoldable pub line_size : List ℕ → List ℕ → ℕ
line_size tokens buffer = pick (ltb 16 (length tokens)) 0 (size (line_of tokens) buffer)

unfoldable pub line_content : List ℕ → List ℕ → List ℕ
line_content tokens buffer = pick (ltb 16 (length tokens)) buffer (content (line_of tokens) buffer)
