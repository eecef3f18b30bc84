-- What is read of tokens that were written.
use Rattle.std.specs.Prelude.{ℕ, zero, suc, ◌+◌, ◌*◌, ◌/◌, ◌%◌, List, [], ◌∷◌, eqb}
use Rattle.bits.specs.Byte.{pick}
use Rattle.line_tokens.specs.Scan.{fold}
use Rattle.event_text_read.specs.declared.Event.{Event}
use Rattle.event_text_read.specs.Event.{next}

-- a token of n bytes at most without its letter case
unfoldable pub upper : ℕ → ℕ → ℕ
upper zero v = 0
upper (suc n) v = pick (eqb v 0) 0 (upper n (v / 256) * 256 + fold (v % 256))

-- a token before others, if there is one
unfoldable pub valued : ℕ → List ℕ → List ℕ
valued v rest = pick (eqb v 0) rest (v ∷ rest)

-- the numbers of tokens as they are read, without those that are 0
unfoldable pub shown : List ℕ → List ℕ
shown [] = []
shown (v ∷ rest) = valued (upper 8 v) (shown rest)

-- what the numbers of tokens come to, without their places
unfoldable pub meaning : Event → List ℕ → Event
meaning e [] = e
meaning e (v ∷ rest) = meaning (next 0 e v) rest
