-- `replay_text::answer_part` meets its contract.
-- Assumes nothing.
use mathlib.Core.Path.{◌≡◌, ap₂, ◌∙◌}
use mathlib.Core.List.{List, ◌++◌}
use Prim.Native.Nat.{ℕ, ◌+◌, ◌-◌, ◌*◌, ◌/◌}
use lib.ListN.{length, take, drop}
use Rattle.list_laws.proofs.Place.{tail_all}
use native.Mathlib.Omega.{arith}
use Rattle.replay_text.proofs.Parts.{part_short, part_fits}
use Rattle.replay_text.proofs.answer_part.Goals as goal

-- the bytes from an index on, copied to the start
carried : (bytes : List ℕ) (from n : ℕ) → from ≡ n → take (length bytes - from) (drop from bytes) ++ drop (0 + (length bytes - from)) bytes ≡ drop n bytes ++ drop (length bytes - n) bytes
carried bytes from n e = rw (← e) (ap₂ (λ (l : List ℕ) (n : ℕ). l ++ drop n bytes) (tail_all bytes from) (omega arith))

pub returns-then-text-whole : goal.returns-then-text-whole
returns-then-text-whole c = part_short _ _ _ c.if-text-whole.true

pub returns : goal.returns
returns c =
    part_fits _ _ _ c.if-text-whole.false _ _ _ c.answer_words-c.ensures (c.copy_within.ensures.after ∙ carried c.args.bytes.now _ _ c.whole_end.ensures)
