-- The calls of `firmware_event_list::next_event` with which the program `firmware` reads a list, by their contract: on each block of the file while bytes
-- are left, and at the end of the file on a newline. The program makes no more of them behind a malformed line, or once no instruction follows.
use Rattle.std.specs.Prelude.{ℕ, zero, suc, List, [], ◌∷◌, ◌++◌, ltb, length, drop}
use Rattle.bits.specs.Byte.{pick}
use Rattle.firmware_event_lines.specs.declared.Reader.{Reader}
use Rattle.firmware_event_lines.specs.Lines.{Meaning, line_start}
use Rattle.firmware_event_list.specs.Lists.{found_on}
use Rattle.firmware_event_laws.specs.Tokens.{listed}

-- what calls found, in order, and the reader that the last one left
pub record Calls : Type 0 where
  pub found : List Meaning
  pub reader : Reader

abbrev pub calls : List Meaning → Reader → Calls
calls ms r = record { found = ms; reader = r }

-- a call before others
abbrev pub before : Meaning → Calls → Calls
before m c = calls (listed m c.found) c.reader

-- on a block from place i on: a call begins where the one before it ended, with the reader that it left. n only bounds the recursion: each call
-- reads a byte or more
unfoldable pub calls_from : ℕ → Reader → ℕ → List ℕ → Calls
calls_from zero r i block = calls [] r
calls_from (suc n) r i block =
    let f = found_on r i (drop i block) in
    pick (ltb i (length block)) (before f.meaning (calls_from n f.reader f.at block)) (calls [] r)

-- on the blocks of a file, one after the other
unfoldable pub calls_on : Reader → List (List ℕ) → List Meaning
calls_on r [] = (calls_from 1 r 0 (10 ∷ [])).found
calls_on r (block ∷ blocks) =
    let c = calls_from (length block) r 0 block in
    c.found ++ calls_on c.reader blocks

abbrev pub found_in : List (List ℕ) → List Meaning
found_in blocks = calls_on line_start blocks
