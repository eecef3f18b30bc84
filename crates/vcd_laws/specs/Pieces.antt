-- Words in pieces (Wish 10): a file turned into words in one room after the other.
use Rattle.std.specs.Prelude.{ℕ, ◌+◌, List, [], ◌∷◌, ◌++◌, take, drop, eqb}
use Rattle.bits.specs.Byte.{pick}
use Rattle.vcd_body.specs.declared.Cursor.{Cursor}
use Rattle.vcd_body.specs.Trace.{Trace}
use Rattle.vcd_body.specs.Pieces.{Answer}
use Rattle.vcd.specs.Call.{call_of}
use Rattle.vcd_laws.specs.Giving.{Told, told, told_by}

-- a trace without its first k events
abbrev pub without : ℕ → Trace → Trace
without k t = record { events = drop k t.events; number = t.number; place = t.place }

-- two pieces: the places of the second stand after those of the first, and it tells how both end
abbrev pub joined : Told → Told → Told
joined a b = told (a.room ++ b.room) (a.count + b.count) b.number b.place

-- rooms one after the other
unfoldable pub together : List (List ℕ) → List ℕ
together [] = []
together (room ∷ rest) = room ++ together rest

-- a file from a cursor on: after 43 the next call goes on from the cursor told, in the next room; after any other end there is
-- no further call, and the rooms left keep their content
unfoldable pub in_pieces : List ℕ → Cursor → List ℕ → List (List ℕ) → Told
in_pieces text from room [] = told_by (call_of text from room)
in_pieces text from room (next ∷ rest) =
    pick (eqb (call_of text from room).piece.number 43)
    (joined (told_by (call_of text from room)) (in_pieces text (call_of text from room).piece.next next rest))
    (told ((call_of text from room).room ++ together (next ∷ rest)) (call_of text from room).piece.count (call_of text from room).piece.number (call_of text from room).piece.place)

-- the words that a call has written
abbrev pub words_of : Answer → List ℕ
words_of a = take a.piece.count a.room

-- the words that come out when each room's words are taken before the next call
unfoldable pub words_in_pieces : List ℕ → Cursor → List ℕ → List (List ℕ) → List ℕ
words_in_pieces text from room [] = words_of (call_of text from room)
words_in_pieces text from room (next ∷ rest) =
    pick (eqb (call_of text from room).piece.number 43)
    (words_of (call_of text from room) ++ words_in_pieces text (call_of text from room).piece.next next rest)
    (words_of (call_of text from room))
