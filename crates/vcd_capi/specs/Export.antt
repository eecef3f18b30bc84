-- What the exported calls give back (Wish 10): the number, and the content of the areas that the caller lends.
use Rattle.std.specs.Prelude.{ℕ, Bool, true, false, List, [], ◌∷◌, length, get_or, eqb}
use Rattle.bits.specs.Byte.{pick, num}
use Rattle.vcd_steps.specs.declared.Mode.{Mode}
use Rattle.vcd_steps.specs.declared.Mode.TheVariants.{Plain, Code, Comment}
use Rattle.vcd_body.specs.declared.Cursor.{Cursor}
use Rattle.vcd_body.specs.Pieces.{Answer, start}
use Rattle.vcd.specs.Call.{call_of}

pub record Exported : Type 0 where
  pub number : ℕ
  pub words : List ℕ
  pub told : List ℕ

abbrev pub exported : ℕ → List ℕ → List ℕ → Exported
exported number words told = record { number = number; words = words; told = told }

-- told: how many words were written, and the place of the refusal
abbrev pub told_of : Answer → Exported
told_of a = exported a.piece.number a.room (a.piece.count ∷ a.piece.place ∷ [])

-- 15 where told has not two places, before all else, nothing being touched
unfoldable pub vcd_of : List ℕ → List ℕ → List ℕ → Exported
vcd_of file words told = pick (eqb (length told) 2) (told_of (call_of file start words)) (exported 15 words told)

-- ---- the call that goes on

-- a cursor as eight numbers: place, words done, and the reader's state
unfoldable pub mode_number : Mode → ℕ
mode_number Plain = 0
mode_number Code = 1
mode_number Comment = 2

unfoldable pub mode_of : ℕ → Mode
mode_of n = pick (eqb n 0) Plain (pick (eqb n 1) Code Comment)

unfoldable pub flag_of : ℕ → Bool
flag_of n = pick (eqb n 0) false true

unfoldable pub cursor_of : List ℕ → Cursor
cursor_of l = record {
  at = get_or l 0 0;
  done = get_or l 1 0;
  state = record { mark = get_or l 2 0; opened = get_or l 3 0; time = get_or l 4 0; clocks = get_or l 5 0; mode = mode_of (get_or l 6 0); inside = flag_of (get_or l 7 0) };
}

unfoldable pub cursor_numbers : Cursor → List ℕ
cursor_numbers c =
    c.at ∷ c.done ∷ c.state.mark ∷ c.state.opened ∷ c.state.time ∷ c.state.clocks ∷ mode_number c.state.mode ∷ num c.state.inside ∷ []

pub record Continued : Type 0 where
  pub number : ℕ
  pub words : List ℕ
  pub cursor : List ℕ
  pub told : List ℕ

abbrev pub continued : ℕ → List ℕ → List ℕ → List ℕ → Continued
continued number words cursor told = record { number = number; words = words; cursor = cursor; told = told }

abbrev pub next_of : Answer → Continued
next_of a = continued a.piece.number a.room (cursor_numbers a.piece.next) (a.piece.count ∷ a.piece.place ∷ [])

-- 15 where the cursor has not eight places or told not two
unfoldable pub more_of : List ℕ → List ℕ → List ℕ → List ℕ → Continued
more_of file words cursor told =
    pick (eqb (length cursor) 8) (pick (eqb (length told) 2) (next_of (call_of file (cursor_of cursor) words)) (continued 15 words cursor told)) (continued 15 words cursor told)
