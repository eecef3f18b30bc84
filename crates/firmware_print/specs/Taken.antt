-- What the instructions before an item of a list, and the item, leave of a run and of RAM. Whether lines are printed comes from outside and is
-- free; all else is what the functions of a run come to.
use Rattle.std.specs.Prelude.{ℕ, ◌+◌, ◌-◌, ◌<◌, ◌≤◌, ◌≡◌, min, Bool, true, false, ◌&&◌, List, Option, None, Some, eqb}
use Rattle.firmware_event_lines.specs.declared.Event.{Event}
use Rattle.firmware_trace.specs.declared.Run.{Run}
use Rattle.firmware_trace.specs.Trace.{goes_on, ran_on, ram_on, given_to}
use Rattle.firmware_print.specs.declared.Asked.{Asked}
use Rattle.firmware_print.specs.Marked.{marked}

-- ---- instructions with no event between

-- another one follows: none was refused, and all is printed
abbrev pub is_followed : ℕ → Bool → Bool
is_followed number printed = eqb number 0 && printed

-- i of them one by one, each with its lines: from the second on each follows one that was neither refused nor left unprinted
pub data Traced (rom : List ℕ) (start : Run) (ram : List ℕ) : ℕ → Run → List ℕ → Type 0 where
  begun : Traced rom start ram 0 start ram
  done : (i : ℕ) (r : Run) (m : List ℕ) (printed : Bool) → Traced rom start ram i r m → (0 < i → is_followed r.number r.printed ≡ true)
      → Traced rom start ram (i + 1) (marked (ran_on rom m r 1) printed) (ram_on rom m r 1)

-- n of them with their lines, or fewer where one is refused or left unprinted
pub record TracedTo (rom : List ℕ) (n : ℕ) (start : Run) (ram : List ℕ) (r : Run) (left : List ℕ) : Type 0 where
  pub count : ℕ
  pub traced : Traced rom start ram count r left
  pub most : count ≤ n
  pub all : count < n → is_followed r.number r.printed ≡ false

-- with a trace and without
abbrev pub Advanced : List ℕ → Bool → ℕ → Run → List ℕ → Run → List ℕ → Type 0
Advanced rom true n run ram r left = TracedTo rom n run ram r left
Advanced rom false n run ram r left = (r ≡ ran_on rom ram run n) × (left ≡ ram_on rom ram run n)

-- where another instruction may follow, those up to number `to`; else nothing is done
abbrev pub ProceededBy : Bool → List ℕ → Bool → ℕ → Run → List ℕ → Run → List ℕ → Type 0
ProceededBy true rom traced n run ram r left = Advanced rom traced n run ram r left
ProceededBy false rom traced n run ram r left = (r ≡ run) × (left ≡ ram)

abbrev pub Proceeded : List ℕ → Bool → ℕ → Run → List ℕ → Run → List ℕ → Type 0
Proceeded rom traced to run ram r left = ProceededBy (goes_on run.number run.printed run.next to) rom traced (to - run.next) run ram r left

-- ---- an item

-- the number of the instruction that it comes before; every instruction comes before the end
abbrev pub number_before : Option Event → ℕ
number_before (Some e) = e.number
number_before None = 4294967295

-- an event is given where another instruction may follow
abbrev pub GivenBy : Bool → List ℕ → Run → ℕ → Run → Type 0
GivenBy true rom run w r = r ≡ marked (given_to rom run w) r.printed
GivenBy false rom run w r = r ≡ run

-- at the end the last line is printed
abbrev pub ItemTaken : List ℕ → ℕ → Option Event → Run → Run → Type 0
ItemTaken rom count (Some e) run r = GivenBy (goes_on run.number run.printed run.next count) rom run e.word r
ItemTaken rom count None run r = r ≡ marked run r.printed

-- the instructions before the item leave `before` and RAM; then the item is taken
pub record Taken (rom : List ℕ) (asked : Asked) (item : Option Event) (run : Run) (ram : List ℕ) (r : Run) (left : List ℕ) : Type 0 where
  pub before : Run
  pub proceeded : Proceeded rom asked.traced (min asked.count (number_before item)) run ram before left
  pub taken : ItemTaken rom asked.count item before r
