-- The trace that the body of a dump is (IEEE 1364, 18.2.3; Wish 10): its events in the file's order, up to the first refusal.
use Rattle.std.specs.Prelude.{ℕ, List, [], ◌∷◌, ◌++◌, drop}
use Rattle.vcd_text.specs.Token.{Token, same_bytes, end_word}
use Rattle.vcd_codes.specs.Codes.{Found}
use Rattle.vcd_items.specs.Items.{item_of}
use Rattle.vcd_steps.specs.declared.Mode.{Mode}
use Rattle.vcd_steps.specs.declared.Mode.TheVariants.{Plain, Code, Comment}
use Rattle.vcd_steps.specs.declared.State.{State}
use Rattle.vcd_steps.specs.Events.{Event}
use Rattle.vcd_steps.specs.Steps.{Effect, refuse, proceed, item_step, code_of, commented, ends_as}

-- the events, and the refusal that ends them with its place; number and place 0 where nothing is refused
pub record Trace : Type 0 where
  pub events : List Event
  pub number : ℕ
  pub place : ℕ

abbrev pub stopped : ℕ → ℕ → Trace
stopped number place = record { events = []; number = number; place = place }

abbrev pub prepended : List Event → Trace → Trace
prepended events t = record { events = events ++ t.events; number = t.number; place = t.place }

-- what follows a token: nothing where it is refused
unfoldable pub carried : Effect → (State → Trace) → Trace
carried (refuse number place) rest = stopped number place
carried (proceed s events) rest = prepended events (rest s)

-- find: what a code stands for; scale: the unit in ps, 0 where none is declared
module _ (find : List ℕ → Found) (scale : ℕ) where
  -- the token by what the reader waits for
  unfoldable pub token_as : Mode → State → List ℕ → ℕ → Effect
  token_as Plain s t p = item_step (item_of t) (find (drop 1 t)) scale s p
  token_as Code s t p = code_of (find t) s
  token_as Comment s t p = commented (same_bytes t end_word) s

  abbrev pub token : State → Token → Effect
  token s t = token_as s.mode s t.bytes t.place

  unfoldable pub body : State → List Token → Trace
  body s [] = stopped (ends_as s.mode s).number (ends_as s.mode s).place
  body s (t ∷ ts) = carried (token s t) (λ (n : State). body n ts)
