-- What each token of the body does (IEEE 1364, 18.2.3; Wish 10): it is refused, or it moves the reader and brings events.
use Rattle.vcd_text.specs.declared.NumberError.TheVariants.{Bad, Big}
use Rattle.std.specs.Prelude.{Ok, Err}
use Rattle.vcd_text.specs.Token.{Number}
use Rattle.std.specs.Prelude.{ℕ, ◌-◌, ◌*◌, Bool, true, false, List, [], eqb, ltb}
use Rattle.bits.specs.Byte.{pick}
use Rattle.vcd_output.specs.Room.{unpacked}
use Rattle.vcd_codes.specs.Codes.{Found, undeclared, declared}
use Rattle.vcd_items.specs.declared.Item.{Item}
use Rattle.vcd_items.specs.declared.Item.TheVariants as item
use Rattle.vcd_steps.specs.declared.Mode.{Mode}
use Rattle.vcd_steps.specs.declared.Mode.TheVariants.{Plain, Code, Comment}
use Rattle.vcd_steps.specs.declared.State.{State}
use Rattle.vcd_steps.specs.declared.Step.{Step}
use Rattle.vcd_steps.specs.declared.Step.TheVariants.{Refused, Silent, Timed, Changed}
use Rattle.vcd_steps.specs.declared.Ending.{Ending}
use Rattle.vcd_steps.specs.Events.{Event, clocks_by, clock_events, pin_events}

-- what a token does: it is refused with a number at a place; or the reader goes on and there are events
pub data Effect : Type 0 where
  refuse : ℕ → ℕ → Effect
  proceed : State → List Event → Effect

-- ---- the reader's state with some parts changed

abbrev pub at_mode : State → Mode → ℕ → State
at_mode s mode mark = record { mark = mark; opened = s.opened; time = s.time; clocks = s.clocks; mode = mode; inside = s.inside }

abbrev pub in_dump : State → Bool → ℕ → State
in_dump s inside opened = record { mark = s.mark; opened = opened; time = s.time; clocks = s.clocks; mode = s.mode; inside = inside }

abbrev pub at_time : State → ℕ → ℕ → State
at_time s time clocks = record { mark = s.mark; opened = s.opened; time = time; clocks = clocks; mode = s.mode; inside = s.inside }

-- ---- times

-- 41 for a time that goes back, 44 for one above 64 bits in ps; else the clocks up to and at it come due
unfoldable pub advanced : ℕ → State → ℕ → ℕ → Effect
advanced scale s time p =
    pick (ltb time s.time) (refuse 41 p)
    (pick (ltb (time * scale) 18446744073709551616)
    (proceed (at_time s time (clocks_by time scale)) (clock_events p s.clocks (clocks_by time scale - s.clocks)))
    (refuse 44 p))

-- 40 for a time that is no number; a number above 64 bits is 44 in any unit
unfoldable pub time_as : Number → ℕ → State → ℕ → Effect
time_as (Err Bad) scale s p = refuse 40 p
time_as (Err Big) scale s p = refuse 44 p
time_as (Ok n) scale s p = advanced scale s n p

-- 40 for a time inside a dump, or before a unit is declared
unfoldable pub time_of : Number → ℕ → State → ℕ → Effect
time_of number scale s p = pick s.inside (refuse 40 p) (pick (eqb scale 0) (refuse 40 p) (time_as number scale s p))

-- ---- changes

-- 40 for a code that is not declared; else an event for each pin, at the present time
unfoldable pub change_of : Found → Bool → ℕ → State → ℕ → Effect
change_of undeclared high scale s p = refuse 40 p
change_of (declared pins) high scale s p = proceed s (pin_events p (s.time * scale) high pins)

-- the code of a b or r change: 40 at the change where it is not declared; nothing is written
unfoldable pub code_of : Found → State → Effect
code_of undeclared s = refuse 40 s.mark
code_of (declared pins) s = proceed (at_mode s Plain 0) []

-- ---- keywords

-- a dump within a dump is 40
unfoldable pub dump_of : State → ℕ → Effect
dump_of s p = pick s.inside (refuse 40 p) (proceed (in_dump s true p) [])

-- `$end` ends a dump, and is 40 elsewhere
unfoldable pub end_of : State → ℕ → Effect
end_of s p = pick s.inside (proceed (in_dump s false 0) []) (refuse 40 p)

-- a comment within a dump is 40
unfoldable pub comment_of : State → ℕ → Effect
comment_of s p = pick s.inside (refuse 40 p) (proceed (at_mode s Comment p) [])

-- a token of a comment: `$end` ends it
unfoldable pub commented : Bool → State → Effect
commented true s = proceed (at_mode s Plain 0) []
commented false s = proceed s []

-- ---- a token that stands by itself

unfoldable pub item_step : Item → Found → ℕ → State → ℕ → Effect
item_step (item.Scalar high) found scale s p = change_of found high scale s p
item_step item.Value found scale s p = proceed (at_mode s Code p) []
item_step (item.Time number) found scale s p = time_of number scale s p
item_step item.Dump found scale s p = dump_of s p
item_step item.End found scale s p = end_of s p
item_step item.Comment found scale s p = comment_of s p
item_step item.Bad found scale s p = refuse 40 p

-- ---- the end of the file

-- 40 for what is cut off, at its keyword or change; number 0 where nothing is
abbrev pub ending : ℕ → ℕ → Ending
ending number place = record { place = place; number = number }

unfoldable pub ends_as : Mode → State → Ending
ends_as Plain s = pick s.inside (ending 40 s.opened) (ending 0 0)
ends_as Code s = ending 40 s.mark
ends_as Comment s = ending 40 s.mark

-- ---- what a step of the reader means, of a token at place p

unfoldable pub meaning : ℕ → ℕ → Step → Effect
meaning scale p (Refused number place) = refuse number place
meaning scale p (Silent s) = proceed s []
meaning scale p (Timed s from) = proceed s (clock_events p from (s.clocks - from))
meaning scale p (Changed s list high) = proceed s (pin_events p (s.time * scale) high (unpacked 4 list))
