-- What a write changes of the registers that are known.
use Rattle.std.specs.Prelude.{ℕ, ◌≡◌, true, List, eqb, length, Ok}
use Rattle.events.specs.declared.Event.TheVariants as event
use Rattle.chip.specs.declared.Core.{Core}
use Rattle.chip.specs.State.{chip_of}
use Rattle.chip_writes.specs.Writes.{write_number}
use Rattle.chip_events.specs.Outcome.{next}
use Rattle.firmware_machine.specs.Seen.{Knows}

-- array, core and what is known, after a write of b to register r that is taken
pub record Changed (registers : List ℕ) (core : Core) (r b : ℕ) (registers' : List ℕ) (core' : Core) (seen' : List ℕ) : Type 0 where
  pub taken : eqb (write_number core.reset r) 0 ≡ true
  pub chip : next (chip_of registers core) (Ok (event.Write r b)) ≡ chip_of registers' core'
  pub knows : Knows seen' (chip_of registers' core')
  pub size : length seen' ≡ 38
  pub high : core'.reset ≡ true
